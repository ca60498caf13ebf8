-- Words of root letters, all at roots of one kind: their matrices raise levels, and letters n_i turn them into such words.
use Rattle.std.proofs.Common.{◌≡◌, ◌≢◌, ℕ, suc, ◌<◌, List, [], ◌∷◌, ◌++◌, map, refl, sym, ap, ◌∙◌, subst, arith, append_assoc}
use Rattle.std.specs.Prelude.{ℤ, pos, ◌+ℤ◌, ◌≤ℤ◌}
use Rattle.std.specs.List.{AllByRecursion}
use Rattle.std.proofs.lemmas.Int.{ints}
use Rattle.std.proofs.lemmas.Bool.{ltb-true}
use Rattle.lie_ring.specs.Rings.{IsElem}
use Rattle.lie_ring.specs.Matrices.{entry, product}
use Rattle.lie_field.specs.FiniteField.{FiniteField}
use Rattle.lie_field.specs.FieldRing.{field_ring, field_is_ring}
use Rattle.lie_field.specs.Quotient.{order, mul, of_int}
use Rattle.lie_datum.specs.RootDatum.{reflected, is_reflected, IsSimpleIndex}
use Rattle.lie_datum.specs.RootList.{RootDatum, root_of, IsNumber, IsLoaded}
use Rattle.lie_datum.proofs.SignedRoots.{root_is, number_is}
use Rattle.lie_weyl.specs.WeylElement.{moved}
use Rattle.lie_weyl.proofs.Words.{IsWord, letter}
use Rattle.lie_const.specs.ConstantTables.{ConstantTable}
use Rattle.lie_const.specs.Signs.{Signs, image}
use Rattle.lie_const.specs.Modules.{Module, dimension, divided_power}
use Rattle.lie_const.proofs.FoundRoots.{number_of_is}
use Rattle.lie_letters.specs.declared.letter.Letter.{Letter as CodeLetter}
use Rattle.lie_letters.specs.declared.letter.Letter.TheVariants.{X, H, N, Ninv}
use Rattle.lie_letters.specs.Spelled.{IsWordOver, inverted, reversed}
use Rattle.lie_letters.proofs.ReversedLemmas.{reversed-cons}
use Rattle.lie_identities.specs.Audit.{MeetsIdentities}
use Rattle.lie_audit.specs.WordMatrix.{word_matrix, letter_matrix}
use Rattle.lie_audit.proofs.WordMatrixLemmas.{letter-square, joined-words}
use Rattle.lie_audit.proofs.RootRelations.{s7-holds}
use Rattle.lie_reduce.specs.Levels.{Raises}
use Rattle.lie_reduce.proofs.LevelLemmas.{raises-product}
use Rattle.lie_reduce.proofs.Peeling.{raises-identity}
use Rattle.lie_reduce.proofs.RootLevels.{raises-root}
use Rattle.lie_reduce.proofs.UniqueFactors.{assoc}
use Rattle.lie_reduce.proofs.WordInverses.{as_square, matrix-square}

-- a root letter, at a root with P
abbrev pub IsRootLetter : FiniteField → RootDatum → (ℤ → Type 0) → CodeLetter → Type 0
IsRootLetter f d P (X k a) = IsNumber d k × P k × IsElem (field_ring f) a
IsRootLetter f d P (H t) = ⊥
IsRootLetter f d P (N i) = ⊥
IsRootLetter f d P (Ninv i) = ⊥

-- a word of such letters
abbrev pub AreRootLetters : FiniteField → RootDatum → (ℤ → Type 0) → List CodeLetter → Type 0
AreRootLetters f d P w = AllByRecursion (IsRootLetter f d P) w

-- two words with a property of letters, joined
both_parts : (Q : CodeLetter → Type 0) (u w : List CodeLetter) → AllByRecursion Q u → AllByRecursion Q w → AllByRecursion Q (u ++ w)
both_parts Q [] w g h = h
both_parts Q (x ∷ u) w g h = (g.0, both_parts Q u w g.1 h)

module _ (f : FiniteField) (d : RootDatum) (P : ℤ → Type 0) where
  -- the reversed word is one of such letters
  pub reversed-letters : (w : List CodeLetter) → AreRootLetters f d P w → AreRootLetters f d P (reversed f w)
  reversed-letters [] h = tt
  reversed-letters (X k a ∷ w) h =
      subst (AreRootLetters f d P) (sym (reversed-cons f (X k a) w))
      (both_parts (IsRootLetter f d P) (reversed f w) (inverted f (X k a) ∷ []) (reversed-letters w h.1) ((h.0.0, h.0.1, (field_is_ring f).laws.neg_elem a h.0.2), tt))
  reversed-letters (H t ∷ w) h = absurd h.0
  reversed-letters (N i ∷ w) h = absurd h.0
  reversed-letters (Ninv i ∷ w) h = absurd h.0

  -- the word is one of each frame of the field and the datum
  pub letters-over : (c : ConstantTable) (w : List CodeLetter) → AreRootLetters f d P w → IsWordOver (record { field = f; datum = d; constants = c }) w
  letters-over c [] h = tt
  letters-over c (X k a ∷ w) h = ((h.0.0, ltb-true a (order f.given) h.0.2), letters-over c w h.1)
  letters-over c (H t ∷ w) h = absurd h.0
  letters-over c (N i ∷ w) h = absurd h.0
  letters-over c (Ninv i ∷ w) h = absurd h.0

  module _ (v : Module) (levels : ℕ → ℤ)
      (rising : (k : ℤ) → IsNumber d k → P k → (m a b : ℕ) → a < dimension v → b < dimension v → entry (pos 0) (divided_power v k (suc m)) a b ≢ pos 0 → (levels b +ℤ pos 1) ≤ℤ levels a) where
    -- where the root vectors raise levels, the matrix of the word does
    pub raises-letters : (w : List CodeLetter) → AreRootLetters f d P w → Raises (field_ring f) (dimension v) levels (pos 1) (word_matrix f v w)
    raises-letters [] h = raises-identity (field_ring f) (field_is_ring f) (dimension v) levels (pos 1)
    raises-letters (X k a ∷ w) h =
        raises-product (field_ring f) (field_is_ring f) (dimension v) levels (pos 1) (omega (arith, ints)) (letter_matrix f v (X k a)) (word_matrix f v w)
        (as_square f (dimension v) (letter_matrix f v (X k a)) (letter-square f v (X k a))) (matrix-square f v w)
        (raises-root (field_ring f) (field_is_ring f) v levels (pos 1) k a h.0.2 (rising k h.0.0 h.0.1)) (raises-letters w h.1)
    raises-letters (H t ∷ w) h = absurd h.0
    raises-letters (N i ∷ w) h = absurd h.0
    raises-letters (Ninv i ∷ w) h = absurd h.0

module _ (f : FiniteField) (d : RootDatum) (loaded : IsLoaded d) (c : ConstantTable) (eta : Signs) (v : Module) (meets : MeetsIdentities d c eta v) where
  -- the number of the root s_i s
  image_is : (i : ℕ) (k : ℤ) → IsSimpleIndex d.base i → IsNumber d k → IsNumber d (image d i k) × (root_of d (image d i k) ≡ reflected d.base i (root_of d k))
  image_is i k index number =
      let r = reflected d.base i (root_of d k) in
      let found = number_is d loaded r (is_reflected i (root_of d k) index (root_is d loaded k number)) in
      let e = number_of_is d loaded found.0 r.coeffs found.1 (ap (λ s. s.coeffs) found.2) in
      (subst (IsNumber d) (sym e) found.1, ap (root_of d) e ∙ found.2)

  -- what n_w x_k(a) n_w^-1 is
  pub record Turned (p : List ℕ) (k : ℤ) (a : ℕ) : Type 0 where
    pub number : ℤ
    pub element : ℕ
    pub is_number : IsNumber d number
    pub root : root_of d number ≡ moved d.base p (root_of d k)
    pub is_elem : IsElem (field_ring f) element
    pub same : word_matrix f v (map N p ++ (X k a ∷ [])) ≡ word_matrix f v (X number element ∷ map N p)

  -- a word of letters n_i turns a root letter
  turned : (p : List ℕ) → IsWord d.base p → (k : ℤ) (a : ℕ) → IsNumber d k → IsElem (field_ring f) a → Turned p k a
  turned [] h k a number elem = record { number = k; element = a; is_number = number; root = refl; is_elem = elem; same = refl }
  turned (i ∷ p) (letter index h) k a number elem =
      let R = field_ring f in
      let t = turned p h k a number elem in
      let im = image_is i t.number index t.is_number in
      let b = mul f.given (of_int f.given (eta i t.number)) t.element in
      record {
        number = image d i t.number;
        element = b;
        is_number = im.0;
        root = im.1 ∙ ap (reflected d.base i) t.root;
        is_elem = (field_is_ring f).laws.mul_elem (of_int f.given (eta i t.number)) t.element ((field_is_ring f).integers.int_elem (eta i t.number)) t.is_elem;
        same =
            ap (product R (letter_matrix f v (N i))) t.same
            ∙ joined-words f v (N i ∷ X t.number t.element ∷ []) (map N p)
            ∙ ap (λ M. product R M (word_matrix f v (map N p))) (s7-holds f d c eta v meets i t.number index t.is_number t.element t.is_elem)
            ∙ sym (joined-words f v (X (image d i t.number) b ∷ N i ∷ []) (map N p));
      }

  -- a word of root letters is turned into one of root letters
  pub record TurnedWord (P : ℤ → Type 0) (p : List ℕ) (w : List CodeLetter) : Type 0 where
    pub word : List CodeLetter
    pub letters : AreRootLetters f d P word
    pub same : product (field_ring f) (word_matrix f v (map N p)) (word_matrix f v w) ≡ product (field_ring f) (word_matrix f v word) (word_matrix f v (map N p))

  pub turned_word : (P Q : ℤ → Type 0) (p : List ℕ) → IsWord d.base p
      → ((k l : ℤ) → IsNumber d k → P k → IsNumber d l → root_of d l ≡ moved d.base p (root_of d k) → Q l)
      → (w : List CodeLetter) → AreRootLetters f d P w → TurnedWord Q p w
  turned_word P Q p h to [] g = record {
    word = [];
    letters = tt;
    same = sym (joined-words f v (map N p) []) ∙ ap (word_matrix f v) (append_none (map N p)) ∙ joined-words f v [] (map N p);
  }
    where
      append_none : (u : List CodeLetter) → u ++ [] ≡ u
      append_none [] = refl
      append_none (x ∷ u) = ap (λ z. x ∷ z) (append_none u)
  turned_word P Q p h to (X k a ∷ w) g =
      let R = field_ring f in
      let ring = field_is_ring f in
      let n = dimension v in
      let W = word_matrix f v (map N p) in
      let t = turned p h k a g.0.0 g.0.2 in
      let rest = turned_word P Q p h to w g.1 in
      let x = X t.number t.element in
      let T = letter_matrix f v x in
      let K = letter_matrix f v (X k a) in
      let S = word_matrix f v w in
      let U = word_matrix f v rest.word in
      let tt_square = as_square f n T (letter-square f v x) in
      let k_square = as_square f n K (letter-square f v (X k a)) in
      record {
        word = x ∷ rest.word;
        letters = ((t.is_number, to k t.number g.0.0 g.0.1 t.is_number t.root, t.is_elem), rest.letters);
        same =
            sym (joined-words f v (map N p) (X k a ∷ w))
            ∙ ap (word_matrix f v) (sym (append_assoc (map N p) (X k a ∷ []) w))
            ∙ joined-words f v (map N p ++ (X k a ∷ [])) w
            ∙ ap (λ M. product R M S) t.same
            ∙ assoc R ring n T W S tt_square (matrix-square f v (map N p)) (matrix-square f v w)
            ∙ ap (product R T) rest.same
            ∙ sym (assoc R ring n T U W tt_square (matrix-square f v rest.word) (matrix-square f v (map N p)));
      }
  turned_word P Q p h to (H t ∷ w) g = absurd g.0
  turned_word P Q p h to (N i ∷ w) g = absurd g.0
  turned_word P Q p h to (Ninv i ∷ w) g = absurd g.0
