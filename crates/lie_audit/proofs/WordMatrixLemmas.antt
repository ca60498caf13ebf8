-- Matrices of letters and of words: they are square with elements as entries, and joined words have the product.
-- Source: any text on algebra (matrices over a commutative ring).
use Rattle.std.proofs.Common.{◌≡◌, ℕ, zero, suc, take, length, ◌<◌, ◌+◌, ℤ, List, [], ◌∷◌, ◌++◌, cond, eqb, true, false, Bool, refl, sym, ap, ap₂, subst, ◌∙◌, arith, pos, neg_ℤ, get_or}
use Rattle.std.specs.List.{AllByRecursion}
use Rattle.std.proofs.lemmas.List.{take_more}
use Rattle.std.proofs.lemmas.Bool.{lt-ltb}
use Rattle.std.proofs.lemmas.Bool.Decides.{nat_tests}
use Rattle.lie_ring.specs.Matrices.{Matrix, table, identity, product, product_entry, with_entry, AllElem, IsShaped}
use Rattle.lie_ring.specs.MatrixLemmas.{entry-table, table-same, table-shaped}
use Rattle.lie_ring.specs.MatrixElements.{table-elem, product-elem}
use Rattle.lie_ring.specs.MatrixLaws.{product-assoc, one-product, product-one}
use Rattle.lie_mat.specs.Parts.{is_before, partial_table}
use Rattle.lie_field.specs.FiniteField.{FiniteField}
use Rattle.lie_field.specs.Quotient.{order, neg}
use Rattle.lie_field.specs.FieldRing.{field_ring, field_is_ring}
use Rattle.lie_field.specs.Algebra.FieldTest.{is_lawful}
use Rattle.lie_field.specs.Algebra.Laws.{add_below, mul_below}
use Rattle.lie_field.specs.Algebra.Powers.{one_below}
use Rattle.lie_datum.specs.Vectors.{Vector}
use Rattle.lie_datum.specs.RootDatum.{IsSimpleIndex}
use Rattle.lie_datum.specs.RootList.{RootDatum, IsNumber}
use Rattle.lie_const.specs.ConstantTables.{ConstantTable}
use Rattle.lie_const.specs.Modules.{Module, dimension, root_element, root_element_entry, weyl_element, weyl_inverse}
use Rattle.lie_letters.specs.declared.letter.Letter.{Letter as CodeLetter}
use Rattle.lie_letters.specs.declared.letter.Letter.TheVariants.{X, H, N, Ninv}
use Rattle.lie_letters.specs.Entries.{character, AreUnits}
use Rattle.lie_letters.specs.Spelled.{IsLetterOver}
use Rattle.lie_audit.specs.WordMatrix.{frame_with, IsLetterFor, IsWordFor, torus_element, letter_matrix, word_matrix, JoinedWordsMultiply}

-- a diagonal that is filled up to row i
pub diagonal-next : (n i : ℕ) (f : ℕ → ℕ) → i < n → (let diagonal = λ (k l : ℕ). cond (eqb k l) (f k) 0 in with_entry 0 (partial_table 0 n n diagonal i 0) i i (f i) ≡ partial_table 0 n n diagonal (i + 1) 0)
diagonal-next n i f p =
    let diagonal = λ (k l : ℕ). cond (eqb k l) (f k) 0 in
    let filled = λ (r : ℕ) (k l : ℕ). cond (is_before r 0 k l) (diagonal k l) 0 in
    table-same n n _ (filled (i + 1)) (λ k l b c.
    let old = entry-table 0 n n (filled i) k l b c in
    ap (λ x. cond (eqb k i) (cond (eqb l i) (f i) x) x) old
    ∙ step k l)
  where
    step : (k l : ℕ) → cond (eqb k i) (cond (eqb l i) (f i) (cond (is_before i 0 k l) (cond (eqb k l) (f k) 0) 0)) (cond (is_before i 0 k l) (cond (eqb k l) (f k) 0) 0) ≡ cond (is_before (i + 1) 0 k l) (cond (eqb k l) (f k) 0) 0
    step k l = grind (arith, nat_tests)

-- a square matrix of dimension n whose entries are elements
pub record IsSquareOver (f : FiniteField) (n : ℕ) (M : Matrix ℕ) : Type 0 where
  pub height : M.height ≡ n
  pub width : M.width ≡ n
  pub shaped : IsShaped 0 M
  pub elem : AllElem (field_ring f) M

module _ (f : FiniteField) where
  -- a table of elements
  pub square-table : (n : ℕ) (g : ℕ → ℕ → ℕ) → ((i j : ℕ) → g i j < order f.given) → IsSquareOver f n (table n n g)
  square-table n g below = record {
    height = refl;
    width = refl;
    shaped = table-shaped 0 n n g;
    elem = table-elem (field_ring f) (field_is_ring f) n n g (λ i j _ _. lt-ltb (g i j) (order f.given) (below i j));
  }

  -- the product of two
  pub square-times : (n : ℕ) (L M : Matrix ℕ) → IsSquareOver f n L → IsSquareOver f n M → IsSquareOver f n (product (field_ring f) L M)
  square-times n L M a b = record {
    height = a.height;
    width = b.width;
    shaped = table-shaped 0 L.height M.width (product_entry (field_ring f) L M);
    elem = product-elem (field_ring f) (field_is_ring f) L M (a.width ∙ sym b.height) a.elem b.elem;
  }

  -- the value of a character is an element
  character_below : (t : List ℕ) (v : Vector) → character f t v < order f.given
  character_below [] v = one_below f.given (is_lawful f).ring
  character_below (a ∷ t) [] = one_below f.given (is_lawful f).ring
  character_below (a ∷ t) (c ∷ v) = mul_below f.given (is_lawful f).ring _ _

  zero_below : 0 < order f.given
  zero_below = let h = one_below f.given (is_lawful f).ring in omega (arith, h)

  either_below : (b : Bool) (x y : ℕ) → x < order f.given → y < order f.given → cond b x y < order f.given
  either_below true x y p q = p
  either_below false x y p q = q

  module _ (v : Module) where
    -- root elements
    pub root-square : (r : ℤ) (a : ℕ) → IsSquareOver f (dimension v) (root_element (field_ring f) v r a)
    unfolding root_element
    root-square r a = square-table (dimension v) (root_element_entry (field_ring f) v r a) (λ i j. add_below f.given (is_lawful f).ring _ _)

    pub root-square-of : (M : Matrix ℕ) (r : ℤ) (a : ℕ) → M ≡ root_element (field_ring f) v r a → IsSquareOver f (dimension v) M
    root-square-of M r a e = subst (IsSquareOver f (dimension v)) (sym e) (root-square r a)

    -- torus elements
    pub torus-square : (t : List ℕ) → IsSquareOver f (dimension v) (torus_element f v t)
    unfolding torus_element
    torus-square t = square-table (dimension v) _ (λ i j. either_below (eqb i j) _ 0 (character_below t (get_or v.weights i [])) zero_below)

    -- X_r(a) X_-r(b) X_r(a)
    abbrev pub three : ℤ → ℕ → ℕ → Matrix ℕ
    three r a b = product (field_ring f) (root_element (field_ring f) v r a) (product (field_ring f) (root_element (field_ring f) v (neg_ℤ r) b) (root_element (field_ring f) v r a))

    pub three-square : (r : ℤ) (a b : ℕ) → IsSquareOver f (dimension v) (three r a b)
    three-square r a b =
        let outer = root-square r a in
        let inner = root-square (neg_ℤ r) b in
        square-times (dimension v) _ _ outer (square-times (dimension v) _ _ inner outer)

    -- that of equal numbers
    three-same : (r s : ℤ) (a b x y : ℕ) → r ≡ s → a ≡ x → b ≡ y → three r a b ≡ three s x y
    three-same r s a b x y e g h = ap₂ (λ r a. three r a b) e g ∙ ap (three s x) h

    -- N_i
    pub weyl-three : (r : ℤ) (i a b : ℕ) → r ≡ pos i → a ≡ 1 → b ≡ neg f.given 1 → three r a b ≡ weyl_element (field_ring f) v i
    unfolding weyl_element
    weyl-three r i a b e g h = three-same r (pos i) a b 1 (neg f.given 1) e g h

    -- N_i^-1
    pub inverse-three : (r : ℤ) (i a b : ℕ) → r ≡ pos i → a ≡ neg f.given 1 → b ≡ 1 → three r a b ≡ weyl_inverse (field_ring f) v i
    unfolding weyl_inverse
    inverse-three r i a b e g h = three-same r (pos i) a b (neg f.given 1) 1 e g h

    -- letters
    pub letter-square : (x : CodeLetter) → IsSquareOver f (dimension v) (letter_matrix f v x)
    unfolding weyl_element weyl_inverse
    letter-square (X r a) = root-square r a
    letter-square (H t) = torus-square t
    letter-square (N i) = three-square (pos i) _ _
    letter-square (Ninv i) = three-square (pos i) _ _

    -- the identity
    pub one-square : IsSquareOver f (dimension v) (identity (field_ring f) (dimension v))
    one-square = square-table (dimension v) _ (λ i j. either_below (eqb i j) 1 0 (one_below f.given (is_lawful f).ring) zero_below)

    -- words
    pub word-square : (w : List CodeLetter) → IsSquareOver f (dimension v) (word_matrix f v w)
    word-square [] = one-square
    word-square (x ∷ w) = square-times (dimension v) _ _ (letter-square x) (word-square w)

    -- 1 M = M
    pub one-before : (M : Matrix ℕ) → IsSquareOver f (dimension v) M → product (field_ring f) (identity (field_ring f) (dimension v)) M ≡ M
    one-before M s = ap (λ m. product (field_ring f) (identity (field_ring f) m) M) (sym s.height) ∙ one-product (field_ring f) (field_is_ring f) M s.shaped s.elem

    -- M 1 = M
    pub one-behind : (M : Matrix ℕ) → IsSquareOver f (dimension v) M → product (field_ring f) M (identity (field_ring f) (dimension v)) ≡ M
    one-behind M s = ap (λ m. product (field_ring f) M (identity (field_ring f) m)) (sym s.width) ∙ product-one (field_ring f) (field_is_ring f) M s.shaped s.elem

    -- the matrix of a joined word
    pub word-joined : (u w : List CodeLetter) → word_matrix f v (u ++ w) ≡ product (field_ring f) (word_matrix f v u) (word_matrix f v w)
    word-joined [] w = sym (one-before (word_matrix f v w) (word-square w))
    word-joined (x ∷ u) w =
        let a = letter-square x in
        let b = word-square u in
        let c = word-square w in
        ap (product (field_ring f) (letter_matrix f v x)) (word-joined u w)
        ∙ sym (product-assoc (field_ring f) (field_is_ring f) (letter_matrix f v x) (word_matrix f v u) (word_matrix f v w) (a.width ∙ sym b.height) (b.width ∙ sym c.height) a.elem b.elem c.elem)

    -- a letter behind a word
    pub word-behind : (u : List CodeLetter) (x : CodeLetter) → product (field_ring f) (word_matrix f v u) (letter_matrix f v x) ≡ word_matrix f v (u ++ x ∷ [])
    word-behind u x = sym (word-joined u (x ∷ []) ∙ ap (product (field_ring f) (word_matrix f v u)) (one-behind (letter_matrix f v x) (letter-square x)))

-- constants, to read a condition that asks for some
none : ConstantTable
none = record { positive = 0; values = []; terms = [] }

module _ (f : FiniteField) (d : RootDatum) (x : CodeLetter) (over : IsLetterFor f d x) where
  -- what is asked of a root letter, of a torus letter, and of an n_i and its inverse
  pub for-X : (r : ℤ) (a : ℕ) → x ≡ X r a → IsNumber d r × (a < order f.given)
  for-X r a e = subst (IsLetterOver (frame_with f d none)) e (over none)

  pub for-H : (t : List ℕ) → x ≡ H t → AreUnits f t
  for-H t e = (subst (IsLetterOver (frame_with f d none)) e (over none)).1

  pub for-N : (i : ℕ) → x ≡ N i → IsSimpleIndex d.base i
  for-N i e = (subst (IsLetterOver (frame_with f d none)) e (over none)).0

  pub for-Ninv : (i : ℕ) → x ≡ Ninv i → IsSimpleIndex d.base i
  for-Ninv i e = (subst (IsLetterOver (frame_with f d none)) e (over none)).0

-- the letter in the place k of a word
letter_at : (P : CodeLetter → Type 0) (k : ℕ) (w : List CodeLetter) (d : CodeLetter) → AllByRecursion P w → k < length w → d ≡ get_or w k d → P d
letter_at P k [] d h lt is = absurd (omega (arith, lt))
letter_at P zero (x ∷ w) d h lt is = subst P (sym is) h.0
letter_at P (suc k) (x ∷ w) d h lt is = letter_at P k w d h.1 (omega (arith, lt)) is

pub letter-for : (f : FiniteField) (d : RootDatum) (w : List CodeLetter) (k : ℕ) (x : CodeLetter) → IsWordFor f d w → k < length w → x ≡ get_or w k x → IsLetterFor f d x
letter-for f d w k x over lt is = λ c. letter_at (IsLetterOver (frame_with f d c)) k w x (over c) lt is

module _ (f : FiniteField) (v : Module) where
  -- matrices that are those of words and letters
  pub word-square-of : (M : Matrix ℕ) (w : List CodeLetter) → M ≡ word_matrix f v w → IsSquareOver f (dimension v) M
  word-square-of M w e = subst (IsSquareOver f (dimension v)) (sym e) (word-square f v w)

  pub letter-square-of : (M : Matrix ℕ) (x : CodeLetter) → M ≡ letter_matrix f v x → IsSquareOver f (dimension v) M
  letter-square-of M x e = subst (IsSquareOver f (dimension v)) (sym e) (letter-square f v x)

  -- the first letters with the next one
  pub word-next : (w : List CodeLetter) (k : ℕ) (x : CodeLetter) (L M : Matrix ℕ) → k < length w → x ≡ get_or w k x → L ≡ word_matrix f v (take k w) → M ≡ letter_matrix f v x → product (field_ring f) L M ≡ word_matrix f v (take (k + 1) w)
  word-next w k x L M lt is e g =
      ap₂ (product (field_ring f)) e g ∙ word-behind f v (take k w) x
      ∙ ap (word_matrix f v) (ap (λ y. take k w ++ y ∷ []) is ∙ sym (take_more w k x lt))

-- the law
pub joined-words : JoinedWordsMultiply
joined-words f v u w = word-joined f v u w
