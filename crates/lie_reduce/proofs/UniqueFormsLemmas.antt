-- On a covering module that is audited, the matrix of a form's word u h n_w v determines the form, in four steps.
--
--   h n_w sends weights by w, between matrices that raise levels: w is determined     one_product, weyl_same
--   u, h and n_w v n_w^-1 are the factors of one triangular product                   triangular
--   the values of the weights determine h, where each axis is covered                 torus_determined
--   the elements of u and of v are peeled off by rising heights                       lists_same
--
-- What the crates below prove of joined words and of weights is taken as parameters; `OneForm` puts it in.
use Rattle.std.proofs.Common.{◌≡◌, ◌≢◌, ℕ, zero, suc, ◌+◌, ◌-◌, ◌<◌, ◌≤◌, List, [], ◌∷◌, ◌++◌, map, length, get_or, sym, ap, ap₂, ◌∙◌, inl, inr, subst, arith, ⊎_elim}
use Rattle.std.specs.Prelude.{ℤ, pos, negsuc, neg_ℤ, ◌+ℤ◌, ◌≤ℤ◌, ◌⊎◌, slice_get}
use Rattle.std.proofs.lemmas.Int.{ints}
use Rattle.std.proofs.lemmas.Bool.{cases_lt, cases_eq, ltb-true}
use Rattle.std.proofs.lemmas.List.{ext_get_or}
use Rattle.lie_ring.specs.Rings.{RingOn, IsElem, IsRing}
use Rattle.lie_ring.specs.RingLemmas.{int_zero, add_mul, neg_mul, zero_add}
use Rattle.lie_ring.specs.Matrices.{Matrix, entry, product, identity}
use Rattle.lie_field.specs.FiniteField.{FiniteField}
use Rattle.lie_field.specs.FieldRing.{field_ring, field_is_ring}
use Rattle.lie_field.specs.Quotient.{order, mul, neg, of_int}
use Rattle.lie_field.specs.Elements.{NonZero}
use Rattle.lie_field.specs.Algebra.FieldTest.{is_lawful}
use Rattle.lie_field.specs.Algebra.Powers
use Rattle.lie_datum.specs.Vectors.{Vector}
use Rattle.lie_datum.specs.RootDatum.{vector, opposite, IsPositive}
use Rattle.lie_datum.specs.RootList.{RootDatum, root_of, IsNumber, IsLoaded}
use Rattle.lie_datum.specs.Laws.{positive_coroots}
use Rattle.lie_datum.proofs.NumberLemmas.{some_within, within, some_map}
use Rattle.lie_datum.proofs.SignedRoots.{opposite_number}
use Rattle.lie_weyl.specs.WeylElement.{SameProduct}
use Rattle.lie_weyl.proofs.Words.{IsWord, letter, is_word}
use Rattle.lie_weyl.proofs.ElementLemmas.{respelled, one_list}
use Rattle.lie_const.specs.Modules.{Module, dimension, root_element, divided_power}
use Rattle.lie_const.specs.Signs.{eta_of}
use Rattle.lie_letters.specs.declared.letter.Letter.{Letter as CodeLetter}
use Rattle.lie_letters.specs.declared.letter.Letter.TheVariants.{X, H, N}
use Rattle.lie_letters.specs.Entries.{AreUnits, character}
use Rattle.lie_letters.specs.Frames.{dim}
use Rattle.lie_letters.specs.SignedFrames.{SignedFrame, unsigned}
use Rattle.lie_letters.specs.Spelled.{IsIndex, IsWordOver, numbers, reversed}
use Rattle.lie_letters.proofs.NameLemmas.{index_of, number_of_index}
use Rattle.lie_letters.proofs.TorusLemmas.{units_of, length-numbers}
use Rattle.lie_unip.specs.Collection.{AreEntries}
use Rattle.lie_unip.specs.Forms.{FormData, IsForm, IsShortest, form_word}
use Rattle.lie_unip.proofs.FormLemmas.{same_form}
use Rattle.lie_bruhat.specs.Rules.{ReversedCancels, ShortestWordsJoined}
use Rattle.lie_audit.specs.WordMatrix.{word_matrix, torus_element, weight_value}
use Rattle.lie_audit.specs.EqualMatrices.{EqualMatrices}
use Rattle.lie_audit.specs.WeylWeights.{reflected_along, weight_at, WeylMovesWeights}
use Rattle.lie_audit.proofs.GradedWeights.{raised}
use Rattle.lie_audit.proofs.WordMatrixLemmas.{joined-words, letter-square}
use Rattle.lie_reduce.specs.Triangular.{IsSquare}
use Rattle.lie_reduce.specs.Levels.{level, Sends}
use Rattle.lie_reduce.specs.UniqueForms.{IsCoveringFor}
use Rattle.lie_reduce.proofs.Peeling.{ArePeelable, peeled, product-square}
use Rattle.lie_reduce.proofs.UniqueFactors.{IsUnipotent, SameTriangular, same_maps, same_triangular, assoc, one_right}
use Rattle.lie_reduce.proofs.RootsPeel.{AreLivePlaces, roots_peel, peel-places}
use Rattle.lie_reduce.proofs.WeylWords.{same_product}
use Rattle.lie_reduce.proofs.TorusWeights.{Agrees, torus_same, agrees-axis, agrees-numbers, agrees-difference, agrees-opposite}
use Rattle.lie_reduce.proofs.WordInverses.{as_square, matrix-square, cancels_left, cancels_right, cancel_before, cancel_behind}
use Rattle.lie_reduce.proofs.RootWords.{AreRootLetters, TurnedWord, turned_word, reversed-letters, letters-over, raises-letters}
use Rattle.lie_reduce.proofs.FormParts.{letters_from, letters-product, factors as factors_of_list}
use Rattle.lie_reduce.proofs.FormRoots.{IsUp, IsDown, IsTurnedDown, rises, falls, list-up, list-turned}
use Rattle.lie_reduce.proofs.WeylSends.{zero_or, sends-along, torus-invertible, torus-diagonal}

module _ (f : SignedFrame) (v : Module) (ground : IsCoveringFor f v) (equal : EqualMatrices) (cancels : ReversedCancels) (shortest : ShortestWordsJoined) (weyl : WeylMovesWeights) where
  abbrev F : FiniteField
  F = f.field

  abbrev R : RingOn ℕ
  R = field_ring f.field

  abbrev ring : IsRing (field_ring f.field)
  ring = field_is_ring f.field

  abbrev d : RootDatum
  d = f.datum

  abbrev n : ℕ
  n = dimension v

  abbrev loaded : IsLoaded f.datum
  loaded = ground.lawful.lawful.loaded

  abbrev matrix : List CodeLetter → Matrix ℕ
  matrix w = word_matrix f.field v w

  abbrev fall : ℕ → ℤ
  fall i = neg_ℤ (level f.datum v i)

  square : (w : List CodeLetter) → IsSquare (field_ring f.field) (dimension v) (word_matrix f.field v w)
  square w = matrix-square f.field v w

  -- ---- words of root letters are unipotent
  unipotent : (P : ℤ → Type 0) (levels : ℕ → ℤ)
      → ((k : ℤ) → IsNumber f.datum k → P k → (m a b : ℕ) → a < dimension v → b < dimension v → entry (pos 0) (divided_power v k (suc m)) a b ≢ pos 0 → (levels b +ℤ pos 1) ≤ℤ levels a)
      → (w : List CodeLetter) → AreRootLetters f.field f.datum P w → IsUnipotent (field_ring f.field) (dimension v) levels (word_matrix f.field v w) (word_matrix f.field v (reversed f.field w))
  unipotent P levels rising w h =
      let over = letters-over F d P f.constants w h in
      record {
        square = square w;
        inverse_square = square (reversed F w);
        raises = raises-letters F d P v levels rising w h;
        inverse_raises = raises-letters F d P v levels rising (reversed F w) (reversed-letters F d P w h);
        left = cancels_left f ground.lawful v ground.audited equal cancels w over;
        right = cancels_right f ground.lawful v ground.audited equal cancels w over;
      }

  pub upper : (us : List ℕ) → AreEntries (field_ring f.field) (length f.datum.positive) us
      → IsUnipotent (field_ring f.field) (dimension v) (level f.datum v) (word_matrix f.field v (letters_from 1 us)) (word_matrix f.field v (reversed f.field (letters_from 1 us)))
  upper us e = unipotent (IsUp d) (level d v) (rises d loaded v ground.audited.graded) (letters_from 1 us) (list-up f loaded us e)

  -- ---- places where the root vectors live
  place_at : (i : ℕ) → (i < length f.datum.positive) ⊎ (length f.datum.positive ≤ i) → ℕ × ℕ
  place_at i (inl low) = let p = ground.covering.live (suc i) (omega arith) (omega (arith, low)) in (p.row, p.col)
  place_at i (inr high) = (0, 0)

  place_lives : (i : ℕ) (c : (i < length f.datum.positive) ⊎ (length f.datum.positive ≤ i)) → i < length f.datum.positive
      → ((place_at i c).0 < dimension v) × ((place_at i c).1 < dimension v) × (of_int f.field.given (entry (pos 0) (divided_power v (pos (suc i)) 1) (place_at i c).0 (place_at i c).1) ≢ 0)
  unfolding place_at
  place_lives i (inl low) l = let p = ground.covering.live (suc i) (omega arith) (omega (arith, low)) in (p.row_within, p.col_within, p.nonzero)
  place_lives i (inr high) l = absurd (let never : ⊥ = omega (arith, high, l) in never)

  pub live : AreLivePlaces (field_ring f.field) f.datum v
  live =
      let c = λ (i : ℕ). cases_lt i (length d.positive) in
      record {
        row = λ i. (place_at i (c i)).0;
        col = λ i. (place_at i (c i)).1;
        row_low = λ i l. (place_lives i (c i) l).0;
        col_low = λ i l. (place_lives i (c i) l).1;
        unit = λ i l. (place_lives i (c i) l).2;
      }

  -- ---- the field
  domain : (a b : ℕ) → IsElem (field_ring f.field) a → IsElem (field_ring f.field) b → mul f.field.given a b ≡ 0 → (a ≡ 0) ⊎ (b ≡ 0)
  domain a b p q e = ⊎_elim
      (λ (none : a ≡ 0). inl none)
      (λ (some : a ≢ 0). inr (Powers.no_zero_divisors F.given (is_lawful F) a b (omega (arith, some)) (ltb-true a (order F.given) p) (ltb-true b (order F.given) q) e))
      (cases_eq a 0)

  pub cancel : (a b e : ℕ) → IsElem (field_ring f.field) a → IsElem (field_ring f.field) b → IsElem (field_ring f.field) e → e ≢ 0 → mul f.field.given a e ≡ mul f.field.given b e → a ≡ b
  cancel a b e p q r some same =
      let laws = ring.laws in
      let minus = laws.neg_elem b q in
      let difference = R.add a (R.neg b) in
      let zero_product : mul F.given difference e ≡ 0 =
      add_mul R laws a (R.neg b) e p minus r
      ∙ ap₂ R.add same (neg_mul R laws b e q r)
      ∙ laws.add_neg (mul F.given b e) (laws.mul_elem b e q r) in
      ⊎_elim
      (λ (none : difference ≡ 0).
      sym (laws.add_zero a p) ∙ ap (R.add a) (sym (laws.add_comm (R.neg b) b minus q ∙ laws.add_neg b q)) ∙ sym (laws.add_assoc a (R.neg b) b p minus q)
      ∙ ap (λ x. R.add x b) none ∙ zero_add R laws b q)
      (λ (none : e ≡ 0). absurd (some none))
      (domain difference e (laws.add_elem a (R.neg b) p minus) r zero_product)

  -- ---- peeling
  pub letter_over : (i a : ℕ) → i < length f.datum.positive → IsElem (field_ring f.field) a → IsWordOver (unsigned f) (X (pos (suc i)) a ∷ [])
  letter_over i a l p = ((some_within d.positive i l, ltb-true a (order F.given) p), tt)

  -- X_r(-a) X_r(a) = 1
  pub inverse_roots : (i a : ℕ) → i < length f.datum.positive → IsElem (field_ring f.field) a
      → product (field_ring f.field) (root_element (field_ring f.field) v (pos (suc i)) (neg f.field.given a)) (root_element (field_ring f.field) v (pos (suc i)) a) ≡ identity (field_ring f.field) (dimension v)
  inverse_roots i a l p =
      sym (ap₂ (product R) (one_letter (pos (suc i)) (neg F.given a)) (one_letter (pos (suc i)) a))
      ∙ cancels_left f ground.lawful v ground.audited equal cancels (X (pos (suc i)) a ∷ []) (letter_over i a l p)
    where
      one_letter : (k : ℤ) (a : ℕ) → word_matrix f.field v (X k a ∷ []) ≡ root_element (field_ring f.field) v k a
      one_letter k a = one_right (field_ring f.field) (field_is_ring f.field) (dimension v) (root_element (field_ring f.field) v k a) (as_square f.field (dimension v) (root_element (field_ring f.field) v k a) (letter-square f.field v (X k a)))

  -- the root elements can be peeled off, at any places where the root vectors live
  pub peel_at : AreLivePlaces (field_ring f.field) f.datum v
      → ArePeelable (field_ring f.field) (dimension v) (length f.datum.positive) (level f.datum v) (λ i a. root_element (field_ring f.field) v (pos (suc i)) a)
  peel_at places = roots_peel R ring d loaded v ground.audited.graded places cancel inverse_roots

  pub peel_at-places : (places : AreLivePlaces (field_ring f.field) f.datum v) (i : ℕ)
      → ((peel_at places).row i ≡ places.row i) × ((peel_at places).col i ≡ places.col i)
      × ((peel_at places).value i ≡ of_int f.field.given (entry (pos 0) (divided_power v (pos (suc i)) 1) (places.row i) (places.col i)))
  unfolding peel_at
  peel_at-places places i = peel-places R ring d loaded v ground.audited.graded places cancel inverse_roots i

  peel : ArePeelable (field_ring f.field) (dimension v) (length f.datum.positive) (level f.datum v) (λ i a. root_element (field_ring f.field) v (pos (suc i)) a)
  peel = peel_at live

  -- lists whose letters have one matrix are equal
  lists_same : (us vs : List ℕ) → AreEntries (field_ring f.field) (length f.datum.positive) us → AreEntries (field_ring f.field) (length f.datum.positive) vs
      → word_matrix f.field v (letters_from 1 us) ≡ word_matrix f.field v (letters_from 1 vs) → us ≡ vs
  lists_same us vs e g same =
      let m = length d.positive in
      let at = λ (ws : List ℕ) (i : ℕ). get_or ws i 0 in
      let made = λ (ws : List ℕ) (h : AreEntries R m ws). letters-product F v m (level d v) peel 0 ws (at ws) (λ i l. ap (at ws) (let e : i ≡ 0 + i = omega arith in e)) in
      let elems = λ (ws : List ℕ) (h : AreEntries R m ws) (i : ℕ) (l : i < m). (let c = h.count in (h.fit i 0 (omega (arith, l, c))).0) in
      let factors = λ (c : ℕ) (ws : List ℕ). factors_of_list F v m (level d v) peel c 0 (at ws) in
      let products : factors m us ≡ factors m vs = ap (λ c. factors c us) (sym e.count) ∙ sym (made us e) ∙ same ∙ made vs g ∙ ap (λ c. factors c vs) g.count in
      ext_get_or 0 us vs (e.count ∙ sym g.count) (λ i l.
      peeled R ring n m (level d v) (λ i a. root_element R v (pos (suc i)) a) peel m 0 (at us) (at vs) (omega arith) (elems us e) (elems vs g) products i (omega arith) (let c = e.count in omega (arith, l, c)))

  -- ---- the torus
  torus_determined : (s t : List ℕ) → AreUnits f.field s → AreUnits f.field t → dim (unsigned f) ≡ length s → dim (unsigned f) ≡ length t
      → ((a : ℕ) → a < dimension v → weight_value f.field v s a ≡ weight_value f.field v t a) → s ≡ t
  torus_determined s t p q long wide same =
      let h = units_of F s p in
      let k = units_of F t q in
      let few = loaded.axioms.input.dim.1 in
      let h_long : length h.0 ≡ d.base.dim = sym (length-numbers F h.0) ∙ ap length h.1 ∙ sym long in
      let k_long : length k.0 ≡ d.base.dim = sym (length-numbers F k.0) ∙ ap length k.1 ∙ sym wide in
      let at_weights = λ (a : ℕ) (l : a < n). agrees h.0 k.0 (weight_at v a)
      (ap (λ z. character F z (weight_at v a)) h.1 ∙ same a l ∙ ap (λ z. character F z (weight_at v a)) (sym k.1)) in
      sym h.1 ∙ ap (numbers F) (torus_same F h.0 k.0 (h_long ∙ sym k_long) (omega (arith, h_long, few)) (λ i l.
      agrees-axis F h.0 k.0 d (at_root h.0 k.0 at_weights) v at_weights (omega (arith, h_long, few)) (omega (arith, k_long, few)) ground.lines ground.cover (suc i) (omega arith) (omega (arith, l, h_long)) (ground.covering.axes (suc i) (omega arith) (omega (arith, l, h_long))))) ∙ k.1
    where
      agrees : (h k : List (NonZero f.field)) (x : Vector) → character f.field (numbers f.field h) x ≡ character f.field (numbers f.field k) x → Agrees f.field h k x
      agrees h k x e = agrees-numbers f.field h k x e

      at_positive : (h k : List (NonZero f.field)) → ((a : ℕ) → a < dimension v → Agrees f.field h k (weight_at v a)) → (i : ℕ) → i < length f.datum.positive → Agrees f.field h k (vector f.datum.base (root_of f.datum (pos (suc i))))
      at_positive h k at i l =
          let p = ground.covering.live (suc i) (omega arith) (omega (arith, l)) in
          let some : entry (pos 0) (divided_power v (pos (suc i)) 1) p.row p.col ≢ pos 0 = λ none. p.nonzero (ap (of_int f.field.given) none ∙ int_zero (field_ring f.field) (field_is_ring f.field)) in
          agrees-difference f.field h k (weight_at v p.row) (weight_at v p.col) (vector f.datum.base (root_of f.datum (pos (suc i))))
          (raised f.datum v ground.audited.graded (pos (suc i)) (some_within f.datum.positive i l) 1 p.row p.col (omega arith) p.row_within p.col_within some)
          (at p.row p.row_within) (at p.col p.col_within)

      at_root : (h k : List (NonZero f.field)) → ((a : ℕ) → a < dimension v → Agrees f.field h k (weight_at v a)) → (r : ℤ) → IsNumber f.datum r → Agrees f.field h k (vector f.datum.base (root_of f.datum r))
      at_root h k at (pos zero) number = cc
      at_root h k at (pos (suc i)) number = at_positive h k at i (within f.datum.positive i number)
      at_root h k at (negsuc i) number =
          let low = within f.datum.positive i (some_map opposite (slice_get f.datum.positive i) number) in
          subst (λ s. Agrees f.field h k (vector f.datum.base s)) (sym (opposite_number f.datum (pos (suc i)) (some_within f.datum.positive i low)).1)
          (agrees-opposite f.field h k f.datum.base (root_of f.datum (pos (suc i))) (at_positive h k at i low))

  -- ---- the parts of the word of a form
  module _ (x : FormData) (is : IsForm f x) (p : List ℕ) (short : IsShortest f.datum x.weyl p) where
    abbrev first : List CodeLetter
    first = letters_from 1 x.first

    abbrev second : List CodeLetter
    second = letters_from 1 x.second

    abbrev along : List CodeLetter
    along = map N p

    pub word : IsWord f.datum.base p
    word = is_word d.base p short.0.letters

    torus-over : IsWordOver (unsigned f) (H x.torus ∷ [])
    torus-over = ((is.long, is.units), tt)

    pub weyl-over : IsWordOver (unsigned f) (map N p)
    weyl-over = weyl_word p word
      where
        weyl_word : (w : List ℕ) → IsWord f.datum.base w → IsWordOver (unsigned f) (map N w)
        weyl_word [] h = tt
        weyl_word (i ∷ w) (letter index h) =
            let j = index_of f.datum loaded (i - 1) (let l = index.0 in let u = index.1 in omega (arith, l, u)) in
            (subst (IsIndex f.datum) (let e = j.1 in let l = index.0 in omega (arith, e, l)) (number_of_index f.datum j.0), weyl_word w h)

    pub middle-over : IsWordOver (unsigned f) (H x.torus ∷ map N p)
    middle-over = (torus-over.0, weyl-over)

    -- u (h n_w v)
    pub parts : word_matrix f.field v (form_word x p) ≡ product (field_ring f.field) (word_matrix f.field v first) (product (field_ring f.field) (word_matrix f.field v (H x.torus ∷ map N p)) (word_matrix f.field v second))
    parts =
        joined-words F v first (H x.torus ∷ (along ++ second))
        ∙ ap (product R (matrix first)) (joined-words F v (H x.torus ∷ along) second)

    -- h n_w sends weights by w
    pub sends : Sends (field_ring f.field) (dimension v) (weight_at v) (word_matrix f.field v (H x.torus ∷ map N p)) (reflected_along f.datum p)
    sends =
        sends-along F v d loaded p word x.torus is.units (matrix along) (matrix (reversed F (H x.torus ∷ along))) (square along) (square (reversed F (H x.torus ∷ along)))
        (cancels_left f ground.lawful v ground.audited equal cancels (H x.torus ∷ along) middle-over)
        (weyl.words F d f.constants (eta_of f.signs) v loaded ground.audited p short.0.letters)

    -- n_w v n_w^-1 is a word of negative roots
    pub below : TurnedWord f.field f.datum loaded f.constants (eta_of f.signs) v ground.audited (IsDown f.datum) p (letters_from 1 x.second)
    below = turned_word F d loaded f.constants (eta_of f.signs) v ground.audited (IsTurnedDown d p) (IsDown d) p word
        (λ k l a t b e up. t.1 (subst IsPositive e up)) second (list-turned f loaded x is p short.0)

    pub lower : IsUnipotent (field_ring f.field) (dimension v) fall (word_matrix f.field v below.word) (word_matrix f.field v (reversed f.field below.word))
    lower = unipotent (IsDown d) fall (falls d loaded v ground.audited.graded) below.word below.letters

    -- u (h (n_w v n_w^-1)) n_w
    pub turned-parts : word_matrix f.field v (form_word x p)
        ≡ product (field_ring f.field) (product (field_ring f.field) (word_matrix f.field v first) (product (field_ring f.field) (torus_element f.field v x.torus) (word_matrix f.field v below.word))) (word_matrix f.field v (map N p))
    turned-parts =
        let U = matrix first in
        let T = torus_element F v x.torus in
        let W = matrix along in
        let V = matrix second in
        let L = matrix below.word in
        let t = (torus-invertible F v x.torus is.units).square in
        let tl = product-square R ring n T L t (square below.word) in
        joined-words F v first (H x.torus ∷ (along ++ second))
        ∙ ap (λ M. product R U (product R T M)) (joined-words F v along second ∙ below.same)
        ∙ ap (product R U) (sym (assoc R ring n T L W t (square below.word) (square along)))
        ∙ sym (assoc R ring n U (product R T L) W (square first) tl (square along))

  -- ---- two forms with one matrix
  module _ (x y : FormData) (is : IsForm f x) (js : IsForm f y) (p q : List ℕ) (hp : IsShortest f.datum x.weyl p) (hq : IsShortest f.datum y.weyl q)
      (same : word_matrix f.field v (form_word x p) ≡ word_matrix f.field v (form_word y q)) where
    one_product : SameProduct f.datum p q
    one_product = same_product d loaded R ring v ground.audited.graded live p q (word x is p hp) (word y js q hq)
        (same_maps R ring n zero_or (weight_at v) (positive_coroots d)
        (matrix (letters_from 1 x.first)) (matrix (reversed F (letters_from 1 x.first))) (matrix (letters_from 1 x.second)) (matrix (reversed F (letters_from 1 x.second)))
        (matrix (letters_from 1 y.first)) (matrix (reversed F (letters_from 1 y.first))) (matrix (letters_from 1 y.second)) (matrix (reversed F (letters_from 1 y.second)))
        (matrix (H x.torus ∷ map N p)) (matrix (H y.torus ∷ map N q)) (reflected_along d p) (reflected_along d q)
        (upper x.first is.first) (upper x.second is.second) (upper y.first js.first) (upper y.second js.second)
        (square (H x.torus ∷ map N p)) (square (H y.torus ∷ map N q)) (sends x is p hp) (sends y js q hq)
        (sym (parts x is p hp) ∙ same ∙ parts y js q hq))

    weyl_same : x.weyl ≡ y.weyl
    weyl_same = one_list d loaded q x.weyl y.weyl (respelled d p q x.weyl hp.0 hq.0.letters one_product) hq.0

    words_same : word_matrix f.field v (map N p) ≡ word_matrix f.field v (map N q)
    words_same = equal f v ground.lawful ground.audited (map N p) (map N q) (shortest f ground.lawful p q hp.0.letters hq.0.letters one_product hp.1 hq.1)

    triangular : SameTriangular (field_ring f.field) (field_is_ring f.field) (dimension v)
        (word_matrix f.field v (letters_from 1 x.first)) (word_matrix f.field v (letters_from 1 y.first)) (torus_element f.field v x.torus) (torus_element f.field v y.torus)
        (word_matrix f.field v (below x is p hp).word) (word_matrix f.field v (below y js q hq).word)
    triangular =
        let T = torus_element F v x.torus in
        let S = torus_element F v y.torus in
        let t = torus-invertible F v x.torus is.units in
        let s = torus-invertible F v y.torus js.units in
        let a = letters_from 1 x.first in
        let b = letters_from 1 y.first in
        let l = (below x is p hp).word in
        let m = (below y js q hq).word in
        let left = product R (matrix a) (product R T (matrix l)) in
        let right = product R (matrix b) (product R S (matrix m)) in
        let sl = product-square R ring n (matrix a) (product R T (matrix l)) (square a) (product-square R ring n T (matrix l) t.square (square l)) in
        let sr = product-square R ring n (matrix b) (product R S (matrix m)) (square b) (product-square R ring n S (matrix m) s.square (square m)) in
        same_triangular R ring n (level d v) fall (λ i. omega (arith, ints)) domain
        (matrix a) (matrix (reversed F a)) (matrix l) (matrix (reversed F l)) (matrix b) (matrix (reversed F b)) (matrix m) (matrix (reversed F m)) T S
        (upper x.first is.first) (lower x is p hp) (upper y.first js.first) (lower y js q hq) t s
        (cancel_behind f ground.lawful v ground.audited equal cancels left right (map N q) sl sr (weyl-over y js q hq)
        (ap (product R left) (sym words_same) ∙ sym (turned-parts x is p hp) ∙ same ∙ turned-parts y js q hq))

    second_matrices : word_matrix f.field v (letters_from 1 x.second) ≡ word_matrix f.field v (letters_from 1 y.second)
    second_matrices =
        let l = below x is p hp in
        let m = below y js q hq in
        cancel_before f ground.lawful v ground.audited equal cancels (matrix (letters_from 1 x.second)) (matrix (letters_from 1 y.second)) (map N q)
        (square (letters_from 1 x.second)) (square (letters_from 1 y.second)) (weyl-over y js q hq)
        (ap (λ M. product R M (matrix (letters_from 1 x.second))) (sym words_same) ∙ l.same ∙ ap₂ (product R) triangular.lower words_same ∙ sym m.same)

    pub form_same : x ≡ y
    form_same = same_form x y
        (lists_same x.first y.first is.first js.first triangular.upper)
        (torus_determined x.torus y.torus is.units js.units is.long js.long (λ a l. sym (torus-diagonal F v x.torus a l) ∙ triangular.diagonal a l ∙ torus-diagonal F v y.torus a l))
        weyl_same
        (lists_same x.second y.second is.second js.second second_matrices)
