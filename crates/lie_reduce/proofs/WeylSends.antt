-- The matrix of h(t) n_w sends weights by w.
use Rattle.std.proofs.Common.{◌≡◌, ◌≢◌, ℕ, ◌<◌, cond, eqb, List, [], ◌∷◌, refl, sym, ap, ◌∙◌, arith, ap₂}
use Rattle.std.specs.Prelude.{neg_ℤ, ◌+ℤ◌, ◌*ℤ◌, ◌⊎◌}
use Rattle.std.proofs.lemmas.Int.{ints}
use Rattle.std.proofs.lemmas.Bool.{cases_eq, eq-eqb, ne_eqb}
use Rattle.lie_ring.specs.RingLemmas.{mul_zero}
use Rattle.lie_ring.specs.Matrices.{Matrix, entry, identity, product, product_term}
use Rattle.lie_ring.specs.MatrixLemmas.{entry-table}
use Rattle.lie_field.specs.FiniteField.{FiniteField}
use Rattle.lie_field.specs.FieldRing.{field_ring, field_is_ring}
use Rattle.lie_datum.specs.Vectors.{Vector, pairing}
use Rattle.lie_datum.specs.RootDatum.{simple_root, simple_coroot, IsSimpleIndex}
use Rattle.lie_datum.specs.RootList.{RootDatum, IsLoaded}
use Rattle.lie_datum.proofs.LoadedLaws.{short}
use Rattle.lie_datum.proofs.Reflections.{pairing-reflected_vector}
use Rattle.lie_weyl.proofs.Words.{IsWord, letter}
use Rattle.lie_orbit.specs.Orbits.{reflected_weight}
use Rattle.lie_const.specs.Modules.{Module, dimension}
use Rattle.lie_letters.specs.Entries.{AreUnits}
use Rattle.lie_letters.proofs.CharacterLemmas.{IsUnit-character}
use Rattle.lie_audit.specs.WordMatrix.{torus_element, weight_value}
use Rattle.lie_audit.specs.WeylWeights.{SameWeight, reflected_along, weight_at, MovesWeights}
use Rattle.lie_audit.proofs.WordMatrixLemmas.{torus-square}
use Rattle.lie_reduce.specs.Triangular.{IsSquare, IsInvertibleDiagonal}
use Rattle.lie_reduce.specs.Levels.{unit_entry, Sends}
use Rattle.lie_reduce.proofs.LevelLemmas.{product-sum_below, right_zero, some_term}
use Rattle.lie_reduce.proofs.Peeling.{product-square}
use Rattle.lie_reduce.proofs.UniqueFactors.{diagonal_left}
use Rattle.lie_reduce.proofs.WordInverses.{as_square}

-- a number is 0 or not
pub zero_or : (x : ℕ) → (x ≡ 0) ⊎ (x ≢ 0)
zero_or x = cases_eq x 0

module _ (d : RootDatum) (loaded : IsLoaded d) where
  -- reflections of different weights are different
  reflected-once : (i : ℕ) → IsSimpleIndex d.base i → (x y : Vector) → SameWeight (reflected_weight d i x) (reflected_weight d i y) → SameWeight x y
  reflected-once i index x y same c =
      let alpha = simple_root d.base i in
      let gamma = simple_coroot d.base i in
      let turn = λ (z e : Vector). pairing-reflected_vector d.base (short d loaded) loaded.axioms.input.corank i z e in
      let two = loaded.axioms.twos i index in
      let x_gamma = turn x gamma ∙ ap (λ s. pairing x gamma +ℤ neg_ℤ (pairing x gamma) *ℤ s) two in
      let y_gamma = turn y gamma ∙ ap (λ s. pairing y gamma +ℤ neg_ℤ (pairing y gamma) *ℤ s) two in
      let at = same gamma in
      let equal : pairing x gamma ≡ pairing y gamma = omega (arith, ints, x_gamma, y_gamma, at) in
      let x_c = turn x c ∙ ap (λ s. pairing x c +ℤ neg_ℤ s *ℤ pairing alpha c) equal in
      let y_c = turn y c in
      let here = same c in
      omega (arith, ints, x_c, y_c, here)

  -- a reflection of one weight is one
  reflected-same : (i : ℕ) (x y : Vector) → SameWeight x y → SameWeight (reflected_weight d i x) (reflected_weight d i y)
  reflected-same i x y same c =
      let turn = λ (z : Vector). pairing-reflected_vector d.base (short d loaded) loaded.axioms.input.corank i z c in
      turn x ∙ ap₂ (λ s t. s +ℤ neg_ℤ t *ℤ pairing (simple_root d.base i) c) (same c) (same (simple_coroot d.base i)) ∙ sym (turn y)

  pub along-same : (p : List ℕ) (x y : Vector) → SameWeight x y → SameWeight (reflected_along d p x) (reflected_along d p y)
  along-same [] x y same = same
  along-same (i ∷ p) x y same = reflected-same i (reflected_along d p x) (reflected_along d p y) (along-same p x y same)

  -- so are words of reflections
  pub along-once : (p : List ℕ) → IsWord d.base p → (x y : Vector) → SameWeight (reflected_along d p x) (reflected_along d p y) → SameWeight x y
  along-once [] h x y same = same
  along-once (i ∷ p) (letter index h) x y same = along-once p h x y (reflected-once i index (reflected_along d p x) (reflected_along d p y) same)

module _ (f : FiniteField) (v : Module) where
  -- the values of a weight at units stand on the diagonal
  pub torus-entry : (t : List ℕ) (i j : ℕ) → i < dimension v → j < dimension v → entry 0 (torus_element f v t) i j ≡ cond (eqb i j) (weight_value f v t i) 0
  unfolding torus_element
  torus-entry t i j p q = entry-table 0 (dimension v) (dimension v) (λ i j. cond (eqb i j) (weight_value f v t i) 0) i j p q

  pub torus-diagonal : (t : List ℕ) (i : ℕ) → i < dimension v → entry 0 (torus_element f v t) i i ≡ weight_value f v t i
  torus-diagonal t i p = torus-entry t i i p p ∙ ap (λ b. cond b (weight_value f v t i) 0) (eq-eqb i i refl)

  pub torus-invertible : (t : List ℕ) → AreUnits f t → IsInvertibleDiagonal (field_ring f) (dimension v) (torus_element f v t)
  torus-invertible t units = record {
    square = as_square f (dimension v) (torus_element f v t) (torus-square f v t);
    beside = λ i j p q apart. torus-entry t i j p q ∙ ap (λ b. cond b (weight_value f v t i) 0) (ne_eqb i j apart);
    units = λ i p none. (let h = (IsUnit-character f t (weight_at v i) units).0 in absurd (value_apart i p none h));
  }
    where
      value_apart : (i : ℕ) → i < dimension v → entry 0 (torus_element f v t) i i ≡ 0 → 0 < weight_value f v t i → ⊥
      value_apart i p none h = (let e = sym (torus-diagonal t i p) ∙ none in let never : ⊥ = omega (arith, h, e) in never)

  -- a matrix with an inverse has no column of zeros
  column : (W Z : Matrix ℕ) → IsSquare (field_ring f) (dimension v) W → IsSquare (field_ring f) (dimension v) Z → product (field_ring f) Z W ≡ identity (field_ring f) (dimension v)
      → (j : ℕ) → j < dimension v → (i : ℕ) × (i < dimension v) × (entry 0 W i j ≢ 0)
  column W Z w z inverse j low =
      let R = field_ring f in
      let ring = field_is_ring f in
      let n = dimension v in
      let one : entry 0 (product R Z W) j j ≡ 1 = ap (λ M. entry 0 M j j) inverse ∙ entry-table 0 n n (unit_entry R) j j low low ∙ ap (λ b. cond b 1 0) (eq-eqb j j refl) in
      let r = some_term R ring n zero_or n (product_term R Z W j j) (λ e. (let both = sym one ∙ product-sum_below R ring n Z W z w j j low low ∙ e in absurd (let never : ⊥ = omega (arith, both) in never))) in
      (r.0, r.1, (λ none. r.2 (right_zero R ring n Z W z j j r.0 low r.1 none)))

  -- h(t) n_w sends weights by w
  pub sends-along : (d : RootDatum) → IsLoaded d → (p : List ℕ) → IsWord d.base p → (t : List ℕ) → AreUnits f t → (W Z : Matrix ℕ)
      → IsSquare (field_ring f) (dimension v) W → IsSquare (field_ring f) (dimension v) Z → product (field_ring f) Z (product (field_ring f) (torus_element f v t) W) ≡ identity (field_ring f) (dimension v)
      → MovesWeights 0 v (reflected_along d p) W
      → Sends (field_ring f) (dimension v) (weight_at v) (product (field_ring f) (torus_element f v t) W) (reflected_along d p)
  sends-along d loaded p h t units W Z w z inverse moves =
      let R = field_ring f in
      let ring = field_is_ring f in
      let n = dimension v in
      let T = torus_element f v t in
      let diagonal = torus-invertible t units in
      record {
        to = λ i j a b some. moves i j a b (λ none. some (diagonal_left R ring n T W diagonal w i j a b ∙ ap (R.mul (entry 0 T i i)) none ∙ mul_zero R ring.laws (entry 0 T i i) (diagonal.square.elem i i (high diagonal i a) (wide diagonal i a))));
        one_to_one = along-once d loaded p h;
        full = column (product R T W) Z (product-square R ring n T W diagonal.square w) z inverse;
      }
    where
      high : (T : IsInvertibleDiagonal (field_ring f) (dimension v) (torus_element f v t)) → (i : ℕ) → i < dimension v → i < (torus_element f v t).height
      high T i a = (let e = ap (λ M. M.height) T.square.shape in omega (arith, a, e))

      wide : (T : IsInvertibleDiagonal (field_ring f) (dimension v) (torus_element f v t)) → (i : ℕ) → i < dimension v → i < (torus_element f v t).width
      wide T i a = (let e = ap (λ M. M.width) T.square.shape in omega (arith, a, e))
