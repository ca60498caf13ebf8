-- The root elements of the positive roots, in their order, can be peeled off on a graded module that is live at each of them.
use Rattle.std.proofs.Common.{◌≡◌, ◌≢◌, ℕ, zero, suc, ◌<◌, cond, List, length, refl, ap, ap₂, ◌∙◌, ◌∷◌, arith}
use Rattle.std.specs.Prelude.{ℤ, pos, ◌+ℤ◌, ◌*ℤ◌, ◌≤ℤ◌, ◌⊎◌, slice_index_or, []}
use Rattle.std.proofs.lemmas.Int.{ints}
use Rattle.std.proofs.lemmas.Bool.{ne_eqb}
use mathlib.Core.Logic.{⊎_elim}
use Rattle.lie_ring.specs.Rings.{RingOn, IsElem, IsRing}
use Rattle.lie_ring.specs.RingLemmas.{mul_zero, one_mul, zero_add, add_mul, int_zero}
use Rattle.lie_ring.specs.Integers.{integers}
use Rattle.lie_ring.specs.IntegerLaws.{integers_ring}
use Rattle.lie_ring.specs.SumLemmas.{sum-only, sum-zeros}
use Rattle.lie_ring.specs.Powers.{power}
use Rattle.lie_ring.specs.Matrices.{Matrix, entry, identity, product, zero_matrix}
use Rattle.lie_ring.specs.MatrixLemmas.{entry-table}
use Rattle.lie_datum.specs.Vectors.{Vector, pairing, times}
use Rattle.lie_datum.specs.RootDatum.{vector, IsRoot, IsPositive}
use Rattle.lie_datum.specs.RootList.{RootDatum, root_of, IsNumber, IsLoaded, height}
use Rattle.lie_datum.proofs.Linear.{pairing-plus, pairing-times}
use Rattle.lie_datum.proofs.LoadedLaws.{height_law_holds}
use Rattle.lie_datum.proofs.NumberLemmas.{some_within}
use Rattle.lie_datum.proofs.SignedRoots.{root_is, same_number}
use Rattle.lie_datum.proofs.HeightLemmas.{height_positive, number_is_positive, before_by_height}
use Rattle.lie_const.specs.Modules.{Module, dimension, top, divided_power, divided_powers, root_element, root_element_entry}
use Rattle.lie_identities.specs.Audit.{IsGraded}
use Rattle.lie_identities.proofs.FactorLemmas.{power-elem, step-elem}
use Rattle.lie_audit.proofs.GradedWeights.{raised}
use Rattle.lie_reduce.specs.Levels.{unit_entry, level}
use Rattle.lie_reduce.proofs.LevelLemmas.{le_cases}
use Rattle.lie_reduce.proofs.Peeling.{ArePeelable}
use Rattle.lie_reduce.proofs.RootLevels.{root-square, raises-root, graded_level}
use Rattle.lie_reduce.proofs.RootsApart.{roots_apart}

module _ (d : RootDatum) (loaded : IsLoaded d) (v : Module) (graded : IsGraded d v) where
  -- the number of the root in place i, which counts from 0
  abbrev pub at_place : ℕ → ℤ
  at_place i = pos (suc i)

  number : (i : ℕ) → i < length d.positive → IsNumber d (at_place i)
  number i low = some_within d.positive i low

  is_root : (i : ℕ) → i < length d.positive → IsRoot d.base (root_of d (at_place i))
  is_root i low = root_is d loaded (at_place i) (number i low)

  positive : (i : ℕ) → i < length d.positive → IsPositive (root_of d (at_place i))
  positive i low = number_is_positive d loaded (at_place i) (number i low) (omega (arith, ints))

  tall : (i : ℕ) → i < length d.positive → pos 1 ≤ℤ height (root_of d (at_place i))
  tall i low = let h = height_positive d loaded (root_of d (at_place i)) (is_root i low) (positive i low) in omega (arith, ints, h)

  -- twice the height
  abbrev pub gap_of : ℕ → ℤ
  gap_of i = pos 2 *ℤ height (root_of d (at_place i))

  -- heights rise
  heights_rise : (i j : ℕ) → i < j → j < length d.positive → height (root_of d (at_place i)) ≤ℤ height (root_of d (at_place j))
  heights_rise i j less low = ⊎_elim
      (λ le. le)
      (λ more. (let before = before_by_height d loaded (at_place j) (at_place i) (number j low) (number i (omega (arith, less, low))) (omega (arith, ints)) (omega (arith, ints)) more in
      absurd (let never : ⊥ = omega (arith, ints, before, less) in never)))
      (le_cases (height (root_of d (at_place i))) (height (root_of d (at_place j))))

  -- the level of the row is above that of the column by the multiple of the gap
  levels : (i k a b : ℕ) → i < length d.positive → a < dimension v → b < dimension v → entry (pos 0) (divided_power v (at_place i) (suc k)) a b ≢ pos 0
      → level d v a ≡ level d v b +ℤ (pos (suc k) *ℤ gap_of i)
  levels i k a b low p q some = graded_level d v graded (height_law_holds d loaded) (at_place i) (number i low) (is_root i low) (positive i low) k a b p q some

  -- (k + 2) h = (k + 1) h + h
  more : (k : ℕ) (h : ℤ) → pos (suc (suc k)) *ℤ h ≡ (pos (suc k) *ℤ h) +ℤ h
  more k h =
      let next : pos (suc (suc k)) ≡ pos (suc k) +ℤ pos 1 = omega (arith, ints) in
      let one : pos 1 *ℤ h ≡ h = omega (arith, ints) in
      ap (λ x. x *ℤ h) next ∙ add_mul integers integers_ring.laws (pos (suc k)) (pos 1) h refl refl refl ∙ ap (λ x. (pos (suc k) *ℤ h) +ℤ x) one

  -- (k + 1) h is h at least
  multiple : (k : ℕ) (h : ℤ) → pos 0 ≤ℤ h → h ≤ℤ (pos (suc k) *ℤ h)
  multiple zero h p = omega (arith, ints)
  multiple (suc k) h p =
      let before = multiple k h p in
      let next = more k h in
      omega (arith, ints, before, next, p)

  -- (k + 2) h is h + 1 at least
  multiple_more : (k : ℕ) (h : ℤ) → pos 1 ≤ℤ h → (h +ℤ pos 1) ≤ℤ (pos (suc (suc k)) *ℤ h)
  multiple_more k h p =
      let before = multiple k h (omega (arith, ints, p)) in
      let next = more k h in
      omega (arith, ints, before, next, p)

  -- what an entry of E_r^(k) says of the weights
  pub weights : (i k a b : ℕ) → i < length d.positive → a < dimension v → b < dimension v → entry (pos 0) (divided_power v (at_place i) (suc k)) a b ≢ pos 0
      → (c : Vector) → pairing (slice_index_or v.weights a []) c ≡ pairing (slice_index_or v.weights b []) c +ℤ (pos (suc k) *ℤ pairing (vector d.base (root_of d (at_place i))) c)
  weights i k a b low p q some c =
      let r = vector d.base (root_of d (at_place i)) in
      ap (λ w. pairing w c) (raised d v graded (at_place i) (number i low) (suc k) a b (omega arith) p q some)
      ∙ pairing-plus (slice_index_or v.weights b []) (times (pos (suc k)) r) c
      ∙ ap (λ s. pairing (slice_index_or v.weights b []) c +ℤ s) (pairing-times (pos (suc k)) r c)

  int_cases : (z : ℤ) → (z ≡ pos 0) ⊎ (z ≢ pos 0)
  int_cases z = grind (arith, ints)

  -- where E_i^(1) has an entry, the divided powers of later roots have none
  others_zero : (i j k a b : ℕ) → i < j → j < length d.positive → a < dimension v → b < dimension v → entry (pos 0) (divided_power v (at_place i) 1) a b ≢ pos 0
      → entry (pos 0) (divided_power v (at_place j) (suc k)) a b ≡ pos 0
  others_zero i j k a b less low p q some = ⊎_elim
      (λ none. none)
      (λ (also : entry (pos 0) (divided_power v (at_place j) (suc k)) a b ≢ pos 0).
      let i_low : i < length d.positive = omega (arith, less, low) in
      let one = levels i 0 a b i_low p q some in
      let two = levels j k a b low p q also in
      let rise = heights_rise i j less low in
      let hj = tall j low in
      absurd (by k also one two rise hj))
      (int_cases (entry (pos 0) (divided_power v (at_place j) (suc k)) a b))
    where
      by : (k : ℕ) → entry (pos 0) (divided_power v (at_place j) (suc k)) a b ≢ pos 0 → level d v a ≡ level d v b +ℤ (pos 1 *ℤ gap_of i) → level d v a ≡ level d v b +ℤ (pos (suc k) *ℤ gap_of j)
          → height (root_of d (at_place i)) ≤ℤ height (root_of d (at_place j)) → pos 1 ≤ℤ height (root_of d (at_place j)) → ⊥
      by zero also one two rise hj =
          let i_low : i < length d.positive = omega (arith, less, low) in
          let same = roots_apart d loaded (root_of d (at_place i)) (root_of d (at_place j)) (is_root i i_low) (is_root j low) (λ c.
          (let x = weights i 0 a b i_low p q some c in let y = weights j 0 a b low p q also c in omega (arith, ints, x, y))) in
          let equal = same_number d loaded (at_place i) (at_place j) (number i i_low) (number j low) same in
          (let never : ⊥ = omega (arith, ints, equal, less) in never)
      by (suc k) also one two rise hj =
          let big = multiple_more k (gap_of j) (omega (arith, ints, hj)) in
          (let never : ⊥ = omega (arith, ints, one, two, rise, big) in never)

-- a place at which E_i^(1) is not 0 in the ring, for each positive root
pub record AreLivePlaces {A : Type 0} (R : RingOn A) (d : RootDatum) (v : Module) : Type 0 where
  pub row : ℕ → ℕ
  pub col : ℕ → ℕ
  pub row_low : (i : ℕ) → i < length d.positive → row i < dimension v
  pub col_low : (i : ℕ) → i < length d.positive → col i < dimension v
  pub unit : (i : ℕ) → i < length d.positive → R.of_int (entry (pos 0) (divided_power v (pos (suc i)) 1) (row i) (col i)) ≢ R.zero

module _ {A : Type 0} (R : RingOn A) (ring : IsRing R) (d : RootDatum) (loaded : IsLoaded d) (v : Module) (graded : IsGraded d v) (live : AreLivePlaces R d v) where
  -- what E_r^(k+1) adds to an entry of a root element
  abbrev root_term : ℤ → A → ℕ → ℕ → ℕ → A
  root_term r t i j k = R.mul (power R t (suc k)) (R.of_int (entry (pos 0) (divided_power v r (suc k)) i j))

  -- the element that stands there
  value_at : ℕ → A
  value_at i = R.of_int (entry (pos 0) (divided_power v (pos (suc i)) 1) (live.row i) (live.col i))

  -- the entry is not 0 as an integer
  pub some_at : (i : ℕ) → i < length d.positive → entry (pos 0) (divided_power v (pos (suc i)) 1) (live.row i) (live.col i) ≢ pos 0
  some_at i low none = live.unit i low (ap R.of_int none ∙ int_zero R ring)

  level_apart : (i : ℕ) → i < length d.positive → level d v (live.row i) ≡ level d v (live.col i) +ℤ gap_of d loaded v graded i
  level_apart i low =
      let h = levels d loaded v graded i 0 (live.row i) (live.col i) low (live.row_low i low) (live.col_low i low) (some_at i low) in
      let one : pos 1 *ℤ gap_of d loaded v graded i ≡ gap_of d loaded v graded i = omega (arith, ints) in
      h ∙ ap (λ x. level d v (live.col i) +ℤ x) one

  places_apart : (i : ℕ) → i < length d.positive → live.row i ≢ live.col i
  places_apart i low e =
      let far = level_apart i low in
      let same = ap (level d v) e in
      let h = tall d loaded v graded i low in
      absurd (let never : ⊥ = omega (arith, ints, far, same, h) in never)

  unit_zero : (i : ℕ) → i < length d.positive → unit_entry R (live.row i) (live.col i) ≡ R.zero
  unit_zero i low = ap (λ b. cond b R.one R.zero) (ne_eqb (live.row i) (live.col i) (places_apart i low))

  -- some matrix is kept
  kept : (xs : List (Matrix ℤ)) (z : Matrix ℤ) (a b : ℕ) → entry (pos 0) (slice_index_or xs 0 z) a b ≢ pos 0 → entry (pos 0) z a b ≡ pos 0 → 0 < length xs
  kept [] z a b some none = absurd (some none)
  kept (x ∷ xs) z a b some none = omega arith

  top_positive : (i : ℕ) → i < length d.positive → 0 < top v (pos (suc i))
  top_positive i low = kept (divided_powers v (pos (suc i))) (zero_matrix (pos 0) (dimension v) (dimension v)) (live.row i) (live.col i) (some_at i low)
      (entry-table (pos 0) (dimension v) (dimension v) (λ _ _. pos 0) (live.row i) (live.col i) (live.row_low i low) (live.col_low i low))

  -- a multiple of 0
  zero_term : (r : ℤ) (a : A) (i j k : ℕ) → IsElem R a → entry (pos 0) (divided_power v r (suc k)) i j ≡ pos 0 → root_term r a i j k ≡ R.zero
  zero_term r a i j k p none = ap (R.mul (power R a (suc k))) (ap R.of_int none ∙ int_zero R ring) ∙ mul_zero R ring.laws (power R a (suc k)) (power-elem R ring a (suc k) p)

  own_entry : (i : ℕ) (a : A) → i < length d.positive → IsElem R a → entry R.zero (root_element R v (pos (suc i)) a) (live.row i) (live.col i) ≡ R.mul a (value_at i)
  unfolding root_element value_at
  own_entry i a low p =
      let r = pos (suc i) in
      let x = live.row i in
      let y = live.col i in
      let x_low = live.row_low i low in
      let y_low = live.col_low i low in
      let gap = gap_of d loaded v graded i in
      let term = root_term r a x y in
      let elem = λ (k : ℕ). step-elem R ring v r a x y k p in
      entry-table R.zero (dimension v) (dimension v) (root_element_entry R v r a) x y x_low y_low
      ∙ ap₂ R.add (unit_zero i low)
      (sum-only R ring.laws (top v r) 0 term (top_positive i low) (λ k _. elem k)
      (λ k _ other. zero_term r a x y k p (⊎_elim
      (λ none. none)
      (λ (some : entry (pos 0) (divided_power v r (suc k)) x y ≢ pos 0). absurd (later k other some))
      (int_cases d loaded v graded (entry (pos 0) (divided_power v r (suc k)) x y)))))
      ∙ zero_add R ring.laws (term 0) (elem 0)
      ∙ ap (λ s. R.mul s (value_at i)) (one_mul R ring.laws a p)
    where
      later : (k : ℕ) → k ≢ 0 → entry (pos 0) (divided_power v (pos (suc i)) (suc k)) (live.row i) (live.col i) ≢ pos 0 → ⊥
      later zero other some = absurd (other refl)
      later (suc k) other some =
          let far = levels d loaded v graded i (suc k) (live.row i) (live.col i) low (live.row_low i low) (live.col_low i low) some in
          let near = level_apart i low in
          let h = tall d loaded v graded i low in
          let big = multiple_more d loaded v graded k (gap_of d loaded v graded i) (omega (arith, ints, h)) in
          (let never : ⊥ = omega (arith, ints, far, near, big) in never)

  other_entry : (i j : ℕ) (a : A) → i < j → j < length d.positive → IsElem R a → entry R.zero (root_element R v (pos (suc j)) a) (live.row i) (live.col i) ≡ R.zero
  unfolding root_element
  other_entry i j a less low p =
      let i_low : i < length d.positive = omega (arith, less, low) in
      let r = pos (suc j) in
      let x = live.row i in
      let y = live.col i in
      entry-table R.zero (dimension v) (dimension v) (root_element_entry R v r a) x y (live.row_low i i_low) (live.col_low i i_low)
      ∙ ap₂ R.add (unit_zero i i_low)
      (sum-zeros R ring.laws (top v r) (root_term r a x y) (λ k _. zero_term r a x y k p
      (others_zero d loaded v graded i j k x y less low (live.row_low i i_low) (live.col_low i i_low) (some_at i i_low))))
      ∙ ring.laws.add_zero R.zero ring.laws.zero_elem

  -- the positive roots in their order can be peeled off
  pub roots_peel : ((a b e : A) → IsElem R a → IsElem R b → IsElem R e → e ≢ R.zero → R.mul a e ≡ R.mul b e → a ≡ b)
      → ((i : ℕ) (a : A) → i < length d.positive → IsElem R a → product R (root_element R v (pos (suc i)) (R.neg a)) (root_element R v (pos (suc i)) a) ≡ identity R (dimension v))
      → ArePeelable R (dimension v) (length d.positive) (level d v) (λ i a. root_element R v (pos (suc i)) a)
  unfolding value_at
  roots_peel cancel inverse = record {
    gap = gap_of d loaded v graded;
    row = live.row;
    col = live.col;
    value = value_at;
    square = λ i a low p. root-square R ring v (pos (suc i)) a p;
    raises = λ i a low p. raises-root R ring v (level d v) (gap_of d loaded v graded i) (pos (suc i)) a p (λ k x y q s some.
        (let far = levels d loaded v graded i k x y low q s some in
        let h = tall d loaded v graded i low in
        let big = multiple d loaded v graded k (gap_of d loaded v graded i) (omega (arith, ints, h)) in
        omega (arith, ints, far, big)));
    rising = λ i low. (let h = tall d loaded v graded i low in omega (arith, ints, h));
    order = λ i j less low. (let h = heights_rise d loaded v graded i j less low in omega (arith, ints, h));
    row_low = live.row_low;
    col_low = live.col_low;
    apart = level_apart;
    own = own_entry;
    others = other_entry;
    determines = λ i a b low p q same. cancel a b (value_at i) p q (ring.integers.int_elem (entry (pos 0) (divided_power v (pos (suc i)) 1) (live.row i) (live.col i))) (live.unit i low) same;
    inverse = inverse;
  }

  -- their places are those at which the root vectors live
  pub peel-places : (cancel : (a b e : A) → IsElem R a → IsElem R b → IsElem R e → e ≢ R.zero → R.mul a e ≡ R.mul b e → a ≡ b)
      (inverse : (i : ℕ) (a : A) → i < length d.positive → IsElem R a → product R (root_element R v (pos (suc i)) (R.neg a)) (root_element R v (pos (suc i)) a) ≡ identity R (dimension v))
      (i : ℕ) → ((roots_peel cancel inverse).row i ≡ live.row i) × ((roots_peel cancel inverse).col i ≡ live.col i)
      × ((roots_peel cancel inverse).value i ≡ R.of_int (entry (pos 0) (divided_power v (pos (suc i)) 1) (live.row i) (live.col i)))
  unfolding roots_peel value_at
  peel-places cancel inverse i = (refl, refl, refl)
