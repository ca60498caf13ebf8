-- The products of sizes grow with each factor, so the sizes of a side bound those of its last factors.
-- Own: the sizes.
use Rattle.std.proofs.Common.{◌≡◌, ℕ, zero, suc, ◌*◌, ◌<◌, ◌^◌, ℤ, pos, ◌*ℤ◌, nat_abs, List, [], ◌∷◌, ◌++◌, cond, eqb, true, false, Bool, refl, sym, ap, ◌∙◌, subst, arith, inl, inr}
use Rattle.std.specs.Prelude.{◌≤ℤ◌}
use Rattle.std.proofs.lemmas.Int.{ints}
use Rattle.std.proofs.lemmas.Bool.{eq-eqb, ne_eqb, cases_lt}
use Rattle.lie_ring.specs.SumLemmas.{sum-only, sum-same}
use Rattle.lie_ring.specs.Rings.{RingOn, sum_below}
use Rattle.lie_ring.specs.Integers.{integers}
use Rattle.lie_ring.specs.IntegerLaws.{integers_commutative}
use Rattle.lie_ring.specs.Powers.{power}
use Rattle.lie_ring.specs.Matrices.{entry, identity, product_entry, product_term}
use Rattle.lie_ring.specs.MatrixLemmas.{entry-table}
use Rattle.lie_const.specs.Modules.{Module, dimension, top, divided_power}
use Rattle.lie_identities.specs.AuditRelations.{Factor, RootElement, CorootElement, size_entry, factor_size, side_size}
use Rattle.lie_mat.specs.Wide.{IsHugeMatrix}
use Rattle.lie_identities.proofs.SizeLemmas.{sum_nonnegative, term_in_sum, times_nonnegative, times_monotone, IsNonnegative, HasColumnBound, column_bound-product}

-- a power of a natural number is not negative
pub power_nonnegative : (n k : ℕ) → pos 0 ≤ℤ power integers (pos n) k
power_nonnegative n zero = omega (arith, ints)
power_nonnegative n (suc k) = times_nonnegative (power integers (pos n) k) (pos n) (power_nonnegative n k) (omega (arith, ints))

-- 1 or 0 is not negative
pub unit_nonnegative : (b : Bool) → pos 0 ≤ℤ cond b (pos 1) (pos 0)
unit_nonnegative true = omega (arith, ints)
unit_nonnegative false = omega (arith, ints)

module _ (v : Module) where
  -- what the powers add to an entry of the size of X_r(f)
  pub size_terms : (r : ℤ) (n a b : ℕ) → pos 0 ≤ℤ sum_below integers (top v r) (λ k. power integers (pos n) (suc k) *ℤ pos (nat_abs (entry (pos 0) (divided_power v r (suc k)) a b)))
  size_terms r n a b = sum_nonnegative (top v r) _ (λ k _. times_nonnegative (power integers (pos n) (suc k)) (pos (nat_abs (entry (pos 0) (divided_power v r (suc k)) a b))) (power_nonnegative n (suc k)) (omega (arith, ints)))

  -- the entries of the size of X_r(f)
  pub size_entry_nonnegative : (r : ℤ) (n a b : ℕ) → pos 0 ≤ℤ size_entry v r n a b
  size_entry_nonnegative r n a b =
      let s = size_terms r n a b in
      let o = unit_nonnegative (eqb a b) in
      omega (arith, ints, s, o)

  module _ {A : Type 0} (R : RingOn A) where
    -- the size of a factor has no negative entry
    pub factor_nonnegative : (x : Factor A) → IsNonnegative (factor_size R v x)
    factor_nonnegative (RootElement r f) i j a b = subst (λ z. pos 0 ≤ℤ z) (sym (entry-table (pos 0) (dimension v) (dimension v) (size_entry v r (R.size f)) i j a b)) (size_entry_nonnegative r (R.size f) i j)
    factor_nonnegative (CorootElement k) i j a b = subst (λ z. pos 0 ≤ℤ z) (sym (entry-table (pos 0) (dimension v) (dimension v) (λ i j. cond (eqb i j) (pos 1) (pos 0)) i j a b)) (unit_nonnegative (eqb i j))

    -- and its diagonal is 1 at least
    factor_diagonal : (x : Factor A) (i : ℕ) → i < dimension v → pos 1 ≤ℤ entry (pos 0) (factor_size R v x) i i
    factor_diagonal (RootElement r f) i a =
        let s = size_terms r (R.size f) i i in
        let o : cond (eqb i i) (pos 1) (pos 0) ≡ pos 1 = ap (λ b. cond b (pos 1) (pos 0)) (eq-eqb i i refl) in
        subst (λ z. pos 1 ≤ℤ z) (sym (entry-table (pos 0) (dimension v) (dimension v) (size_entry v r (R.size f)) i i a a)) (omega (arith, ints, s, o))
    factor_diagonal (CorootElement k) i a =
        let o : cond (eqb i i) (pos 1) (pos 0) ≡ pos 1 = ap (λ b. cond b (pos 1) (pos 0)) (eq-eqb i i refl) in
        subst (λ z. pos 1 ≤ℤ z) (sym (entry-table (pos 0) (dimension v) (dimension v) (λ i j. cond (eqb i j) (pos 1) (pos 0)) i i a a)) (omega (arith, ints, o))

    pub factor_tall : (x : Factor A) → (factor_size R v x).height ≡ dimension v
    factor_tall (RootElement r f) = refl
    factor_tall (CorootElement k) = refl

    pub factor_broad : (x : Factor A) → (factor_size R v x).width ≡ dimension v
    factor_broad (RootElement r f) = refl
    factor_broad (CorootElement k) = refl

    pub side_tall : (xs : List (Factor A)) → (side_size R v xs).height ≡ dimension v
    side_tall [] = refl
    side_tall (x ∷ xs) = factor_tall x

    pub side_broad : (xs : List (Factor A)) → (side_size R v xs).width ≡ dimension v
    side_broad [] = refl
    side_broad (x ∷ xs) = side_broad xs

    -- a product of sizes has no negative entry
    pub side_nonnegative : (xs : List (Factor A)) → IsNonnegative (side_size R v xs)
    side_nonnegative [] i j a b = subst (λ z. pos 0 ≤ℤ z) (sym (entry-table (pos 0) (dimension v) (dimension v) (λ i j. cond (eqb i j) (pos 1) (pos 0)) i j a b)) (unit_nonnegative (eqb i j))
    side_nonnegative (x ∷ xs) i j a b =
        let M = factor_size R v x in
        let N = side_size R v xs in
        subst (λ z. pos 0 ≤ℤ z) (sym (entry-table (pos 0) M.height N.width (product_entry integers M N) i j a b))
        (sum_nonnegative M.width (product_term integers M N i j) (λ k c. times_nonnegative _ _ (factor_nonnegative x i k a c) (side_nonnegative xs k j (let t = side_tall xs in let w = factor_broad x in omega (arith, c, t, w)) b)))

    -- one factor more in front
    pub side-grows : (x : Factor A) (xs : List (Factor A)) (i j : ℕ) → i < dimension v → j < dimension v → entry (pos 0) (side_size R v xs) i j ≤ℤ entry (pos 0) (side_size R v (x ∷ xs)) i j
    side-grows x xs i j a b =
        let M = factor_size R v x in
        let N = side_size R v xs in
        let mh = factor_tall x in
        let mw = factor_broad x in
        let nh = side_tall xs in
        let nw = side_broad xs in
        let p : i < M.height = omega (arith, a, mh) in
        let q : i < M.width = omega (arith, a, mw) in
        let r : j < N.width = omega (arith, b, nw) in
        let s : i < N.height = omega (arith, a, nh) in
        let one = times_monotone (pos 1) (entry (pos 0) M i i) (entry (pos 0) N i j) (factor_diagonal x i a) (side_nonnegative xs i j s r) in
        let term = term_in_sum M.width i (product_term integers M N i j) q (λ k c. times_nonnegative _ _ (factor_nonnegative x i k p c) (side_nonnegative xs k j (omega (arith, c, nh, mw)) r)) in
        let alone = integers_commutative.mul_one (entry (pos 0) N i j) refl in
        let turn = integers_commutative.mul_comm (pos 1) (entry (pos 0) N i j) refl refl in
        subst (λ z. entry (pos 0) N i j ≤ℤ z) (sym (entry-table (pos 0) M.height N.width (product_entry integers M N) i j p r)) (omega (arith, ints, one, term, alone, turn))

    -- more factors in front
    pub sides-grow : (ys xs : List (Factor A)) (i j : ℕ) → i < dimension v → j < dimension v → entry (pos 0) (side_size R v xs) i j ≤ℤ entry (pos 0) (side_size R v (ys ++ xs)) i j
    sides-grow [] xs i j a b = omega (arith, ints)
    sides-grow (y ∷ ys) xs i j a b =
        let h = sides-grow ys xs i j a b in
        let g = side-grows y (ys ++ xs) i j a b in
        omega (arith, ints, h, g)

    -- where a side is not large, the product of the sizes of its last factors is small
    pub last_small : (ys xs : List (Factor A)) → ¬ IsHugeMatrix (side_size R v (ys ++ xs)) → (i j : ℕ) → i < dimension v → j < dimension v → nat_abs (entry (pos 0) (side_size R v xs) i j) < 2 ^ 126
    last_small ys xs small i j a b = elim (cases_lt (nat_abs (entry (pos 0) (side_size R v xs) i j)) (2 ^ 126)) [
      | inl l ↦ l
      | inr g ↦
          let t = side_tall (ys ++ xs) in
          let w = side_broad (ys ++ xs) in
          let up = sides-grow ys xs i j a b in
          let low = side_nonnegative xs i j (let h = side_tall xs in omega (arith, a, h)) (let h = side_broad xs in omega (arith, b, h)) in
          absurd (small (record { row = i; col = j; row_within = omega (arith, a, t); col_within = omega (arith, b, w); huge = omega (arith, ints, up, low, g) }))
    ]

    -- the bounds of the columns of the factors multiply
    abbrev pub bound_of : (Factor A → ℕ) → List (Factor A) → ℕ
    bound_of c [] = 1
    bound_of c (x ∷ xs) = c x * bound_of c xs

    unit_sum : (n j : ℕ) → j < n → sum_below integers n (λ i. cond (eqb i j) (pos 1) (pos 0)) ≡ pos 1
    unit_sum n j a =
        sum-only integers integers_commutative n j (λ i. cond (eqb i j) (pos 1) (pos 0)) a (λ _ _. refl) (λ k _ apart. ap (λ b. cond b (pos 1) (pos 0)) (ne_eqb k j apart))
        ∙ ap (λ b. cond b (pos 1) (pos 0)) (eq-eqb j j refl)

    pub side-bound : (c : Factor A → ℕ) (xs : List (Factor A)) → ((x : Factor A) → HasColumnBound (factor_size R v x) (c x)) → HasColumnBound (side_size R v xs) (bound_of c xs)
    side-bound c [] h j a =
        let s = unit_sum (dimension v) j a in
        let same = sum-same integers (dimension v) (λ i. entry (pos 0) (identity integers (dimension v)) i j) (λ i. cond (eqb i j) (pos 1) (pos 0)) (λ i b. entry-table (pos 0) (dimension v) (dimension v) (λ i j. cond (eqb i j) (pos 1) (pos 0)) i j b a) in
        omega (arith, ints, s, same)
    side-bound c (x ∷ xs) h j a = column_bound-product (factor_size R v x) (side_size R v xs) (c x) (bound_of c xs) (factor_broad x ∙ sym (side_tall xs)) (factor_nonnegative x) (side_nonnegative xs) (h x) (side-bound c xs h) j a

    -- where the product of the bounds is small, so is every entry
    pub bound_small : (c : Factor A → ℕ) (xs : List (Factor A)) → ((x : Factor A) → HasColumnBound (factor_size R v x) (c x)) → bound_of c xs < 2 ^ 126 → ¬ IsHugeMatrix (side_size R v xs)
    bound_small c xs h l m =
        let N = side_size R v xs in
        let b = side-bound c xs h m.col m.col_within in
        let low = side_nonnegative xs in
        let t = term_in_sum N.height m.row (λ i. entry (pos 0) N i m.col) m.row_within (λ i p. low i m.col p m.col_within) in
        let o = low m.row m.col m.row_within m.col_within in
        let g = m.huge in
        absurd (omega (arith, ints, b, t, o, g, l))
