-- The sums of the columns of sizes, and what their products bound.
use Rattle.std.proofs.Common.{◌≡◌, ℕ, zero, suc, ◌+◌, ◌*◌, ◌^◌, ◌<◌, ◌≤◌, ℤ, pos, ◌+ℤ◌, nat_abs, List, [], ◌∷◌, ◌++◌, cond, eqb, true, false, Bool, refl, sym, ap, ap₂, subst, ◌∙◌, arith, inl, inr}
use Rattle.std.specs.Prelude.{◌≤ℤ◌}
use Rattle.std.specs.List.{flat_map, range_with_len}
use Rattle.std.specs.Ordering.{int_eq}
use Rattle.std.proofs.lemmas.Int.{ints}
use Rattle.std.proofs.lemmas.Bool.{eq-eqb, ne_eqb, cases_lt}
use Rattle.std.proofs.lemmas.Bool.Decides.{Decides-int_eq}
use Rattle.lie_ring.specs.Rings.{RingOn, sum_below}
use Rattle.lie_ring.specs.Integers.{integers}
use Rattle.lie_ring.specs.IntegerLaws.{integers_commutative}
use Rattle.lie_ring.specs.SumLemmas.{sum-only, sum-same}
use Rattle.lie_ring.specs.Matrices.{Matrix, entry, identity}
use Rattle.lie_ring.specs.MatrixLemmas.{entry-table}
use Rattle.lie_mat.specs.Wide.{nat_sum_below, IsHugeMatrix}
use Rattle.lie_const.specs.Modules.{Module, dimension, top, divided_power}
use Rattle.lie_weight.proofs.SizeLemmas.{nat_sum-same}
use Rattle.lie_identities.specs.declared.steps.Step.{Step}
use Rattle.lie_identities.specs.AuditRelations.{Factor, size_entry, size_element, factor_size, side_size}
use Rattle.lie_identities.specs.Sizes.{size_term, partial_size, steps_total, HasColumnsWithin}
use Rattle.lie_identities.specs.StepLists.{step, step_at, steps_in, steps_of}
use Rattle.lie_identities.proofs.SizeLemmas.{term_in_sum, column_bound-product}
use Rattle.lie_identities.proofs.GrowingSizes.{factor_nonnegative, factor_broad, side_nonnegative, side_tall}
use Rattle.lie_identities.proofs.NaturalSizes.{size_entry-natural}

-- ---- sums of natural numbers
nat_sum-front : (n : ℕ) (f : ℕ → ℕ) → nat_sum_below (suc n) f ≡ f 0 + nat_sum_below n (λ k. f (suc k))
nat_sum-front zero f = omega arith
nat_sum-front (suc n) f = let h = nat_sum-front n f in omega (arith, h)

nat_sum-add : (n : ℕ) (f g : ℕ → ℕ) → nat_sum_below n (λ k. f k + g k) ≡ nat_sum_below n f + nat_sum_below n g
nat_sum-add zero f g = refl
nat_sum-add (suc n) f g = let h = nat_sum-add n f g in omega (arith, h)

nat_sum-zero : (n : ℕ) → nat_sum_below n (λ _. 0) ≡ 0
nat_sum-zero zero = refl
nat_sum-zero (suc n) = let h = nat_sum-zero n in omega (arith, h)

nat_sum-swap : (m n : ℕ) (f : ℕ → ℕ → ℕ) → nat_sum_below m (λ k. nat_sum_below n (f k)) ≡ nat_sum_below n (λ i. nat_sum_below m (λ k. f k i))
nat_sum-swap zero n f = sym (nat_sum-zero n)
nat_sum-swap (suc m) n f = ap (λ s. s + nat_sum_below n (f m)) (nat_sum-swap m n f) ∙ sym (nat_sum-add n (λ i. nat_sum_below m (λ k. f k i)) (f m))

pos_sum : (n : ℕ) (f : ℕ → ℕ) → sum_below integers n (λ k. pos (f k)) ≡ pos (nat_sum_below n f)
pos_sum zero f = refl
pos_sum (suc n) f = ap (λ t. t +ℤ pos (f n)) (pos_sum n f)

-- ---- the steps of a column
pub total-append : (n : ℕ) (xs ys : List Step) → steps_total n (xs ++ ys) ≡ steps_total n xs + steps_total n ys
total-append n [] ys = omega arith
total-append n (x ∷ xs) ys = let h = total-append n xs ys in omega (arith, h)

module _ (v : Module) (r : ℤ) (n b : ℕ) where
  -- n^k |E_r^(k)| in row a
  share : ℕ → ℕ → ℕ
  share k a = n ^ k * nat_abs (entry (pos 0) (divided_power v r k) a b)

  row-total : (k a : ℕ) → steps_total n (step_at v r b k a) ≡ share k a
  unfolding share
  row-total k a = by (int_eq (entry (pos 0) (divided_power v r k) a b) (pos 0)) refl
    where
      by : (t : Bool) → int_eq (entry (pos 0) (divided_power v r k) a b) (pos 0) ≡ t → steps_total n (cond t [] (step k a (entry (pos 0) (divided_power v r k) a b) ∷ [])) ≡ n ^ k * nat_abs (entry (pos 0) (divided_power v r k) a b)
      by true e =
          let z : nat_abs (entry (pos 0) (divided_power v r k) a b) ≡ 0 = ap nat_abs ((Decides-int_eq (entry (pos 0) (divided_power v r k) a b) (pos 0)).0 e) in
          sym (ap (λ m. n ^ k * m) z ∙ times-zero (n ^ k))
        where
          times-zero : (m : ℕ) → m * 0 ≡ 0
          times-zero m = omega arith
      by false e = plus-zero (n ^ k * nat_abs (entry (pos 0) (divided_power v r k) a b))
        where
          plus-zero : (m : ℕ) → m + 0 ≡ m
          plus-zero m = omega arith

  rows-total : (k s m : ℕ) → steps_total n (flat_map (step_at v r b k) (range_with_len s m)) ≡ nat_sum_below m (λ j. share k (s + j))
  rows-total k s zero = refl
  rows-total k s (suc m) =
      total-append n (step_at v r b k s) (flat_map (step_at v r b k) (range_with_len (s + 1) m))
      ∙ ap₂ ◌+◌ (row-total k s ∙ ap (share k) (let e : s ≡ s + 0 = omega arith in e))
      (rows-total k (s + 1) m ∙ nat_sum-same m (λ j. share k (s + 1 + j)) (λ j. share k (s + suc j)) (λ j _. ap (share k) (let e : s + 1 + j ≡ s + suc j = omega arith in e)))
      ∙ sym (nat_sum-front m (λ j. share k (s + j)))

  powers-total : (s m : ℕ) → steps_total n (flat_map (steps_in v r b) (range_with_len s m)) ≡ nat_sum_below m (λ j. nat_sum_below (dimension v) (share (s + j)))
  powers-total s zero = refl
  powers-total s (suc m) =
      total-append n (steps_in v r b s) (flat_map (steps_in v r b) (range_with_len (s + 1) m))
      ∙ ap₂ ◌+◌
      (rows-total s 0 (dimension v) ∙ nat_sum-same (dimension v) (λ j. share s (0 + j)) (share s) (λ j _. ap (share s) (let e : 0 + j ≡ j = omega arith in e)) ∙ ap (λ k. nat_sum_below (dimension v) (share k)) (let e : s ≡ s + 0 = omega arith in e))
      (powers-total (s + 1) m ∙ nat_sum-same m (λ j. nat_sum_below (dimension v) (share (s + 1 + j))) (λ j. nat_sum_below (dimension v) (share (s + suc j))) (λ j _. ap (λ k. nat_sum_below (dimension v) (share k)) (let e : s + 1 + j ≡ s + suc j = omega arith in e)))
      ∙ sym (nat_sum-front m (λ j. nat_sum_below (dimension v) (share (s + j))))

  -- what the steps add up to, row by row
  steps-by_rows : steps_total n (steps_of v r b) ≡ nat_sum_below (dimension v) (λ a. nat_sum_below (top v r) (size_term v r n a b))
  unfolding share
  steps-by_rows =
      powers-total 1 (top v r)
      ∙ nat_sum-same (top v r) (λ j. nat_sum_below (dimension v) (share (1 + j))) (λ j. nat_sum_below (dimension v) (share (suc j))) (λ j _. ap (λ k. nat_sum_below (dimension v) (share k)) (let e : 1 + j ≡ suc j = omega arith in e))
      ∙ nat_sum-swap (top v r) (dimension v) (λ k a. share (suc k) a)

  nat_unit : (m : ℕ) → b < m → nat_sum_below m (λ a. cond (eqb a b) 1 0) ≡ 1
  nat_unit m l =
      let e = pos_sum m (λ a. cond (eqb a b) 1 0) in
      let f = sum-only integers integers_commutative m b (λ a. pos (cond (eqb a b) 1 0)) l (λ _ _. refl) (λ k _ apart. ap (λ t. pos (cond t 1 0)) (ne_eqb k b apart)) ∙ ap (λ t. pos (cond t 1 0)) (eq-eqb b b refl) in
      ap nat_abs (sym e ∙ f)

  -- the sum of a column of the size of X_r(f)
  pub column-total : b < dimension v → sum_below integers (dimension v) (λ a. entry (pos 0) (size_element v r n) a b) ≡ pos (1 + steps_total n (steps_of v r b))
  column-total l =
      sum-same integers (dimension v) (λ a. entry (pos 0) (size_element v r n) a b) (λ a. pos (partial_size v r n a b (top v r)))
      (λ a k. entry-table (pos 0) (dimension v) (dimension v) (size_entry v r n) a b k l ∙ size_entry-natural v r n a b)
      ∙ pos_sum (dimension v) (λ a. partial_size v r n a b (top v r))
      ∙ ap pos (nat_sum-add (dimension v) (λ a. cond (eqb a b) 1 0) (λ a. nat_sum_below (top v r) (size_term v r n a b)) ∙ ap₂ ◌+◌ (nat_unit (dimension v) l) (sym steps-by_rows))

-- one column more is within the greater bound
pub columns-more : (M : Matrix ℤ) (n c m e : ℕ) → ((j : ℕ) → j < n → sum_below integers M.height (λ i. entry (pos 0) M i j) ≤ℤ pos c) → sum_below integers M.height (λ i. entry (pos 0) M i n) ≡ pos m → c ≤ e → m ≤ e
    → (j : ℕ) → j < n + 1 → sum_below integers M.height (λ i. entry (pos 0) M i j) ≤ℤ pos e
columns-more M n c m e before here p q j l = elim (cases_lt j n) [
  | inl low ↦ let b = before j low in omega (arith, ints, b, p)
  | inr high ↦ let is : n ≡ j = omega (arith, l, high) in subst (λ k. sum_below integers M.height (λ i. entry (pos 0) M i k) ≤ℤ pos e) is (subst (λ z. z ≤ℤ pos e) (sym here) (omega (arith, ints, q)))
]

module _ {A : Type 0} (R : RingOn A) (v : Module) where
  -- the columns of the identity
  pub unit-columns : HasColumnsWithin (identity integers (dimension v)) 1
  unit-columns j l =
      let e = sum-same integers (dimension v) (λ i. entry (pos 0) (identity integers (dimension v)) i j) (λ i. cond (eqb i j) (pos 1) (pos 0)) (λ i b. entry-table (pos 0) (dimension v) (dimension v) (λ i j. cond (eqb i j) (pos 1) (pos 0)) i j b l) in
      let f = sum-only integers integers_commutative (dimension v) j (λ i. cond (eqb i j) (pos 1) (pos 0)) l (λ _ _. refl) (λ k _ apart. ap (λ t. cond t (pos 1) (pos 0)) (ne_eqb k j apart)) ∙ ap (λ t. cond t (pos 1) (pos 0)) (eq-eqb j j refl) in
      subst (λ z. z ≤ℤ pos 1) (sym (e ∙ f)) (omega (arith, ints))

  -- the columns of a product of sizes, one factor more in front
  pub side-columns : (x : Factor A) (xs : List (Factor A)) (c e : ℕ) → HasColumnsWithin (factor_size R v x) c → HasColumnsWithin (side_size R v xs) e → HasColumnsWithin (side_size R v (x ∷ xs)) (c * e)
  side-columns x xs c e p q = column_bound-product (factor_size R v x) (side_size R v xs) c e (factor_broad v R x ∙ sym (side_tall v R xs)) (factor_nonnegative v R x) (side_nonnegative v R xs) p q

  -- where the columns add up to less than 2^126, no entry reaches it
  pub columns-small : (xs : List (Factor A)) (c : ℕ) → HasColumnsWithin (side_size R v xs) c → c < 2 ^ 126 → ¬ IsHugeMatrix (side_size R v xs)
  columns-small xs c h l m =
      let N = side_size R v xs in
      let term = term_in_sum N.height m.row (λ i. entry (pos 0) N i m.col) m.row_within (λ k a. side_nonnegative v R xs k m.col a m.col_within) in
      let low = side_nonnegative v R xs m.row m.col m.row_within m.col_within in
      let sum = h m.col m.col_within in
      let huge = m.huge in
      absurd (omega (arith, ints, term, low, sum, huge, l))
