-- Where a side is not large, no product that its walk makes is too wide.
-- Own: the sizes.
use Rattle.std.proofs.Common.{◌≡◌, ℕ, zero, suc, ◌+◌, ◌*◌, ◌<◌, ◌≤◌, ◌^◌, ℤ, pos, ◌*ℤ◌, nat_abs, List, [], ◌∷◌, ◌++◌, length, get_or, cond, eqb, true, false, Bool, refl, sym, ap, subst, arith}
use Rattle.std.specs.Prelude.{◌≤ℤ◌}
use Rattle.std.specs.List.{AllByRecursion, flat_map, range_with_len}
use Rattle.std.specs.Ordering.{int_eq}
use Rattle.std.proofs.lemmas.Int.{ints}
use Rattle.lie_ring.specs.Rings.{RingOn, IsElem, IsRing, sum_below}
use Rattle.lie_ring.specs.Integers.{integers}
use Rattle.lie_ring.specs.Powers.{power}
use Rattle.lie_ring.specs.Matrices.{entry, product_entry, product_term}
use Rattle.lie_ring.specs.MatrixLemmas.{entry-table}
use Rattle.lie_const.specs.Modules.{Module, dimension, top, divided_power}
use Rattle.lie_identities.specs.AuditRelations.{Factor, RootElement, size_entry, size_element, side_size}
use Rattle.lie_mat.specs.Wide.{IsHugeMatrix}
use Rattle.lie_identities.specs.declared.steps.Step.{Step}
use Rattle.lie_identities.proofs.SizeLemmas.{term_in_sum, times_nonnegative}
use Rattle.lie_identities.proofs.EntrySizes.{under_product, power-size}
use Rattle.lie_identities.proofs.GrowingSizes.{factor_nonnegative, side_nonnegative, last_small, side_tall, side_broad, power_nonnegative, unit_nonnegative}
use Rattle.lie_identities.specs.StepLists.{step, step_at, steps_in, steps_of, IsStepOf}

-- ---- the members of the list of steps
all_joined : {X : Type 0} (P : X → Type 0) (xs ys : List X) → AllByRecursion P xs → AllByRecursion P ys → AllByRecursion P (xs ++ ys)
all_joined P [] ys p q = q
all_joined P (x ∷ xs) ys p q = (p.0, all_joined P xs ys p.1 q)

-- lists for each number of a range
all_ranged : {X : Type 0} (P : X → Type 0) (h : ℕ → List X) (n s : ℕ) → ((i : ℕ) → s ≤ i → i < s + n → AllByRecursion P (h i)) → AllByRecursion P (flat_map h (range_with_len s n))
all_ranged P h zero s p = tt
all_ranged P h (suc n) s p = all_joined P (h s) (flat_map h (range_with_len (s + 1) n)) (p s (omega arith) (omega arith)) (all_ranged P h n (s + 1) (λ i a b. p i (omega (arith, a)) (omega (arith, b))))

-- all members are such
pub are_steps : (v : Module) (r : ℤ) (b : ℕ) → AllByRecursion (IsStepOf v r b) (steps_of v r b)
are_steps v r b = all_ranged (IsStepOf v r b) (steps_in v r b) (top v r) 1 (λ k low high.
    all_ranged (IsStepOf v r b) (step_at v r b k) (dimension v) 0 (λ a _ within. by_test k a low high within (int_eq (entry (pos 0) (divided_power v r k) a b) (pos 0))))
  where
    by_test : (k a : ℕ) → 1 ≤ k → k < 1 + top v r → a < 0 + dimension v → (t : Bool) → AllByRecursion (IsStepOf v r b) (cond t [] (step k a (entry (pos 0) (divided_power v r k) a b) ∷ []))
    by_test k a low high within true = tt
    by_test k a low high within false = (record { first = low; last = omega (arith, high); row = omega (arith, within); value = refl }, tt)

-- by the place of a member
pub at_place : {X : Type 0} (P : X → Type 0) (xs : List X) (k : ℕ) (z : X) → AllByRecursion P xs → k < length xs → P (get_or xs k z)
at_place P [] k z p l = absurd (omega (arith, l))
at_place P (x ∷ xs) zero z p l = p.0
at_place P (x ∷ xs) (suc k) z p l = at_place P xs k z p.1 (omega (arith, l))

module _ {A : Type 0} (R : RingOn A) (ring : IsRing R) (v : Module) (r : ℤ) (f : A) (p : IsElem R f) (xs : List (Factor A)) (small : ¬ IsHugeMatrix (side_size R v (RootElement r f ∷ xs))) where
  -- an entry of the product of sizes
  whole : (a c : ℕ) → a < dimension v → c < dimension v → nat_abs (entry (pos 0) (side_size R v (RootElement r f ∷ xs)) a c) < 2 ^ 126
  whole a c i j = last_small v R [] (RootElement r f ∷ xs) small a c i j

  -- one term of it
  pub one_term : (a b c : ℕ) → a < dimension v → b < dimension v → c < dimension v → (size_entry v r (R.size f) a b *ℤ entry (pos 0) (side_size R v xs) b c) ≤ℤ entry (pos 0) (side_size R v (RootElement r f ∷ xs)) a c
  one_term a b c i j l =
      let M = size_element v r (R.size f) in
      let N = side_size R v xs in
      let n = dimension v in
      let nh = side_tall v R xs in
      let nw = side_broad v R xs in
      let c' : c < N.width = omega (arith, l, nw) in
      let t = term_in_sum n b (product_term integers M N a c) j (λ k q. times_nonnegative _ _ (factor_nonnegative v R (RootElement r f) a k i q) (side_nonnegative v R xs k c (omega (arith, q, nh)) c')) in
      subst (λ z. (size_entry v r (R.size f) a b *ℤ entry (pos 0) N b c) ≤ℤ z) (sym (entry-table (pos 0) n N.width (product_entry integers M N) a c i c'))
      (subst (λ z. (z *ℤ entry (pos 0) N b c) ≤ℤ sum_below integers n (product_term integers M N a c)) (entry-table (pos 0) n n (size_entry v r (R.size f)) a b i j) t)

  -- a power and an entry of a divided power are under the size of X_r(f)
  pub under_size : (b : ℕ) (s : Step) → b < dimension v → IsStepOf v r b s → (power integers (pos (R.size f)) s.power *ℤ pos (nat_abs s.value)) ≤ℤ size_entry v r (R.size f) s.row b
  under_size b s j is = by_power s.power is.first is.last (ap nat_abs is.value)
    where
      by_power : (k : ℕ) → 1 ≤ k → k ≤ top v r → nat_abs s.value ≡ nat_abs (entry (pos 0) (divided_power v r k) s.row b) → (power integers (pos (R.size f)) k *ℤ pos (nat_abs s.value)) ≤ℤ size_entry v r (R.size f) s.row b
      by_power zero first last e = absurd (omega (arith, first))
      by_power (suc k) first last e =
          let g = λ (m : ℕ). power integers (pos (R.size f)) (suc m) *ℤ pos (nat_abs (entry (pos 0) (divided_power v r (suc m)) s.row b)) in
          let t = term_in_sum (top v r) k g (omega (arith, last)) (λ m _. times_nonnegative (power integers (pos (R.size f)) (suc m)) (pos (nat_abs (entry (pos 0) (divided_power v r (suc m)) s.row b))) (power_nonnegative (R.size f) (suc m)) (omega (arith, ints))) in
          let o = unit_nonnegative (eqb s.row b) in
          subst (λ m. (power integers (pos (R.size f)) (suc k) *ℤ pos m) ≤ℤ size_entry v r (R.size f) s.row b) (sym e) (omega (arith, ints, t, o))

  -- the sizes of a step's products, where the entry of the column in the row b has a size under that of the side
  pub step-narrow : (b c n : ℕ) (s : Step) → b < dimension v → c < dimension v → IsStepOf v r b s → pos n ≤ℤ entry (pos 0) (side_size R v xs) b c → pos (R.size (power R f s.power) * nat_abs s.value * n) ≤ℤ entry (pos 0) (side_size R v (RootElement r f ∷ xs)) s.row c
  step-narrow b c n s j l is below =
      let u = under_size b s j is in
      let w = power-size R ring f s.power p in
      let first = under_product (R.size (power R f s.power)) (nat_abs s.value) (power integers (pos (R.size f)) s.power) (pos (nat_abs s.value)) w (omega (arith, ints)) in
      let both = under_product (R.size (power R f s.power) * nat_abs s.value) n (size_entry v r (R.size f) s.row b) (entry (pos 0) (side_size R v xs) b c) (omega (arith, ints, u, first)) below in
      let t = one_term s.row b c is.row j l in
      omega (arith, ints, both, t)
