-- The sizes of what the steps of a column add are at most those that the size of X_r(f) has there.
-- Own: the sizes.
use Rattle.std.proofs.Common.{ℕ, suc, ◌<◌, ℤ, pos, ◌*ℤ◌, nat_abs, List, [], ◌∷◌, map, cond, eqb, true, false, Bool, refl, sym, ap, ◌∙◌, subst, arith}
use Rattle.std.specs.Prelude.{◌≤ℤ◌}
use Rattle.std.proofs.lemmas.Int.{ints}
use Rattle.lie_ring.specs.Rings.{RingOn, IsElem, IsRing}
use Rattle.lie_ring.specs.Integers.{integers}
use Rattle.lie_ring.specs.IntegerLaws.{integers_ring, integers_commutative}
use Rattle.lie_ring.specs.Powers.{power}
use Rattle.lie_ring.specs.RingLemmas.{mul_zero, zero_mul}
use Rattle.lie_ring.specs.SumLemmas.{sum-mul}
use Rattle.lie_ring.specs.Matrices.{entry}
use Rattle.lie_const.specs.Modules.{Module, dimension, top, divided_power}
use Rattle.lie_identities.specs.Additions.{added_in, size_in}
use Rattle.lie_identities.specs.Moves.{addition}
use Rattle.lie_identities.specs.declared.steps.Step.{Step}
use Rattle.lie_identities.proofs.FactorLemmas.{power-elem}
use Rattle.lie_identities.proofs.EntrySizes.{under_product, power-size}
use Rattle.lie_identities.specs.Columns.{moved_size}
use Rattle.lie_identities.specs.StepLists.{steps_of}
use Rattle.lie_identities.proofs.StepLemmas.{steps-sum}

module _ {A : Type 0} (R : RingOn A) (ring : IsRing R) (f x : A) (p : IsElem R f) (q : IsElem R x) where
  -- the bound on what a step adds
  abbrev bound : Step → ℤ
  bound s = (power integers (pos (R.size f)) s.power *ℤ pos (nat_abs s.value)) *ℤ pos (R.size x)

  -- the size of what it adds
  pub step-size : (s : Step) → pos (R.size (addition R f x s).1) ≤ℤ bound s
  step-size s =
      let pf = power-elem R ring f s.power p in
      let pn = ring.integers.int_elem s.value in
      let first = ring.sized.size_mul (power R f s.power) (R.of_int s.value) pf pn in
      let second = ring.sized.size_mul (R.mul (power R f s.power) (R.of_int s.value)) x (ring.laws.mul_elem _ _ pf pn) q in
      let o = ring.sized.size_int s.value in
      let u = under_product (R.size (power R f s.power)) (R.size (R.of_int s.value)) (power integers (pos (R.size f)) s.power) (pos (nat_abs s.value)) (power-size R ring f s.power p) (omega (arith, ints, o)) in
      let w = under_product (R.size (R.mul (power R f s.power) (R.of_int s.value))) (R.size x) (power integers (pos (R.size f)) s.power *ℤ pos (nat_abs s.value)) (pos (R.size x)) (omega (arith, ints, u, first)) (omega (arith, ints)) in
      omega (arith, ints, w, second)

  choice : (b : Bool) (m : ℕ) (n : ℤ) → pos m ≤ℤ n → pos (cond b m 0) ≤ℤ cond b n (pos 0)
  choice true m n h = h
  choice false m n h = omega (arith, ints)

  -- the sizes of what a list of steps adds in a row
  list-size : (a : ℕ) (ss : List Step) → pos (size_in R a (map (addition R f x) ss)) ≤ℤ added_in integers a (map (λ s. (s.row, bound s)) ss)
  list-size a [] = omega (arith, ints)
  list-size a (s ∷ ss) =
      let here = choice (eqb s.row a) (R.size (addition R f x s).1) (bound s) (step-size s) in
      let rest = list-size a ss in
      omega (arith, ints, here, rest)

  -- those of the steps of a column
  pub steps-size : (v : Module) (r : ℤ) (b a : ℕ) → a < dimension v → pos (size_in R a (map (addition R f x) (steps_of v r b))) ≤ℤ (moved_size v r (R.size f) a b *ℤ pos (R.size x))
  steps-size v r b a l =
      let none = λ (k a : ℕ). ap (λ n. n *ℤ pos (R.size x)) (mul_zero integers integers_commutative (power integers (pos (R.size f)) k) refl) ∙ zero_mul integers integers_commutative (pos (R.size x)) refl in
      subst (λ z. pos (size_in R a (map (addition R f x) (steps_of v r b))) ≤ℤ z)
      (steps-sum integers integers_ring v r b bound (λ s. refl) none a l
      ∙ sym (sum-mul integers integers_commutative (top v r) (λ k. power integers (pos (R.size f)) (suc k) *ℤ pos (nat_abs (entry (pos 0) (divided_power v r (suc k)) a b))) (pos (R.size x)) refl (λ k _. refl)))
      (list-size a (steps_of v r b))
