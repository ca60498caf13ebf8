-- The pairing of a root with a simple coroot, by the coefficient that the reflection changes.
use Rattle.std.proofs.Common.{◌≡◌, ℕ, zero, suc, ◌-◌, ◌≤◌, ℤ, pos, neg_ℤ, ◌+ℤ◌, ◌*ℤ◌, unsigned_abs, ap, subst, ◌∙◌, arith}
use Rattle.std.proofs.lemmas.Int.{ints}
use Rattle.lie_datum.specs.Vectors.{pairing, times, unit, entry}
use Rattle.lie_datum.specs.RootDatum.{vector, simple_coroot, reflected, IsSimpleIndex}
use Rattle.lie_datum.specs.RootList.{RootDatum, IsLoaded, IsNumber, root_of}
use Rattle.lie_datum.proofs.Entries.{entry-plus, entry-times, entry-unit}
use Rattle.lie_datum.proofs.LoadedLaws.{short}
use Rattle.lie_datum.proofs.SignedRoots.{root_is}
use Rattle.lie_datum.proofs.VectorLemmas.{entry_within}
use Rattle.lie_const.specs.StructureConstants.{coeffs_of}

module _ (d : RootDatum) (loaded : IsLoaded d) where
  -- coefficients are within 100
  pub coefficient_small : (r : ℤ) (k : ℕ) → IsNumber d r → unsigned_abs (entry (coeffs_of d r) k) ≤ 100
  coefficient_small r k n = entry_within 100 (coeffs_of d r) k (loaded.axioms.finite.small (root_of d r) (root_is d loaded r n)).0

  pub co_coefficient_small : (r : ℤ) (k : ℕ) → IsNumber d r → unsigned_abs (entry (root_of d r).co_coeffs k) ≤ 100
  co_coefficient_small r k n = entry_within 100 (root_of d r).co_coeffs k (loaded.axioms.finite.small (root_of d r) (root_is d loaded r n)).1

  unit-own : (i : ℕ) → IsSimpleIndex d.base i → entry (unit 8 i) (i - 1) ≡ pos 1
  unit-own zero h = absurd (let l = h.0 in omega (arith, l))
  unit-own (suc i) h = let e : suc i - 1 ≡ i = omega arith in let l = h.1 in let s = short d loaded in ap (entry (unit 8 (suc i))) e ∙ entry-unit 8 i (omega (arith, l, s))

  -- the reflection takes the pairing away
  pub pairing_change : (r k : ℤ) (i : ℕ) → IsSimpleIndex d.base i → root_of d k ≡ reflected d.base i (root_of d r) →
      entry (coeffs_of d k) (i - 1) +ℤ neg_ℤ (entry (coeffs_of d r) (i - 1)) ≡ neg_ℤ (pairing (vector d.base (root_of d r)) (simple_coroot d.base i))
  pairing_change r k i h q =
      let c = neg_ℤ (pairing (vector d.base (root_of d r)) (simple_coroot d.base i)) in
      let x = entry (coeffs_of d r) (i - 1) in
      ap (λ t. entry t.coeffs (i - 1) +ℤ neg_ℤ x) q
      ∙ ap (λ t. t +ℤ neg_ℤ x) (entry-plus (coeffs_of d r) (times c (unit 8 i)) (i - 1) ∙ ap (λ t. x +ℤ t) (entry-times c (unit 8 i) (i - 1) ∙ ap (λ t. c *ℤ t) (unit-own i h)))
      ∙ left_over x c
    where
      left_over : (x c : ℤ) → x +ℤ c *ℤ pos 1 +ℤ neg_ℤ x ≡ c
      left_over x c = omega (arith, ints)

  -- and is at most 200 in absolute value
  pub pairing_small : (r k : ℤ) (i : ℕ) → IsSimpleIndex d.base i → IsNumber d r → IsNumber d k → root_of d k ≡ reflected d.base i (root_of d r) →
      unsigned_abs (neg_ℤ (pairing (vector d.base (root_of d r)) (simple_coroot d.base i))) ≤ 200
  pairing_small r k i h m n q = subst (λ x. unsigned_abs x ≤ 200) (pairing_change r k i h q)
      (bound (entry (coeffs_of d k) (i - 1)) (entry (coeffs_of d r) (i - 1)) (coefficient_small k (i - 1) n) (coefficient_small r (i - 1) m))
    where
      bound : (x y : ℤ) → unsigned_abs x ≤ 100 → unsigned_abs y ≤ 100 → unsigned_abs (x +ℤ neg_ℤ y) ≤ 200
      bound x y p q = omega (arith, ints, p, q)
