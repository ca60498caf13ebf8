-- The weights of built modules have small coordinates.
use Rattle.std.proofs.Common.{◌≡◌, ℕ, ◌+◌, ◌-◌, ◌<◌, ◌≤◌, pos, List, [], get_or, replicate, sym, ap, subst, ◌∙◌, arith, unsigned_abs, inl, inr, zero-add}
use Rattle.std.specs.List.{All, range_with_len}
use Rattle.std.proofs.lemmas.Bool.{cases_lt}
use Rattle.std.proofs.lemmas.List.{get_or_default}
use Rattle.std.proofs.lemmas.List.Elements.{All-map, All-replicate}
use Rattle.std.proofs.lemmas.List.FromFn.{length-range_with_len, get_or-range_with_len}
use Rattle.lie_datum.specs.Vectors.{Vector}
use Rattle.lie_datum.specs.RootDatum.{vector, IsWithin}
use Rattle.lie_datum.specs.RootList.{root_of}
use Rattle.lie_const.specs.Adjoint.{basis_vector, basis_weight, adjoint_dimension}
use Rattle.lie_orbit.proofs.WeightLemmas.{root_within, within_more}
use Rattle.lie_weight.proofs.BasisLemmas.{basis_cases}
use Rattle.lie_weight.specs.OrbitFaults.{IsHeavyWeight, IsHeavyAt}
use Rattle.lie_identities.specs.LightModules.{AdjointIsLight, OrbitIsLight, CarrierIsLight}

-- a coordinate that is not too large
light_weight : (x : Vector) → ¬ IsHeavyWeight x → IsWithin 1000000 x
light_weight x h k z l = elim (cases_lt 1000000 (unsigned_abs (get_or x k z))) [
  | inl heavy ↦ absurd (h (k, get_or x k z, l, sym (get_or_default x k z (get_or x k z) l), heavy))
  | inr light ↦ light
]

not_heavy : (ws : List Vector) → ((a : ℕ) → ¬ IsHeavyAt ws a) → All (IsWithin 1000000) ws
not_heavy ws light k z l =
    light_weight (get_or ws k z) (λ heavy. light (k + 1) (omega arith, omega (arith, l), subst IsHeavyWeight (get_or_default ws k z [] l ∙ ap (λ i. get_or ws i []) (let e : k ≡ k + 1 - 1 = omega arith in e)) heavy))

pub orbit_is_light : OrbitIsLight
orbit_is_light d eta w v h = (h.1.steps.shape, not_heavy v.weights h.2.light)

pub carrier_is_light : CarrierIsLight
carrier_is_light d eta adjoint v h = (h.0.sum.2.shape, not_heavy v.weights h.2)

zeros_within : (n : ℕ) → IsWithin n (replicate 8 (pos 0))
zeros_within n = All-replicate (λ c. unsigned_abs c ≤ n) 8 (pos 0) (omega arith)

pub adjoint_is_light : AdjointIsLight
adjoint_is_light d n v loaded adjoint =
    subst (All (IsWithin 1000000)) (sym adjoint.weights)
    (All-map (IsWithin 1000000) (λ a. basis_weight d (basis_vector d a)) (range_with_len 0 (adjoint_dimension d)) (λ k z l.
    (let a = get_or (range_with_len 0 (adjoint_dimension d)) k z in
    let low : k < adjoint_dimension d = subst (λ m. k < m) (length-range_with_len 0 (adjoint_dimension d)) l in
    let is : a ≡ k = get_or-range_with_len 0 (adjoint_dimension d) k z low ∙ zero-add k in
    subst (λ m. IsWithin 1000000 (basis_weight d (basis_vector d m))) (sym is) (elim (basis_cases d k low) [
      | inl r ↦ subst (λ b. IsWithin 1000000 (basis_weight d b)) (sym r.1.vector) (within_more 80000 1000000 (vector d.base (root_of d r.0)) (omega arith) (root_within d loaded r.0 r.1.number))
      | inr i ↦ subst (λ b. IsWithin 1000000 (basis_weight d b)) (sym i.1.vector) (zeros_within 1000000)
    ]))))
