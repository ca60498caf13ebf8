use Rattle.std.proofs.Common.{◌^◌, pos, ◌≤ℤ◌, subst, sym, ap, ◌∙◌}
use Rattle.lie_datum.specs.Vectors.{pairing}
use Rattle.lie_datum.specs.RootDatum.{IsWithin}
use Rattle.lie_orbit.specs.Weights.{coroot_pairing}
use Rattle.lie_orbit.specs.Lowering.{IsHalf}
use Rattle.lie_orbit.proofs.ArithmeticLemmas.{half_of}
use Rattle.lie_orbit.proofs.WeightLemmas.{covector_within}
use Rattle.lie_reduce.proofs.torus_part.half.Goals as goal

pub pairing-requires-clause-y : goal.pairing-requires-clause-y
pairing-requires-clause-y c = subst (IsWithin 80000) (sym c.coroot.ensures) (covector_within c.args.datum.now c.loaded.ensures c.args.r c.requires.number)

pub returns : goal.returns
returns c =
    let is = c.pairing.ensures ∙ ap (pairing c.args.weight.now) c.coroot.ensures in
    let high = subst (λ t. pos 2 ≤ℤ t) (sym is) c.requires.high in
    let few = subst (λ t. t ≤ℤ pos (10 ^ 32)) (sym is) c.requires.few in
    let h = half_of c.pairing.result high few in
    subst (IsHalf (coroot_pairing c.args.datum.now c.args.weight.now c.args.r)) (sym h.1) (subst (λ t. IsHalf t h.0) is h.2)
