use Rattle.std.proofs.Common.{◌≡◌, ◌^◌, ◌≤◌, pos, neg_ℤ, ◌≤ℤ◌, unsigned_abs, subst, sym, ap, ◌∙◌}
use Rattle.lie_datum.specs.Vectors.{pairing, plus, times}
use Rattle.lie_datum.specs.RootDatum.{IsWithin}
use Rattle.lie_orbit.specs.Weights.{coroot_pairing}
use Rattle.lie_orbit.specs.Lowering.{IsHalf}
use Rattle.lie_orbit.proofs.ArithmeticLemmas.{half_of}
use Rattle.lie_orbit.proofs.WeightLemmas.{covector_within, root_within}
use Rattle.lie_orbit.proofs.lowering.lowered_by.Goals as goal
use Rattle.lie_orbit.proofs.lowering.lowered_by.Goals.{After-pairing-half}

pub pairing-half-requires-clause-y : goal.pairing-half-requires-clause-y
pairing-half-requires-clause-y c = subst (IsWithin 80000) (sym c.coroot.ensures) (covector_within c.args.datum.now c.loaded.ensures c.args.r c.requires.number)

pub less_multiple-requires-clause-root : goal.less_multiple-requires-clause-root
less_multiple-requires-clause-root c = subst (IsWithin 80000) (sym c.root.ensures) (root_within c.args.datum.now c.loaded.ensures c.args.r c.requires.number)

pairing_is : (c : After-pairing-half) → c.pairing-half.result ≡ coroot_pairing c.args.datum.now c.args.weight.now c.args.r
pairing_is c = c.pairing-half.ensures ∙ ap (pairing c.args.weight.now) c.coroot.ensures

high : (c : After-pairing-half) → pos 2 ≤ℤ c.pairing-half.result
high c = subst (λ t. pos 2 ≤ℤ t) (sym (pairing_is c)) c.requires.high

few : (c : After-pairing-half) → c.pairing-half.result ≤ℤ pos (10 ^ 32)
few c = subst (λ t. t ≤ℤ pos (10 ^ 32)) (sym (pairing_is c)) c.requires.few

pub less_multiple-requires-clause-by : goal.less_multiple-requires-clause-by
less_multiple-requires-clause-by c =
    let p = (goal.at.less_multiple-requires-clause-by c).After-pairing-half in
    let h = half_of c.pairing-half.result (high p) (few p) in
    subst (λ t. unsigned_abs t ≤ 10 ^ 32) (sym h.1) h.3

pub returns : goal.returns
returns c =
    let p = (goal.at.returns c).After-pairing-half in
    let h = half_of c.pairing-half.result (high p) (few p) in
    let w = c.args.weight.now in
    (h.0, subst (λ t. IsHalf t h.0) (pairing_is p) h.2, c.less_multiple.ensures ∙ ap (λ t. plus w (times (neg_ℤ t) c.root.result.now)) h.1 ∙ ap (λ v. plus w (times (neg_ℤ h.0) v)) c.root.ensures)
