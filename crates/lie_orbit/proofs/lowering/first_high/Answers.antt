use Rattle.std.proofs.Common.{◌≡◌, ◌<◌, ◌*◌, pos, ◌≤ℤ◌, length, subst, sym, ap, ◌∙◌, arith, rules}
use Rattle.std.proofs.lemmas.Int.{ints}
use mir.Val.{SFits}
use mir.Syntax.{w128}
use Rattle.lie_datum.specs.Vectors.{pairing}
use Rattle.lie_datum.specs.RootDatum.{IsWithin}
use Rattle.lie_datum.specs.Numbers.{number_at}
use Rattle.lie_datum.specs.RootList.{IsNumber}
use Rattle.lie_datum.proofs.NumberLemmas.{numbered_at}
use Rattle.lie_orbit.specs.Weights.{coroot_pairing}
use Rattle.lie_orbit.specs.Lowering.{IsHighRoot, IsFirstHigh}
use Rattle.lie_orbit.proofs.WeightLemmas.{covector_within, none_more, none_all, high_first}
use Rattle.lie_orbit.proofs.lowering.first_high.Goals as goal
use Rattle.lie_orbit.proofs.lowering.first_high.Goals.{After-at-r, After-pairing}

inside : (c : After-at-r) → c.loop-place.place < 2 * length c.args.datum.now.positive
inside c = let t = c.loop-place-test.true in let m = c.m-positive.ensures.value in omega (arith, t, m)

at_is : (c : After-at-r) → c.at-r.result ≡ number_at (length c.args.datum.now.positive) c.loop-place.place
at_is c = c.at-r.ensures ∙ ap (λ m. number_at m c.loop-place.place) c.m-positive.ensures.value

number_is : (c : After-at-r) → IsNumber c.args.datum.now c.at-r.result
number_is c = subst (IsNumber c.args.datum.now) (sym (at_is c)) (numbered_at c.args.datum.now c.loop-place.place (inside c)).number

pub pairing-requires-clause-y : goal.pairing-requires-clause-y
pairing-requires-clause-y c = subst (IsWithin 80000) (sym c.coroot.ensures) (covector_within c.args.datum.now c.loaded.ensures c.at-r.result (number_is (goal.at.pairing-requires-clause-y c).After-at-r))

pairing_is : (c : After-pairing) → c.pairing.result ≡ coroot_pairing c.args.datum.now c.args.weight.now c.at-r.result
pairing_is c = c.pairing.ensures ∙ ap (pairing c.args.weight.now) c.coroot.ensures

pub loop-place-preserved : goal.loop-place-preserved
loop-place-preserved c =
    let a = (goal.at.loop-place-preserved c).After-at-r in
    let p = (goal.at.loop-place-preserved c).After-pairing in
    let not_high : ¬ IsHighRoot c.args.datum.now c.args.weight.now c.at-r.result = λ h.
    (let f : SFits w128 c.pairing.result = search rules in
    let e = subst (λ t. pos 2 ≤ℤ t) (sym (pairing_is p)) h in
    let t = c.if-pairing-ge2.false in
    absurd (omega (arith, ints, e))) in
    none_more c.args.datum.now (IsHighRoot c.args.datum.now c.args.weight.now) c.loop-place.place (inside a) (subst (λ t. ¬ IsHighRoot c.args.datum.now c.args.weight.now t) (at_is a) not_high) c.loop-place.invariant

pub returns-then-pairing-ge2 : goal.returns-then-pairing-ge2
returns-then-pairing-ge2 c =
    let a = (goal.at.returns-then-pairing-ge2 c).After-at-r in
    let p = (goal.at.returns-then-pairing-ge2 c).After-pairing in
    let f : SFits w128 c.pairing.result = search rules in
    let high : pos 2 ≤ℤ c.pairing.result = let t = c.if-pairing-ge2.true in omega (arith, ints) in
    let is : IsHighRoot c.args.datum.now c.args.weight.now c.at-r.result = subst (λ t. pos 2 ≤ℤ t) (pairing_is p) high in
    subst (IsFirstHigh c.args.datum.now c.args.weight.now) (sym (at_is a)) (high_first c.args.datum.now c.args.weight.now c.loop-place.place (inside a) (subst (IsHighRoot c.args.datum.now c.args.weight.now) (at_is a) is) c.loop-place.invariant)

pub returns : goal.returns
returns c =
    let t = c.loop-place-test.false in
    let m = c.m-positive.ensures.value in
    none_all c.args.datum.now (IsHighRoot c.args.datum.now c.args.weight.now) c.loop-place.place (omega (arith, t, m)) c.loop-place.invariant
