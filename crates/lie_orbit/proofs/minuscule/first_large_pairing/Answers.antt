use Rattle.std.proofs.Common.{◌≡◌, ◌<◌, ◌≤◌, ◌*◌, length, subst, sym, ap, ◌∙◌, arith, unsigned_abs}
use Rattle.lie_datum.specs.Vectors.{pairing}
use Rattle.lie_datum.specs.RootDatum.{IsWithin}
use Rattle.lie_datum.specs.Numbers.{number_at}
use Rattle.lie_datum.specs.RootList.{IsNumber}
use Rattle.lie_datum.proofs.NumberLemmas.{numbered_at}
use Rattle.lie_orbit.specs.Weights.{HasLargePairing, IsFirstLargePairing, coroot_pairing}
use Rattle.lie_orbit.proofs.WeightLemmas.{covector_within, none_more, none_all, large_first}
use Rattle.lie_orbit.proofs.minuscule.first_large_pairing.Goals as goal
use Rattle.lie_orbit.proofs.minuscule.first_large_pairing.Goals.{After-at-r, After-pairing}

inside : (c : After-at-r) → c.loop-place.place < 2 * length c.args.datum.now.positive
inside c = let t = c.loop-place-test.true in let m = c.m-positive.ensures.value in omega (arith, t, m)

at_is : (c : After-at-r) → c.at-r.result ≡ number_at (length c.args.datum.now.positive) c.loop-place.place
at_is c = c.at-r.ensures ∙ ap (λ m. number_at m c.loop-place.place) c.m-positive.ensures.value

number_is : (c : After-at-r) → IsNumber c.args.datum.now c.at-r.result
number_is c = subst (IsNumber c.args.datum.now) (sym (at_is c)) (numbered_at c.args.datum.now c.loop-place.place (inside c)).number

pub pairing-requires-clause-y : goal.pairing-requires-clause-y
pairing-requires-clause-y c = subst (IsWithin 80000) (sym c.coroot.ensures) (covector_within c.args.datum.now c.loaded.ensures c.at-r.result (number_is (goal.at.pairing-requires-clause-y c).After-at-r))

pairing_is : (c : After-pairing) → c.pairing.result ≡ coroot_pairing c.args.datum.now c.args.weight.now c.at-r.result
pairing_is c = c.pairing.ensures ∙ ap (pairing c.args.weight.now) c.coroot.ensures

pub loop-place-preserved : goal.loop-place-preserved
loop-place-preserved c =
    let a = (goal.at.loop-place-preserved c).After-at-r in
    let p = (goal.at.loop-place-preserved c).After-pairing in
    let few : unsigned_abs c.pairing.result ≤ 1 = let t = c.if-unsigned_abs-gt1.false in let e = c.unsigned_abs.ensures in grind (arith) in
    let not_large : ¬ HasLargePairing c.args.datum.now c.args.weight.now c.at-r.result = λ h. let e = pairing_is p in absurd (let l = subst (λ t. unsigned_abs t ≤ 1) e few in omega (arith, l, h)) in
    none_more c.args.datum.now (HasLargePairing c.args.datum.now c.args.weight.now) c.loop-place.place (inside a) (subst (λ t. ¬ HasLargePairing c.args.datum.now c.args.weight.now t) (at_is a) not_large) c.loop-place.invariant

pub returns-then-unsigned_abs-gt1 : goal.returns-then-unsigned_abs-gt1
returns-then-unsigned_abs-gt1 c =
    let a = (goal.at.returns-then-unsigned_abs-gt1 c).After-at-r in
    let p = (goal.at.returns-then-unsigned_abs-gt1 c).After-pairing in
    let large : 1 < unsigned_abs c.pairing.result = let t = c.if-unsigned_abs-gt1.true in let e = c.unsigned_abs.ensures in grind (arith) in
    let is : HasLargePairing c.args.datum.now c.args.weight.now c.at-r.result = subst (λ t. 1 < unsigned_abs t) (pairing_is p) large in
    subst (IsFirstLargePairing c.args.datum.now c.args.weight.now) (sym (at_is a)) (large_first c.args.datum.now c.args.weight.now c.loop-place.place (inside a) (subst (HasLargePairing c.args.datum.now c.args.weight.now) (at_is a) is) c.loop-place.invariant)

pub returns : goal.returns
returns c =
    let t = c.loop-place-test.false in
    let m = c.m-positive.ensures.value in
    let none = none_all c.args.datum.now (HasLargePairing c.args.datum.now c.args.weight.now) c.loop-place.place (omega (arith, t, m)) c.loop-place.invariant in
    λ r n. (let h = none r n in omega (arith, h))
