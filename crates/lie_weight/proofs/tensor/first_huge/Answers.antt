-- One root more, and the first place of all.
use Rattle.std.proofs.Common.{◌≡◌, ◌*◌, ◌<◌, length, ap, sym, subst, ◌∙◌, arith}
use Rattle.lie_datum.specs.Numbers.{place, number_at}
use Rattle.lie_datum.specs.RootList.{IsNumber}
use Rattle.lie_datum.proofs.NumberLemmas.{numbered_at}
use Rattle.lie_weight.proofs.TensorPlaces.{found_next, found_end, found_number}
use Rattle.lie_weight.proofs.tensor.first_huge.Goals as goal
use Rattle.lie_weight.proofs.tensor.first_huge.Goals.{After-at-root}

inside : (c : After-at-root) → c.loop-place.place < 2 * length c.args.datum.now.positive
inside c = let t = c.loop-place-test.true in let e = c.loop-place.auto.place-end in let m = c.m-positive.ensures.value in omega (arith, t, e, m)

root_is : (c : After-at-root) → c.at-root.result ≡ number_at (length c.args.datum.now.positive) c.loop-place.place
root_is c = c.at-root.ensures ∙ ap (λ m. number_at m c.loop-place.place) c.m-positive.ensures.value

number_is : (c : After-at-root) → IsNumber c.args.datum.now c.at-root.result
number_is c = subst (IsNumber c.args.datum.now) (sym (root_is c)) (numbered_at c.args.datum.now c.loop-place.place (inside c)).number

place_is : (c : After-at-root) → place (length c.args.datum.now.positive) c.at-root.result ≡ c.loop-place.place
place_is c = ap (place (length c.args.datum.now.positive)) (root_is c) ∙ (numbered_at c.args.datum.now c.loop-place.place (inside c)).place

pub with_power-found-requires-clause-root : goal.with_power-found-requires-clause-root
with_power-found-requires-clause-root c = number_is (goal.at.with_power-found-requires-clause-root c).After-at-root

pub with_power-found-requires-clause-found : goal.with_power-found-requires-clause-found
with_power-found-requires-clause-found c = found_number c.args.datum.now c.args.first.now c.args.second.now c.loop-place.place c.loop-place.found c.loop-place.invariant

pub loop-place-preserved : goal.loop-place-preserved
loop-place-preserved c =
    let a = (goal.at.loop-place-preserved c).After-at-root in
    found_next c.args.datum.now c.args.first.now c.args.second.now c.loop-place.place c.at-root.result (number_is a) (place_is a) c.in_ok-power.power c.in_ok-power.ensures c.loop-place.found c.with_power-found.result c.loop-place.invariant c.with_power-found.ensures

pub returns : goal.returns
returns c =
    found_end c.args.datum.now c.args.first.now c.args.second.now c.loop-place.place c.loop-place.found (let f = c.loop-place-test.false in let e = c.loop-place.auto in let m = c.m-positive.ensures.value in omega (arith, f, e, m)) c.loop-place.invariant
