use Rattle.std.proofs.Common.{◌≡◌, ◌<◌, List, [], map, length, get_or, refl, sym, ap, subst, ◌∙◌, arith}
use Rattle.std.proofs.Math.ListN.{length-map}
use Rattle.std.specs.List.{Contains, list_any}
use Rattle.std.specs.Ordering.{int_eq}
use lib.Pointwise.{pointwise}
use Rattle.lie_datum.specs.Vectors.{Vector}
use Rattle.lie_weight.proofs.ListingTests.{found, not_found, in_list, in_no_list, item-list, not_in_more}
use Rattle.lie_weight.proofs.listing.is_in.Goals as goal
use Rattle.lie_weight.proofs.listing.is_in.Goals.{After-contains}

within_is : (c : After-contains) → c.loop-orbit.orbit-index < length c.args.orbits.now
within_is c = let t = c.loop-orbit-test.true in let e = c.loop-orbit.auto.orbit-index-end in omega (arith, t, e)

item_is : (c : After-contains) → get_or (map (λ o. o.items) c.args.orbits.now) c.loop-orbit.orbit-index [] ≡ c.orbit-item.result.items
item_is c = item-list (λ o. o.items) c.args.orbits.now c.loop-orbit.orbit-index c.orbit-item.result (within_is c) c.orbit-item.is

answer_is : (c : After-contains) → c.contains.result ≡ list_any (λ y. pointwise int_eq y c.args.weight.now) c.orbit-item.result.items
answer_is c = c.contains.ensures.value ∙ ap (λ (ws : List Vector). list_any (λ y. pointwise int_eq y c.args.weight.now) ws) c.deref.ensures.value

pub returns-then-contains : goal.returns-then-contains
returns-then-contains c =
    let a = (goal.at.returns-then-contains c).After-contains in
    let os = map (λ o. o.items) c.args.orbits.now in (
      λ _. in_list os c.loop-orbit.orbit-index c.args.weight.now (let l = within_is a in let n = length-map c.args.orbits.now (λ o. o.items) in omega (arith, l, n))
          (subst (λ o. Contains o c.args.weight.now) (sym (item_is a)) (found c.args.weight.now c.orbit-item.result.items c.contains.result (answer_is a) c.if-contains.true)),
      λ _. refl,
    )

pub loop-orbit-preserved : goal.loop-orbit-preserved
loop-orbit-preserved c =
    let a = (goal.at.loop-orbit-preserved c).After-contains in
    not_in_more (map (λ o. o.items) c.args.orbits.now) c.loop-orbit.orbit-index c.args.weight.now c.loop-orbit.invariant
    (subst (λ o. ¬ Contains o c.args.weight.now) (sym (item_is a)) (not_found c.args.weight.now c.orbit-item.result.items c.contains.result (answer_is a) c.if-contains.false))

pub returns : goal.returns
returns c =
    let os = map (λ o. o.items) c.args.orbits.now in
    (λ f. absurd (cc), λ h. absurd (in_no_list os c.loop-orbit.orbit-index c.args.weight.now (let t = c.loop-orbit-test.false in let e = c.loop-orbit.auto.orbit-index-end in let n = length-map c.args.orbits.now (λ o. o.items) in omega (arith, t, e, n)) c.loop-orbit.invariant h))
