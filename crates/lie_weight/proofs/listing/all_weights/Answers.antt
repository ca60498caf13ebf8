use Rattle.std.proofs.Common.{◌<◌, ◌++◌, map, length, ap, ◌∙◌, arith}
use Rattle.std.proofs.Math.ListN.{length-map}
use Rattle.lie_weight.proofs.ListingTests.{item-list}
use Rattle.lie_weight.proofs.CarrierLemmas.{joined_more}
use Rattle.lie_weight.proofs.listing.all_weights.Goals as goal

pub loop-orbit-preserved : goal.loop-orbit-preserved
loop-orbit-preserved c =
    let os = map (λ o. o.items) c.args.orbits.now in
    let k = c.loop-orbit.orbit-index in
    let inside : k < length c.args.orbits.now = let t = c.loop-orbit-test.true in let e = c.loop-orbit.auto.orbit-index-end in omega (arith, t, e) in
    joined_more c.args.space.now.weights c.loop-orbit.weights.items c.extend_from_slice.new.self.items os k c.orbit-item.result.items
    (let n = length-map c.args.orbits.now (λ o. o.items) in omega (arith, inside, n))
    (item-list (λ o. o.items) c.args.orbits.now k c.orbit-item.result inside c.orbit-item.is)
    c.loop-orbit.invariant (c.in_ok-extend_from_slice.ensures.items ∙ ap (λ t. c.loop-orbit.weights.items ++ t) c.deref.ensures.value)
