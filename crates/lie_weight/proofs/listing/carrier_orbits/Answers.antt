use Rattle.std.proofs.Common.{map, length, ap, arith}
use Rattle.lie_weight.specs.Carriers.{joined}
use Rattle.lie_weight.proofs.CarrierLemmas.{listing_start}
use Rattle.lie_weight.proofs.listing.carrier_orbits.Goals as goal

pub loop-axis-init : goal.loop-axis-init
loop-axis-init c =
    let os = map (λ o. o.items) c.new-orbits.result.items in
    let e = ap (map (λ o. o.items)) c.new-orbits.ensures.items in
    let a = c.requires.adjoint in
    let f = c.requires.few in
    let l = ap (λ t. length (joined t)) e in
    (listing_start c.args.datum.now os e (omega (arith, a, f)), omega (arith, a, l))
