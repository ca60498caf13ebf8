use Rattle.std.proofs.Common.{◌≡◌, ◌+◌, map, length}
use Rattle.lie_const.specs.Adjoint.{adjoint_dimension}
use Rattle.lie_weight.specs.Carriers.{joined}
use Rattle.lie_weight.specs.CarrierParts.{IsListing}
use Rattle.lie_weight.proofs.listing.carrier_orbits.Given as goal

abbrev pub invariant-loop-axis : goal.invariant-loop-axis
invariant-loop-axis l =
    IsListing l.datum l.axis (map (λ o. o.items) l.orbits.items)
    × (l.count ≡ adjoint_dimension l.datum + length (joined (map (λ o. o.items) l.orbits.items)))
