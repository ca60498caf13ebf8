use Rattle.std.proofs.Common.{◌≡◌, ◌++◌, map, take}
use Rattle.lie_weight.specs.Carriers.{joined}
use Rattle.lie_weight.proofs.listing.all_weights.Given as goal

abbrev pub invariant-loop-orbit : goal.invariant-loop-orbit
invariant-loop-orbit l = l.weights.items ≡ l.space.weights ++ joined (take l.orbit-index (map (λ o. o.items) l.orbits))
