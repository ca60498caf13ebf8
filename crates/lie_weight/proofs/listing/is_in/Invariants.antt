use Rattle.std.proofs.Common.{ℕ, ◌<◌, [], map, get_or}
use Rattle.std.specs.List.{Contains}
use Rattle.lie_weight.proofs.listing.is_in.Given as goal

abbrev pub invariant-loop-orbit : goal.invariant-loop-orbit
invariant-loop-orbit l = (k : ℕ) → k < l.orbit-index → ¬ Contains (get_or (map (λ o. o.items) l.orbits) k []) l.weight
