use Rattle.std.proofs.Common.{◌≡◌, take, map}
use Rattle.lie_orbit.specs.Levels.{leveled_weight}
use Rattle.lie_orbit.proofs.levels.without_levels.Given as goal

abbrev pub invariant-loop-p : goal.invariant-loop-p
invariant-loop-p l = l.weights.items ≡ map leveled_weight (take l.p-index l.list)
