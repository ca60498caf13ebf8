use Rattle.std.proofs.Common.{◌≡◌, map, take}
use Rattle.lie_datum.specs.Vectors.{minus}
use Rattle.lie_weight.proofs.dual.opposites.Given as goal

abbrev pub invariant-loop-weight : goal.invariant-loop-weight
invariant-loop-weight l = l.opposites.items ≡ map minus (take l.weight-index l.weights)
