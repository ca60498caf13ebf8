use Rattle.std.proofs.Common.{◌≡◌, ◌++◌, map, take}
use Rattle.lie_datum.specs.Vectors.{plus}
use Rattle.lie_weight.proofs.tensor.add_weights.Given as goal

abbrev pub invariant-loop-b : goal.invariant-loop-b
invariant-loop-b l = l.weights.items ≡ l.initial.weights.items ++ map (plus l.x) (take l.b l.second.weights)
