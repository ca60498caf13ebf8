use Rattle.std.proofs.Common.{◌≡◌, take}
use Rattle.lie_weight.specs.Tensors.{added_weights}
use Rattle.lie_weight.proofs.tensor.product_weights.Given as goal

abbrev pub invariant-loop-a : goal.invariant-loop-a
invariant-loop-a l = l.weights.items ≡ added_weights (take l.a l.first.weights) l.second.weights
