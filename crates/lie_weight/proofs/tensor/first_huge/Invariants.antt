use Rattle.lie_weight.specs.TensorParts.{IsFoundBefore}
use Rattle.lie_weight.proofs.tensor.first_huge.Given as goal

abbrev pub invariant-loop-place : goal.invariant-loop-place
invariant-loop-place l = IsFoundBefore l.datum l.first l.second l.place l.found
