use Rattle.lie_weight.proofs.TensorLemmas.{IsSmallBelow}
use Rattle.lie_weight.proofs.tensor_powers.first_huge_power.Given as goal

abbrev pub invariant-loop-k : goal.invariant-loop-k
invariant-loop-k l = IsSmallBelow l.first l.second l.root l.k
