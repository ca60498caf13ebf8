use Rattle.lie_weight.proofs.WorkLemmas.{IsSmallBelow}
use Rattle.lie_weight.proofs.completion.first_huge_power.Given as goal

abbrev pub invariant-loop-k : goal.invariant-loop-k
invariant-loop-k l = IsSmallBelow l.factors l.space l.s l.k
