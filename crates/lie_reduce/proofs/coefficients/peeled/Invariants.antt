use Rattle.lie_reduce.specs.PeelSteps.{ArePeeled}
use Rattle.lie_reduce.proofs.coefficients.peeled.Given as goal

abbrev pub invariant-loop-k : goal.invariant-loop-k
invariant-loop-k l = ArePeeled l.frame l.space l.m l.k l.entries.items l.rest
