use Rattle.lie_ring.specs.Integers.{integers}
use Rattle.lie_ring.specs.Matrices.{AllFit}
use Rattle.test_modules.proofs.matrices.matrix.Given as goal

abbrev pub invariant-loop-row : goal.invariant-loop-row
invariant-loop-row l = AllFit integers l.matrix

abbrev pub invariant-loop-col : goal.invariant-loop-col
invariant-loop-col l = AllFit integers l.matrix
