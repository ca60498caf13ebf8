use Rattle.std.proofs.Common.{◌≡◌}
use Rattle.test_reduction.proofs.matrices.square.Given as goal

abbrev pub invariant-loop-row : goal.invariant-loop-row
invariant-loop-row l = record { rows : l.matrix.height ≡ l.n; cols : l.matrix.width ≡ l.n }
