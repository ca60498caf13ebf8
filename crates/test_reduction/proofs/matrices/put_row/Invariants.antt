use Rattle.std.proofs.Common.{◌≡◌}
use Rattle.test_reduction.proofs.matrices.put_row.Given as goal

abbrev pub invariant-loop-col : goal.invariant-loop-col
invariant-loop-col l = record { rows : l.matrix.height ≡ l.n; cols : l.matrix.width ≡ l.n }
