use Rattle.std.proofs.Common.{◌≡◌}
use Rattle.bench_dense.proofs.integers.Given as goal

abbrev pub invariant-loop-row : goal.invariant-loop-row
invariant-loop-row l = record { rows : l.matrix.height ≡ l.n; cols : l.matrix.width ≡ l.n }

abbrev pub invariant-loop-col : goal.invariant-loop-col
invariant-loop-col l = record { rows : l.matrix.height ≡ l.n; cols : l.matrix.width ≡ l.n }
