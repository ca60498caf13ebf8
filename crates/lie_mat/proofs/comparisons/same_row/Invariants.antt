use Rattle.std.proofs.Common.{◌≡◌, ℕ, ◌<◌}
use Rattle.lie_ring.specs.Matrices.{entry}
use Rattle.lie_mat.proofs.comparisons.same_row.Given as goal

abbrev pub invariant-loop-col : goal.invariant-loop-col
invariant-loop-col g l = (j : ℕ) → j < l.col → entry g.R.Ring.zero l.a l.row j ≡ entry g.R.Ring.zero l.b l.row j
