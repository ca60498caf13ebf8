use Rattle.std.proofs.Common.{◌≡◌, length}
use Rattle.lie_mat.specs.Parts.{partial_table}
use Rattle.lie_ring.specs.Matrices.{entry}
use Rattle.lie_session.specs.Outcomes.{matrix_of}
use Rattle.lie_session.proofs.rows.Rows.fill_row.Given as goal

abbrev pub invariant-loop-col : goal.invariant-loop-col
invariant-loop-col l = l.matrix ≡ partial_table 0 (length l.self.rows) (length l.self.rows) (entry 0 (matrix_of (length l.self.rows) l.self.rows)) l.row l.col
