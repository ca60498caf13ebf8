use Rattle.std.proofs.Common.{◌≡◌}
use Rattle.lie_ring.specs.Matrices.{AllFit}
use Rattle.lie_mat.specs.Parts.{partial_table}
use Rattle.lie_mat.proofs.entries.build.Given as goal

abbrev pub invariant-loop-row : goal.invariant-loop-row
invariant-loop-row g l = record {
  partly : l.matrix ≡ partial_table g.E.Ring.Ring.zero l.rows l.cols (g.E.Entries.value l.entries) l.row 0;
  fit : AllFit (g.E.Ring.Ring.ring (g.E.Entries.over l.entries)) l.matrix;
}
