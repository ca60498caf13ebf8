use Rattle.std.proofs.Common.{◌≡◌}
use Rattle.lie_mat.specs.Parts.{partial_table}
use Rattle.lie_dense.specs.Flat.{image_entry}
use Rattle.lie_dense.proofs.matrices.fill_row.Given as goal

abbrev pub invariant-loop-col : goal.invariant-loop-col
invariant-loop-col l = l.matrix ≡ partial_table 0 l.m.height l.m.width (image_entry l.field.given l.m) l.row l.col
