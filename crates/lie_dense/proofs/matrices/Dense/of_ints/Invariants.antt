use Rattle.std.proofs.Common.{◌≡◌}
use Rattle.lie_mat.specs.Parts.{partial_table}
use Rattle.lie_dense.specs.Flat.{image_entry}
use Rattle.lie_dense.proofs.matrices.Dense.of_ints.Given as goal

abbrev pub invariant-loop-row : goal.invariant-loop-row
invariant-loop-row l = l.matrix ≡ partial_table 0 l.m.height l.m.width (image_entry l.field.given l.m) l.row 0
