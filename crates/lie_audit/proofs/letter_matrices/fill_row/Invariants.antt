use Rattle.std.proofs.Common.{◌≡◌}
use Rattle.lie_mat.specs.Parts.{partial_table}
use Rattle.lie_field.specs.FieldRing.{field_ring}
use Rattle.lie_const.specs.Modules.{dimension, root_element_entry}
use Rattle.lie_audit.proofs.letter_matrices.fill_row.Given as goal

abbrev pub invariant-loop-col : goal.invariant-loop-col
invariant-loop-col l = l.matrix ≡ partial_table 0 (dimension l.space) (dimension l.space) (root_element_entry (field_ring l.field) l.space l.r l.a) l.row l.col
