use Rattle.std.proofs.Common.{◌≡◌, cond, eqb}
use Rattle.lie_mat.specs.Parts.{partial_table}
use Rattle.lie_const.specs.Modules.{dimension}
use Rattle.lie_audit.specs.WordMatrix.{weight_value}
use Rattle.lie_audit.proofs.letter_matrices.torus_matrix.Given as goal

abbrev pub invariant-loop-i : goal.invariant-loop-i
invariant-loop-i l = l.matrix ≡ partial_table 0 (dimension l.space) (dimension l.space) (λ k j. cond (eqb k j) (weight_value l.field l.space l.t k) 0) l.i 0
