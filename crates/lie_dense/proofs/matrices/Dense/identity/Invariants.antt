use Rattle.std.proofs.Common.{◌≡◌, cond, eqb}
use Rattle.lie_mat.specs.Parts.{partial_table}
use Rattle.lie_dense.proofs.matrices.Dense.identity.Given as goal

abbrev pub invariant-loop-i : goal.invariant-loop-i
invariant-loop-i l = l.matrix ≡ partial_table 0 l.n l.n (λ k j. cond (eqb k j) l.one 0) l.i 0
