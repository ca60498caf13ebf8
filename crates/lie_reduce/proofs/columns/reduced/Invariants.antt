use Rattle.std.proofs.Common.{◌≡◌}
use Rattle.lie_mat.specs.Parts.{partial_table}
use Rattle.lie_reduce.specs.Pivots.{without_column}
use Rattle.lie_reduce.proofs.columns.reduced.Given as goal

abbrev pub invariant-loop-row : goal.invariant-loop-row
invariant-loop-row l = l.next ≡ partial_table 0 l.m.height l.m.height (without_column l.field.given l.m l.inverse l.p l.col) l.row 0
