use Rattle.std.proofs.Common.{◌≡◌}
use Rattle.lie_mat.specs.Parts.{partial_table}
use Rattle.lie_reduce.specs.Pivots.{without_column}
use Rattle.lie_reduce.proofs.columns.fill_row.Given as goal

abbrev pub invariant-loop-j : goal.invariant-loop-j
invariant-loop-j l = l.next ≡ partial_table 0 l.m.height l.m.height (without_column l.field.given l.m l.inverse l.p l.col) l.row l.j
