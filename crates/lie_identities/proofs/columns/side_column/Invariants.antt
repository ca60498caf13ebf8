use Rattle.std.proofs.Common.{◌≡◌, ◌≤◌, drop, map, length}
use Rattle.lie_identities.specs.Actions.{factor_of}
use Rattle.lie_identities.specs.Audit.{laurent_variables}
use Rattle.lie_identities.specs.Columns.{side_column}
use Rattle.lie_identities.proofs.columns.side_column.Given as goal

abbrev pub invariant-loop-left : goal.invariant-loop-left
invariant-loop-left l = record {
  count : l.left ≤ length l.actions;
  column : l.column ≡ side_column laurent_variables l.steps.datum.now l.steps.module.now (map factor_of (drop l.left l.actions)) l.col;
}

abbrev pub decreases-loop-left : goal.decreases-loop-left
decreases-loop-left l = l.left
