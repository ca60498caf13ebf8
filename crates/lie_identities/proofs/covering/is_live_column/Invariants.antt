use Rattle.std.proofs.Common.{◌-◌}
use Rattle.lie_identities.proofs.CoverLemmas.{IsDeadBefore}
use Rattle.lie_identities.proofs.covering.is_live_column.Given as goal

abbrev pub invariant-loop-row : goal.invariant-loop-row
invariant-loop-row l = IsDeadBefore l.field l.matrix l.col l.from

abbrev pub decreases-loop-row : goal.decreases-loop-row
decreases-loop-row l = l.matrix.height - l.from
