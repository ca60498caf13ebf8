use Rattle.std.proofs.Common.{◌≡◌, ◌<◌, ℕ}
use Rattle.lie_identities.specs.Audit.{laurent_variables}
use Rattle.lie_identities.specs.Columns.{side_column}
use Rattle.lie_identities.proofs.compare.compare.Given as goal

abbrev pub invariant-loop-col : goal.invariant-loop-col
invariant-loop-col l = (b : ℕ) → b < l.col →
    side_column laurent_variables l.steps.datum.now l.steps.module.now l.fn.left b ≡ side_column laurent_variables l.steps.datum.now l.steps.module.now l.fn.right b
