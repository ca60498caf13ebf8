use Rattle.std.proofs.Common.{ℕ, ◌<◌, ◌≤◌, ◌-◌}
use Rattle.lie_identities.specs.Audit.{IsUngraded}
use Rattle.lie_identities.proofs.grading.ungraded_row.Given as goal

abbrev pub invariant-loop-row : goal.invariant-loop-row
invariant-loop-row l = (l.from ≤ 1024) × ((a : ℕ) → a < l.from → ¬ IsUngraded l.steps.datum.now l.steps.module.now l.fn.r l.k a l.col)

abbrev pub decreases-loop-row : goal.decreases-loop-row
decreases-loop-row l = 1024 - l.from
