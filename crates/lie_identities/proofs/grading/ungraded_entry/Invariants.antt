use Rattle.std.proofs.Common.{ℕ, ◌<◌}
use Rattle.lie_identities.specs.Audit.{IsUngraded}
use Rattle.lie_identities.proofs.grading.ungraded_entry.Given as goal

abbrev pub invariant-loop-col : goal.invariant-loop-col
invariant-loop-col l = (a b : ℕ) → b < l.col → ¬ IsUngraded l.steps.datum.now l.steps.module.now l.fn.r l.k a b
