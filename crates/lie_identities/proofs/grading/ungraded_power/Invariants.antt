use Rattle.std.proofs.Common.{ℕ, ◌≤◌}
use Rattle.lie_identities.specs.Audit.{IsUngraded}
use Rattle.lie_identities.proofs.grading.ungraded_power.Given as goal

abbrev pub invariant-loop-k : goal.invariant-loop-k
invariant-loop-k l = (n a b : ℕ) → n ≤ l.k → ¬ IsUngraded l.steps.datum.now l.steps.module.now l.fn.r n a b
