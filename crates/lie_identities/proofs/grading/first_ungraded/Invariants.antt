use Rattle.std.proofs.Common.{ℕ, ◌<◌, ℤ, length}
use Rattle.lie_datum.specs.Numbers.{place}
use Rattle.lie_identities.specs.Audit.{IsUngraded}
use Rattle.lie_identities.proofs.grading.first_ungraded.Given as goal

abbrev pub invariant-loop-place : goal.invariant-loop-place
invariant-loop-place l = (q : ℤ) (n a b : ℕ) → place (length l.steps.datum.now.positive) q < l.place → ¬ IsUngraded l.steps.datum.now l.steps.module.now q n a b
