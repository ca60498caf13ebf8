use Rattle.std.proofs.Common.{ℕ, ◌+◌, ◌<◌, ◌≤◌}
use Rattle.lie_identities.specs.Covers.{IsAxisCovered}
use Rattle.lie_identities.proofs.covering.first_uncovered.Given as goal

abbrev pub invariant-loop-axis : goal.invariant-loop-axis
invariant-loop-axis l = (j : ℕ) → 1 ≤ j → j < l.axis + 1 → IsAxisCovered l.datum l.space l.lines j
