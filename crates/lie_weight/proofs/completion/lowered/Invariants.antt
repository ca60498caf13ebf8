use Rattle.std.proofs.Common.{ℕ, ◌≤◌}
use Rattle.lie_datum.specs.RootDatum.{IsSimpleIndex}
use Rattle.lie_weight.specs.Conjugation.{absolute_height, reflected_height}
use Rattle.lie_weight.proofs.completion.lowered.Given as goal

abbrev pub invariant-loop-i : goal.invariant-loop-i
invariant-loop-i l = (j : ℕ) → IsSimpleIndex l.datum.base j → j ≤ l.i → absolute_height l.datum l.r ≤ reflected_height l.datum j l.r
