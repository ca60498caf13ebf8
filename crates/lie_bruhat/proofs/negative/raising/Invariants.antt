use Rattle.std.proofs.Common.{ℕ, ◌≤◌, ◌<◌}
use Rattle.lie_bruhat.proofs.RaisedLemmas.{Raises}
use Rattle.lie_bruhat.proofs.negative.raising.Given as goal

abbrev pub invariant-loop-i : goal.invariant-loop-i
invariant-loop-i l = (j : ℕ) → 1 ≤ j → j < l.i → ¬ Raises l.frame.datum j l.r
