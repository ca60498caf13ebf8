use Rattle.std.proofs.Common.{◌≡◌, ℕ, ◌<◌}
use Rattle.lie_datum.specs.Vectors.{entry, unit}
use Rattle.lie_identities.specs.CoverLines.{combination_entry}
use Rattle.lie_identities.proofs.cover_lines.first_different.Given as goal

abbrev pub invariant-loop-k : goal.invariant-loop-k
invariant-loop-k l = (k : ℕ) → k < l.k → combination_entry l.space l.c k ≡ entry (unit 8 l.axis) k
