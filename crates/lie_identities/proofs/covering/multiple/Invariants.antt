use Rattle.std.proofs.Common.{◌≡◌, ℕ, ◌≤◌, ◌<◌, pos, ◌*ℤ◌, length}
use Rattle.lie_datum.specs.Vectors.{entry}
use Rattle.lie_identities.proofs.covering.multiple.Given as goal

abbrev pub invariant-loop-k : goal.invariant-loop-k
invariant-loop-k l =
    (length l.multiple ≡ 8)
    × ((j : ℕ) → j < l.k → entry l.multiple j ≡ pos l.by *ℤ entry l.weight j)
    × ((j : ℕ) → l.k ≤ j → entry l.multiple j ≡ entry l.weight j)
