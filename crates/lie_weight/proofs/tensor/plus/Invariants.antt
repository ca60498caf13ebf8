use Rattle.std.proofs.Common.{◌≡◌, ℕ, ◌≤◌, ◌<◌, ◌+ℤ◌, length}
use Rattle.lie_datum.specs.Vectors.{entry}
use Rattle.lie_weight.proofs.tensor.plus.Given as goal

abbrev pub invariant-loop-k : goal.invariant-loop-k
invariant-loop-k l = (length l.sum ≡ 8) × ((j : ℕ) → j < l.k → entry l.sum j ≡ entry l.x j +ℤ entry l.y j) × ((j : ℕ) → l.k ≤ j → entry l.sum j ≡ entry l.x j)
