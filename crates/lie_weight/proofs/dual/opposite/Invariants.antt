use Rattle.std.proofs.Common.{◌≡◌, ℕ, ◌≤◌, ◌<◌, neg_ℤ, length}
use Rattle.lie_datum.specs.Vectors.{entry}
use Rattle.lie_weight.proofs.dual.opposite.Given as goal

abbrev pub invariant-loop-k : goal.invariant-loop-k
invariant-loop-k l = (length l.opposite ≡ 8) × ((j : ℕ) → j < l.k → entry l.opposite j ≡ neg_ℤ (entry l.weight j)) × ((j : ℕ) → l.k ≤ j → entry l.opposite j ≡ entry l.weight j)
