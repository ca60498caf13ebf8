use Rattle.std.proofs.Common.{◌≡◌, ℕ, ◌≤◌, ◌<◌, neg_ℤ, ◌+ℤ◌, ◌*ℤ◌, length}
use Rattle.lie_datum.specs.Vectors.{entry}
use Rattle.lie_orbit.proofs.vectors.less_multiple.Given as goal

abbrev pub invariant-loop-k : goal.invariant-loop-k
invariant-loop-k l = (length l.image ≡ 8) × ((j : ℕ) → j < l.k → entry l.image j ≡ entry l.weight j +ℤ neg_ℤ l.fn.by *ℤ entry l.root j) × ((j : ℕ) → l.k ≤ j → entry l.image j ≡ entry l.weight j)
