use Rattle.std.proofs.Common.{◌≡◌, ℕ, [], length, get_or, map}
use Rattle.lie_mat.proofs.mats.Mat.empty.Given as goal

abbrev pub invariant-loop : goal.invariant-loop
invariant-loop g l = record {
  length : length l.columns.items ≡ l.counter;
  empty : (j : ℕ) → get_or (map (λ c. c.entries) l.columns.items) j [] ≡ [];
}
