use Rattle.std.proofs.Common.{◌≡◌, ℕ, ◌<◌, length, get_or}
use Rattle.lie_reduce.proofs.level_factors.ranks.Given as goal

abbrev pub invariant-loop-a : goal.invariant-loop-a
invariant-loop-a l = (length l.ranks.items ≡ l.a) × ((b : ℕ) → b < l.a → (get_or l.ranks.items b 0 < length l.places) × (get_or l.places (get_or l.ranks.items b 0) 0 ≡ b))
