use Rattle.std.proofs.Common.{ℕ, ◌+◌, ◌<◌}
use Rattle.lie_weight.specs.OrbitFaults.{IsHeavyAt}
use Rattle.lie_weight.proofs.heavy.first_heavy.Given as goal

abbrev pub invariant-loop-a : goal.invariant-loop-a
invariant-loop-a l = (b : ℕ) → b < l.a + 1 → ¬ IsHeavyAt l.weights b
