use Rattle.std.proofs.Common.{◌≡◌, ℕ, ◌<◌, ◌≤◌, ◌+◌}
use Rattle.lie_ring.specs.Matrices.{entry}
use Rattle.lie_reduce.proofs.columns.last_nonzero.Given as goal

abbrev pub invariant-loop-done : goal.invariant-loop-done
invariant-loop-done l = (i : ℕ) → i < l.n → l.n ≤ i + l.done → entry 0 l.m i l.col ≡ 0
