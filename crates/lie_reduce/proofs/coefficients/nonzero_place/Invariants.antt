use Rattle.std.proofs.Common.{◌≡◌, ℕ, ◌<◌, ◌/◌, ◌%◌}
use Rattle.lie_ring.specs.Matrices.{entry}
use Rattle.lie_reduce.proofs.coefficients.nonzero_place.Given as goal

abbrev pub invariant-loop-place : goal.invariant-loop-place
invariant-loop-place l = (x : ℕ) → x < l.place → entry 0 l.m (x / l.n) (x % l.n) ≡ 0
