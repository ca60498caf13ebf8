use Rattle.std.proofs.Common.{◌≡◌, ℕ, ◌<◌}
use Rattle.lie_ring.specs.Matrices.{entry}
use Rattle.lie_mat.proofs.mats.Mat.same.Given as goal

abbrev pub invariant-loop-row : goal.invariant-loop-row
invariant-loop-row g l = (i j : ℕ) → i < l.row → j < l.self.width → entry g.R.Ring.zero l.self i j ≡ entry g.R.Ring.zero l.b i j
