use Rattle.std.proofs.Common.{◌≡◌, ◌<◌, ◌≤◌, ◌-◌, ℕ}
use Rattle.lie_ring.specs.Matrices.{entry}
use Rattle.lie_poly.specs.Polynomials.{laurent}
use Rattle.lie_identities.proofs.compare.first_different_row.Given as goal

abbrev pub invariant-loop-row : goal.invariant-loop-row
invariant-loop-row l = record {
  low : l.from ≤ l.left.height;
  same : (b : ℕ) → b < l.from → entry laurent.zero l.left b 0 ≡ entry laurent.zero l.right b 0;
}

abbrev pub decreases-loop-row : goal.decreases-loop-row
decreases-loop-row l = l.left.height - l.from
