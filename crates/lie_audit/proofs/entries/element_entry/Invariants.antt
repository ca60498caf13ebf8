use Rattle.std.proofs.Common.{◌≡◌, suc, ◌+◌, ◌*◌, ◌≤◌, pos, ◌+ℤ◌, unsigned_abs, cond, eqb}
use Rattle.lie_ring.specs.Rings.{sum_below}
use Rattle.lie_ring.specs.Integers.{integers}
use Rattle.lie_ring.specs.Powers.{power}
use Rattle.lie_audit.specs.SignParts.{unit}
use Rattle.lie_audit.proofs.EntrySums.{added}
use Rattle.lie_audit.proofs.entries.element_entry.Given as goal

abbrev pub invariant-loop-k : goal.invariant-loop-k
invariant-loop-k l = record {
  sum_is : l.sum ≡ cond (eqb l.row l.col) (pos 1) (pos 0) +ℤ sum_below integers l.k (added l.adjoint l.r (unit l.minus) l.row l.col);
  small : unsigned_abs l.sum ≤ 1 + 200 * l.k;
  power_is : unit l.negative ≡ power integers (unit l.minus) (suc l.k);
}
