use Rattle.std.proofs.Common.{◌≡◌, ◌≤◌, ◌+◌, ◌*◌, unsigned_abs}
use Rattle.lie_ring.specs.Integers.{integers}
use Rattle.lie_ring.specs.Powers.{power}
use Rattle.lie_weight.proofs.ElementLemmas.{added, entry_upto}
use Rattle.lie_weight.proofs.elements.element_entry.Given as goal

abbrev pub invariant-loop-k : goal.invariant-loop-k
invariant-loop-k l = record {
  power_is : l.power ≡ power integers l.factor l.k;
  sum_is : l.sum ≡ entry_upto l.space l.root l.row l.col (added l.space l.root l.row l.col l.factor) l.k;
  power_small : unsigned_abs l.power ≤ 1;
  sum_small : unsigned_abs l.sum ≤ 1 + 100 * l.k;
}
