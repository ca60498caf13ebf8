use Rattle.std.proofs.Common.{◌≡◌, ◌≤◌, ◌+◌, ◌*◌, pos, unsigned_abs}
use Rattle.lie_weight.proofs.ElementLemmas.{size_at, entry_upto}
use Rattle.lie_weight.proofs.elements.size_entry.Given as goal

abbrev pub invariant-loop-k : goal.invariant-loop-k
invariant-loop-k l = record {
  sum_is : l.sum ≡ entry_upto l.space l.root l.row l.col (λ k. pos (size_at l.space l.root l.row l.col k)) l.k;
  small : unsigned_abs l.sum ≤ 1 + 100 * l.k;
}
