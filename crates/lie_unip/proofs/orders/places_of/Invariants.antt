use Rattle.std.proofs.Common.{◌≡◌, ℕ, ◌<◌, ◌-◌, length, get_or}
use Rattle.lie_unip.proofs.orders.places_of.Given as goal

abbrev pub invariant-loop-p : goal.invariant-loop-p
invariant-loop-p l = record {
  count : length l.places.items ≡ l.m;
  placed : (q : ℕ) → q < l.p → get_or l.places.items (get_or l.roots q 0 - 1) 0 ≡ q;
}
