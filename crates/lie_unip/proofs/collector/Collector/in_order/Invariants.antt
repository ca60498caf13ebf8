use Rattle.std.proofs.Common.{◌≡◌}
use Rattle.std.specs.List.{range_with_len}
use Rattle.lie_unip.proofs.collector.Collector.in_order.Given as goal

abbrev pub invariant-loop-k : goal.invariant-loop-k
invariant-loop-k g l = record {
  roots : l.roots.items ≡ range_with_len 1 l.k;
  places : l.places.items ≡ range_with_len 0 l.k;
}
