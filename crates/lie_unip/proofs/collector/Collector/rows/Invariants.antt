use Rattle.std.proofs.Common.{◌≡◌, length}
use Rattle.lie_letters.specs.PositiveTerms.{positive_terms}
use Rattle.lie_unip.specs.Placing.{AreRows}
use Rattle.lie_unip.proofs.collector.Collector.rows.Given as goal

abbrev pub invariant-loop-at : goal.invariant-loop-at
invariant-loop-at g l = record {
  count : length l.rows.items ≡ l.at;
  rows : AreRows (positive_terms l.self.consts.now) l.self.roots.items l.rows.items;
}
