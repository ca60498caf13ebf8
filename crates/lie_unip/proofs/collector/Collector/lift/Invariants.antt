use Rattle.std.proofs.Common.{◌≤◌, length, get_or}
use Rattle.lie_letters.specs.PositiveTerms.{positive_terms}
use Rattle.lie_unip.specs.Splitting.{kept_at}
use Rattle.lie_unip.specs.Placing.{AreLifted}
use Rattle.lie_unip.proofs.collector.Collector.lift.Given as goal

abbrev pub invariant-loop-place : goal.invariant-loop-place
invariant-loop-place g l = record {
  from : l.first ≤ l.place;
  within : l.place ≤ length l.self.roots.items;
  lifted : AreLifted (g.R.Ring.ring l.self.ring.now) (positive_terms l.self.consts.now) l.self.consts.now.positive (kept_at l.self.kept.items) l.self.roots.items
      (get_or l.self.roots.items l.at 0) l.a l.place l.initial.entries.items l.entries.items l.initial.todo.items l.todo.items;
}
