use Rattle.std.proofs.Common.{◌++◌, reverse, length}
use Rattle.lie_letters.specs.RingLetters.{IsRingWord}
use Rattle.lie_letters.specs.PositiveTerms.{positive_terms}
use Rattle.lie_unip.specs.Splitting.{kept_at, kept_first}
use Rattle.lie_unip.specs.Placing.{Leads, letters_at, weight, IsSortedWord}
use Rattle.lie_unip.proofs.collector.Collector.collect.Given as goal

abbrev pub invariant-loop-root : goal.invariant-loop-root
invariant-loop-root g l =
    let R = g.R.Ring.ring l.self.ring.now in
    let m = l.self.consts.now.positive in
    let ks = l.self.roots.items in
    record {
      word : IsSortedWord R (length ks) l.end l.entries.items;
      lawful : IsRingWord R m (reverse l.todo.items);
      leads : Leads R (positive_terms l.self.consts.now) (kept_first (kept_at l.self.kept.items)) m
          (letters_at ks l.initial.entries.items ++ reverse l.initial.todo.items) (letters_at ks l.entries.items ++ reverse l.todo.items);
    }

abbrev pub decreases-loop-root : goal.decreases-loop-root
decreases-loop-root g l = weight (length l.self.roots.items) l.self.consts.now.positive (kept_at l.self.kept.items) (reverse l.todo.items)
