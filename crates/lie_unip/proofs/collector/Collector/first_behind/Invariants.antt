use Rattle.std.proofs.Common.{◌+◌, get_or}
use Rattle.lie_letters.specs.PositiveTerms.{positive_terms}
use Rattle.lie_unip.specs.Placing.{IdleBetween}
use Rattle.lie_unip.proofs.collector.Collector.first_behind.Given as goal

abbrev pub invariant-loop-k : goal.invariant-loop-k
invariant-loop-k g l = IdleBetween (g.R.Ring.ring l.self.ring.now) (positive_terms l.self.consts.now) (get_or l.self.roots.items l.at 0) l.self.roots.items (l.at + 1) l.k l.entries
