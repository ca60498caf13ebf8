use Rattle.lie_unip.specs.Placing.{ZeroFrom}
use Rattle.lie_unip.proofs.collector.Collector.end_of.Given as goal

abbrev pub invariant-loop-k : goal.invariant-loop-k
invariant-loop-k g l = ZeroFrom (g.R.Ring.ring l.self.ring.now) l.k l.entries
