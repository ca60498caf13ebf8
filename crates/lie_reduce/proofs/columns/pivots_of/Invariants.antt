use Rattle.lie_reduce.specs.Pivots.{AreReduced}
use Rattle.lie_reduce.proofs.columns.pivots_of.Given as goal

abbrev pub invariant-loop-col : goal.invariant-loop-col
invariant-loop-col l = AreReduced l.field l.m.height l.col l.m l.rest l.places.items
