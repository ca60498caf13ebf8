use Rattle.lie_datum.specs.Load.{NoneBefore}
use Rattle.lie_datum.specs.Grids.{IsSamePair}
use Rattle.lie_datum.proofs.tables.repeated.Given as goal

abbrev pub invariant-loop-x : goal.invariant-loop-x
invariant-loop-x l = NoneBefore (IsSamePair l.vectors) l.x 0

abbrev pub invariant-loop-y : goal.invariant-loop-y
invariant-loop-y l = NoneBefore (IsSamePair l.vectors) l.x l.y
