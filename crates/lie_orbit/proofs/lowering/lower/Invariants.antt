use Rattle.lie_orbit.proofs.FallLemmas.{norm, IsOnTheWay}
use Rattle.lie_orbit.proofs.lowering.lower.Given as goal

abbrev pub invariant-loop-r : goal.invariant-loop-r
invariant-loop-r l = IsOnTheWay l.datum l.fn.v l.weight

abbrev pub decreases-loop-r : goal.decreases-loop-r
decreases-loop-r l = norm l.datum l.weight
