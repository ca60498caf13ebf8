use Rattle.lie_orbit.proofs.FallLemmas.{norm, IsOnTheWay}
use Rattle.lie_reduce.specs.TorusReading.{IsQuotientAt}
use Rattle.lie_identities.specs.CoverParts.{LowersToZero}
use Rattle.lie_reduce.proofs.torus_part.lowered_value.Given as goal

abbrev pub invariant-loop-r : goal.invariant-loop-r
invariant-loop-r l = IsOnTheWay l.datum l.fn.x l.weight × LowersToZero l.datum l.weight × IsQuotientAt l.field l.fn.space l.fn.d l.fn.x l.weight l.value

abbrev pub decreases-loop-r : goal.decreases-loop-r
decreases-loop-r l = norm l.datum l.weight
