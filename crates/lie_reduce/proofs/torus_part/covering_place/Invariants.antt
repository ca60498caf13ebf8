use Rattle.std.proofs.Common.{ℕ, ◌<◌, [], get_or}
use Rattle.lie_identities.specs.Covers.{less_axis}
use Rattle.lie_identities.specs.CoverParts.{LowersToZero}
use Rattle.lie_reduce.proofs.torus_part.covering_place.Given as goal

abbrev pub invariant-loop-a : goal.invariant-loop-a
invariant-loop-a l = (a : ℕ) → a < l.a → ¬ LowersToZero l.datum (less_axis l.times (get_or l.space.weights a []) l.axis)
