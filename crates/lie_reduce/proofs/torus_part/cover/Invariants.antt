use Rattle.std.proofs.Common.{ℕ, ◌<◌}
use Rattle.lie_identities.specs.CoverParts.{IsCoveredTimes}
use Rattle.lie_reduce.proofs.torus_part.cover.Given as goal

abbrev pub invariant-loop-times : goal.invariant-loop-times
invariant-loop-times l = (c : ℕ) → c < l.times → ¬ IsCoveredTimes l.datum l.space c l.axis
