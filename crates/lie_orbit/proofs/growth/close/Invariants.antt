use Rattle.std.proofs.Common.{ℕ, ◌≤◌, ◌<◌, ◌-◌, length}
use Rattle.lie_orbit.specs.Growth.{IsGrowing, HasImages, StartsWith}
use Rattle.lie_orbit.proofs.growth.close.Given as goal

abbrev pub invariant-loop-at : goal.invariant-loop-at
invariant-loop-at l =
    IsGrowing l.datum l.orbit.keys × StartsWith l.orbit.keys l.initial.orbit.keys × (l.at ≤ length l.orbit.keys)
    × (length l.orbit.keys < 1025 → (k : ℕ) → k < l.at → HasImages l.datum l.orbit.keys k)

abbrev pub decreases-loop-at : goal.decreases-loop-at
decreases-loop-at l = 1025 - l.at
