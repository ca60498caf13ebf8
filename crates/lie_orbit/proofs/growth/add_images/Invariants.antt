use Rattle.std.proofs.Common.{ℕ, ◌≤◌, ◌<◌, length}
use Rattle.lie_orbit.specs.Growth.{IsGrowing, HasImage, StartsWith}
use Rattle.lie_orbit.proofs.growth.add_images.Given as goal

abbrev pub invariant-loop-i : goal.invariant-loop-i
invariant-loop-i l =
    IsGrowing l.datum l.orbit.keys × StartsWith l.orbit.keys l.initial.orbit.keys × (l.at < length l.initial.orbit.keys)
    × (length l.orbit.keys < 1025 → (j : ℕ) → 1 ≤ j → j ≤ l.i → HasImage l.datum l.orbit.keys l.at j)
