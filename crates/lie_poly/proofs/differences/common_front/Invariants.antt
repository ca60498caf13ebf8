use Rattle.std.proofs.Common.{length, ◌-◌, ◌≡◌, ◌≤◌, take}
use Rattle.lie_poly.proofs.differences.common_front.Given as goal

abbrev pub invariant-front : goal.invariant-front
invariant-front l = (l.front ≤ length l.xs) × (l.front ≤ length l.ys) × (take l.front l.xs ≡ take l.front l.ys)

abbrev pub decreases-front : goal.decreases-front
decreases-front l = length l.xs - l.front
