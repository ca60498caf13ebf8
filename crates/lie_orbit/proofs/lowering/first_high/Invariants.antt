use Rattle.std.proofs.Common.{ℤ, ◌<◌, length}
use Rattle.lie_datum.specs.Numbers.{place}
use Rattle.lie_datum.specs.RootList.{IsNumber}
use Rattle.lie_orbit.specs.Lowering.{IsHighRoot}
use Rattle.lie_orbit.proofs.lowering.first_high.Given as goal

abbrev pub invariant-loop-place : goal.invariant-loop-place
invariant-loop-place l = (r : ℤ) → IsNumber l.datum r → place (length l.datum.positive) r < l.place → ¬ IsHighRoot l.datum l.weight r
