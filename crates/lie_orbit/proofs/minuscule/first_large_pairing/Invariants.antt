use Rattle.std.proofs.Common.{ℤ, ◌<◌, length}
use Rattle.lie_datum.specs.Numbers.{place}
use Rattle.lie_datum.specs.RootList.{IsNumber}
use Rattle.lie_orbit.specs.Weights.{HasLargePairing}
use Rattle.lie_orbit.proofs.minuscule.first_large_pairing.Given as goal

abbrev pub invariant-loop-place : goal.invariant-loop-place
invariant-loop-place l = (r : ℤ) → IsNumber l.datum r → place (length l.datum.positive) r < l.place → ¬ HasLargePairing l.datum l.weight r
