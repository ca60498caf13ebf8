use Rattle.std.proofs.Common.{ℤ, ◌<◌, ◌≤◌, ◌^◌, length}
use Rattle.lie_datum.specs.Numbers.{place}
use Rattle.lie_datum.specs.RootList.{IsNumber}
use Rattle.lie_weight.specs.Conjugation.{absolute_height}
use Rattle.lie_weight.proofs.completion.highest.Given as goal

abbrev pub invariant-loop-place : goal.invariant-loop-place
invariant-loop-place l = ((r : ℤ) → IsNumber l.datum r → place (length l.datum.positive) r < l.place → absolute_height l.datum r ≤ l.highest) × (l.highest ≤ 2 ^ 31)
