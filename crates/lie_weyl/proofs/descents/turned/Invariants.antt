use Rattle.std.proofs.Common.{◌≡◌, ℕ, suc, ◌<◌, ◌≤◌, ◌-◌, length, pos, ◌+ℤ◌, ◌-ℤ◌, ◌*ℤ◌}
use Rattle.lie_datum.specs.Vectors.{entry}
use Rattle.lie_datum.specs.RootDatum.{reflected, simple}
use Rattle.lie_datum.specs.RootList.{height}
use Rattle.lie_weyl.proofs.descents.turned.Given as goal

abbrev pub invariant-loop-k : goal.invariant-loop-k
invariant-loop-k l =
    (length l.turned ≡ 8)
    × ((j : ℕ) → j < l.k → entry l.turned j ≡ entry l.heights j +ℤ (height (reflected l.datum.base l.i (simple (suc j))) -ℤ pos 1) *ℤ entry l.heights (l.i - 1))
    × ((j : ℕ) → l.k ≤ j → entry l.turned j ≡ entry l.heights j)
