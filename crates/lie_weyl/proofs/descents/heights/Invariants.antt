use Rattle.std.proofs.Common.{◌≡◌, ℕ, ◌<◌, ◌≤◌, length, get_or, pos}
use Rattle.lie_datum.specs.Vectors.{entry}
use Rattle.lie_datum.specs.RootList.{root_of, height}
use Rattle.lie_weyl.proofs.descents.heights.Given as goal

abbrev pub invariant-loop-k : goal.invariant-loop-k
invariant-loop-k l =
    (length l.heights ≡ 8) × ((j : ℕ) → j < l.k → entry l.heights j ≡ height (root_of l.datum (get_or l.images j (pos 0)))) × ((j : ℕ) → l.k ≤ j → entry l.heights j ≡ pos 0)
