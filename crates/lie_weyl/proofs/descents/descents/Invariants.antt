use Rattle.std.proofs.Common.{◌≡◌, ℕ, List, length, ◌++◌}
use Rattle.lie_weyl.specs.WeylElement.{AreLetters}
use Rattle.lie_weyl.specs.Descents.{EndsAtRank, AreHeights}
use Rattle.lie_weyl.proofs.DescentLemmas.{AreDescents}
use Rattle.lie_weyl.proofs.descents.descents.Given as goal

abbrev pub invariant-loop : goal.invariant-loop
invariant-loop l =
    (length l.word.items ≡ l.counter)
    × AreLetters l.datum.base l.word.items
    × EndsAtRank l.datum l.left
    × ((w : List ℕ) → AreLetters l.datum.base w → AreHeights l.datum w l.heights → AreDescents l.datum w l.word.items × AreHeights l.datum (w ++ l.word.items) l.left)
