use Rattle.std.proofs.Common.{◌≡◌, ℕ, ◌<◌, ◌≤◌, length, get_or, pos, []}
use Rattle.lie_weyl.proofs.ImageLemmas.{IsImage}
use Rattle.lie_weyl.proofs.weyl.Weyl.identity.Given as goal

abbrev pub invariant-loop-k : goal.invariant-loop-k
invariant-loop-k l =
    (length l.images ≡ 8) × ((j : ℕ) → j < l.k → IsImage l.datum [] (get_or l.images j (pos 1)) j) × ((j : ℕ) → l.k ≤ j → get_or l.images j (pos 1) ≡ get_or l.initial.images j (pos 1))
