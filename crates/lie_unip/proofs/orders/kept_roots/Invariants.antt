use Rattle.std.proofs.Common.{◌≡◌, ℕ, List, take}
use Rattle.lie_weyl.specs.WeylElement.{Spells}
use Rattle.lie_unip.specs.Splitting.{kept_by}
use Rattle.lie_unip.proofs.orders.kept_roots.Given as goal

abbrev pub invariant-loop-k : goal.invariant-loop-k
invariant-loop-k l = (word : List ℕ) → Spells l.datum word l.w → l.kept.items ≡ take l.k (kept_by l.datum word)
