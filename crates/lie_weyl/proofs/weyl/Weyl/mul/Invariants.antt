use Rattle.std.proofs.Common.{◌≡◌, ℕ, List}
use Rattle.lie_weyl.specs.WeylElement.{moved, Spells}
use Rattle.lie_weyl.proofs.ImageLemmas.{IsFilled}
use Rattle.lie_weyl.proofs.weyl.Weyl.mul.Given as goal

abbrev pub invariant-loop-k : goal.invariant-loop-k
invariant-loop-k l = IsFilled l.datum (λ r s. (w : List ℕ) → Spells l.datum w l.self → s ≡ moved l.datum.base w r) l.initial.images l.images l.k
