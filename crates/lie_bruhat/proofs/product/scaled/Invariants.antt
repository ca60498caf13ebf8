use Rattle.std.proofs.Common.{take}
use Rattle.lie_bruhat.proofs.ListLemmas.{AreScaled}
use Rattle.lie_bruhat.proofs.product.scaled.Given as goal

abbrev pub invariant-loop-k : goal.invariant-loop-k
invariant-loop-k l = AreScaled l.frame l.back (take l.k l.v) l.scaled.items
