use Rattle.lie_weyl.proofs.ImageLemmas.{AreCoeffs}
use Rattle.lie_weyl.proofs.weyl.Weyl.vectors.Given as goal

abbrev pub invariant-loop-k : goal.invariant-loop-k
invariant-loop-k l = AreCoeffs l.datum l.images l.vectors l.k
