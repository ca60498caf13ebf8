use Rattle.std.proofs.Common.{◌≡◌}
use Rattle.lie_datum.specs.RootDatum.{reflected}
use Rattle.lie_weyl.proofs.ImageLemmas.{IsFilled}
use Rattle.lie_weyl.proofs.weyl.Weyl.simple_times.Given as goal

abbrev pub invariant-loop-k : goal.invariant-loop-k
invariant-loop-k l = IsFilled l.datum (λ r s. s ≡ reflected l.datum.base l.i r) l.initial.images l.images l.k
