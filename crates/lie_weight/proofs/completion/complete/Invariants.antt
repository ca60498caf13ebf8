use Rattle.lie_const.specs.Signs.{eta_of}
use Rattle.lie_weight.specs.Completion.{Extends, IsPartly, AreAllFactors}
use Rattle.lie_weight.proofs.completion.complete.Given as goal

abbrev pub invariant-loop-height : goal.invariant-loop-height
invariant-loop-height l =
    IsPartly l.datum (eta_of l.signs) l.height 0 l.space × AreAllFactors l.datum l.space l.factors × Extends l.datum l.initial.space l.space
