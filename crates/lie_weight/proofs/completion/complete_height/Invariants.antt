use Rattle.lie_const.specs.Signs.{eta_of}
use Rattle.lie_weight.specs.Completion.{Extends, IsPartly, AreAllFactors}
use Rattle.lie_weight.proofs.completion.complete_height.Given as goal

abbrev pub invariant-loop-place : goal.invariant-loop-place
invariant-loop-place l =
    IsPartly l.datum (eta_of l.signs) l.height l.place l.space × AreAllFactors l.datum l.space l.factors × Extends l.datum l.initial.space l.space
