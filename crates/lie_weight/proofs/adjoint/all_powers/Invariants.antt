use Rattle.std.proofs.Common.{map}
use Rattle.lie_const.specs.ConstantTables.{value_of}
use Rattle.lie_weight.specs.AdjointParts.{AreAllDivided}
use Rattle.lie_weight.proofs.adjoint.all_powers.Given as goal

abbrev pub invariant-loop-place : goal.invariant-loop-place
invariant-loop-place l = AreAllDivided l.datum (value_of l.consts) l.place (map (λ w. w.items) l.powers.items)
