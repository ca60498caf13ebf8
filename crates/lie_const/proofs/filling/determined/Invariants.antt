use Rattle.std.proofs.Common.{suc, pos}
use Rattle.lie_const.specs.StructureConstants.{at_part}
use Rattle.lie_const.specs.Filling.{IsFilled}
use Rattle.lie_const.proofs.filling.determined.Given as goal

abbrev pub invariant-loop-k : goal.invariant-loop-k
invariant-loop-k l = IsFilled l.datum l.values (at_part (pos (suc l.k)) (pos 1) 0)
