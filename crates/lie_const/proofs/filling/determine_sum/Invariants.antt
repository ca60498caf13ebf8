use Rattle.std.proofs.Common.{suc, pos}
use Rattle.lie_const.specs.StructureConstants.{at_part}
use Rattle.lie_const.specs.Filling.{IsFilled}
use Rattle.lie_const.proofs.filling.determine_sum.Given as goal

abbrev pub invariant-loop-at : goal.invariant-loop-at
invariant-loop-at l = IsFilled l.datum l.values (at_part l.k (pos (suc l.at)) 0)
