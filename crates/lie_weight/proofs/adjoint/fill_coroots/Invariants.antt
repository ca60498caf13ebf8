use Rattle.std.proofs.Common.{◌+◌}
use Rattle.lie_const.specs.ConstantTables.{value_of}
use Rattle.lie_weight.specs.AdjointParts.{IsPartial}
use Rattle.lie_weight.proofs.adjoint.fill_coroots.Given as goal

abbrev pub invariant-loop-i : goal.invariant-loop-i
invariant-loop-i l = IsPartial l.datum (value_of l.consts) l.r 1 l.matrix l.col (l.m + l.i)
