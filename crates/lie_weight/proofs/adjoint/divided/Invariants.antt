use Rattle.lie_const.specs.ConstantTables.{value_of}
use Rattle.lie_weight.specs.AdjointParts.{IsPartial}
use Rattle.lie_weight.proofs.adjoint.divided.Given as goal

abbrev pub invariant-loop-col : goal.invariant-loop-col
invariant-loop-col l = IsPartial l.datum (value_of l.consts) l.r l.k l.matrix l.col 0
