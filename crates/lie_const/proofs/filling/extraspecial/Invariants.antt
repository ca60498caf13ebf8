use Rattle.std.proofs.Common.{ℤ, pos, ◌<ℤ◌}
use Rattle.lie_const.specs.StructureConstants.{IsSpecial}
use Rattle.lie_const.proofs.filling.extraspecial.Given as goal

abbrev pub invariant-loop-at : goal.invariant-loop-at
invariant-loop-at l = (r s : ℤ) → IsSpecial l.datum r s l.k → pos l.at <ℤ r
