use Rattle.std.proofs.Common.{◌≤◌, length, drop}
use Rattle.lie_poly.specs.Polynomials.{laurent}
use Rattle.lie_identities.specs.AuditRelations.{side_size}
use Rattle.lie_identities.specs.Sizes.{HasColumnsWithin}
use Rattle.lie_identities.proofs.bounds.side_bound.Given as goal

abbrev pub invariant-loop-left : goal.invariant-loop-left
invariant-loop-left l = record {
  within : l.left ≤ length l.side.factors.items;
  columns : HasColumnsWithin (side_size laurent l.steps.module.now (drop l.left l.side.factors.items)) l.bound;
}

abbrev pub decreases-loop-left : goal.decreases-loop-left
decreases-loop-left l = l.left
