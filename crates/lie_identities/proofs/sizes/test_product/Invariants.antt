use Rattle.std.proofs.Common.{◌≡◌, ◌≤◌, length, drop}
use Rattle.lie_ring.specs.Integers.{integers}
use Rattle.lie_ring.specs.Matrices.{AllFit}
use Rattle.lie_poly.specs.Polynomials.{laurent}
use Rattle.lie_identities.specs.AuditRelations.{side_size}
use Rattle.lie_identities.proofs.sizes.test_product.Given as goal

abbrev pub invariant-loop-left : goal.invariant-loop-left
invariant-loop-left l = record {
  within : l.left ≤ length l.side.factors.items;
  value : l.product ≡ side_size laurent l.steps.module.now (drop l.left l.side.factors.items);
  fit : AllFit integers l.product;
}

abbrev pub decreases-loop-left : goal.decreases-loop-left
decreases-loop-left l = l.left
