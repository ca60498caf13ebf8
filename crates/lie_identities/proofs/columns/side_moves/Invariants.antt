use Rattle.std.proofs.Common.{◌≡◌, ◌<◌, ℕ, get_or}
use Rattle.std.specs.Global.{Vec}
use Rattle.lie_ring.specs.Matrices.{product}
use Rattle.lie_const.specs.Modules.{dimension}
use Rattle.lie_poly.specs.Polynomials.{Polynomial, laurent}
use Rattle.lie_identities.specs.AuditRelations.{Factor, factor_matrix}
use Rattle.lie_identities.specs.Actions.{factor_of}
use Rattle.lie_identities.specs.Audit.{laurent_variables}
use Rattle.lie_identities.specs.Columns.{unit_column}
use Rattle.lie_identities.proofs.columns.side_moves.Given as goal

abbrev pub invariant-loop-action : goal.invariant-loop-action
invariant-loop-action l = (k : ℕ) (z : Factor (Vec Polynomial)) → k < l.action-index →
    product laurent (factor_matrix laurent_variables l.steps.datum.now l.steps.module.now (factor_of (get_or l.actions k z))) (unit_column laurent (dimension l.steps.module.now) l.col) ≡ unit_column laurent (dimension l.steps.module.now) l.col
