use Rattle.std.proofs.Common.{◌≡◌, sym, subst, ◌∙◌}
use Rattle.lie_ring.specs.Matrices.{product}
use Rattle.lie_const.specs.Modules.{dimension}
use Rattle.lie_poly.specs.Polynomials.{laurent}
use Rattle.lie_identities.specs.AuditRelations.{factor_matrix}
use Rattle.lie_identities.specs.Audit.{laurent_variables}
use Rattle.lie_identities.specs.Columns.{unit_column}
use Rattle.lie_identities.specs.Actions.{factor_of}
use Rattle.lie_identities.specs.Moves.{base_of}
use Rattle.lie_identities.proofs.ColumnLemmas.{unmoved}
use Rattle.lie_identities.proofs.ActionLemmas.{empty-steps}
use Rattle.lie_identities.proofs.columns.moves.Goals as goal

pub returns-in-RootElement : goal.returns-in-RootElement
returns-in-RootElement c = λ still.
    let v = c.args.steps.now.module.now in
    let U = unit_column laurent (dimension v) c.args.col in
    let none = empty-steps c.column.result.now c.is_empty.result c.is_empty.ensures still in
    subst (λ x. product laurent (factor_matrix laurent_variables c.args.steps.now.datum.now v (factor_of x)) U ≡ U) (sym c.in-RootElement.is)
    (unmoved v c.in-RootElement.r (base_of c.in-RootElement.field-1.items) c.args.col c.requires.col (sym c.column.ensures ∙ none))
