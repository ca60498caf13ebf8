use Rattle.std.proofs.Common.{◌≡◌, get_or, sym, ap, subst, ◌∙◌, arith, inl, inr}
use Rattle.std.proofs.lemmas.Bool.{cases_eq}
use Rattle.std.proofs.lemmas.List.{get_or_default}
use Rattle.lie_ring.specs.Matrices.{product}
use Rattle.lie_const.specs.Modules.{dimension}
use Rattle.lie_poly.specs.Polynomials.{laurent}
use Rattle.lie_identities.specs.AuditRelations.{CorootElement, factor_matrix}
use Rattle.lie_identities.specs.Audit.{laurent_variables}
use Rattle.lie_identities.specs.Columns.{unit_column}
use Rattle.lie_identities.specs.Actions.{factor_of}
use Rattle.lie_identities.proofs.ActionLemmas.{factor-at, unmoved-actions}
use Rattle.lie_identities.proofs.columns.side_moves.Goals as goal

pub moves-requires-clause-factor : goal.moves-requires-clause-factor
moves-requires-clause-factor c =
    factor-at c.args.steps.now.datum.now c.args.steps.now.module.now c.args.actions.now c.requires.actions c.loop-action.action-index c.action-item.result c.loop-action-test.true c.action-item.is

pub loop-action-preserved : goal.loop-action-preserved
loop-action-preserved c = λ k z l.
    let d = c.args.steps.now.datum.now in
    let v = c.args.steps.now.module.now in
    let xs = c.args.actions.now in
    let i = c.loop-action.action-index in
    let t = c.loop-action-test.true in
    let U = unit_column laurent (dimension v) c.args.col in
    elim (cases_eq k i) [
      | inl e ↦
          let is = c.action-item.is ∙ ap (λ j. get_or xs j c.action-item.result) (sym e) ∙ get_or_default xs k c.action-item.result z (omega (arith, e, t)) in
          subst (λ x. product laurent (factor_matrix laurent_variables d v (factor_of x)) U ≡ U) is (c.moves.ensures c.if-moves.false)
      | inr g ↦ c.loop-action.invariant k z (omega (arith, l, g))
    ]

pub returns : goal.returns
returns c = λ _.
    let f = c.loop-action-test.false in
    unmoved-actions c.args.steps.now.datum.now c.args.steps.now.module.now c.args.col c.args.actions.now (CorootElement 0)
    (λ k l. c.loop-action.invariant k (CorootElement 0) (omega (arith, l, f)))
