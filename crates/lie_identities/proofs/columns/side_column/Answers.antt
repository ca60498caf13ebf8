use Rattle.std.proofs.Common.{◌≡◌, ◌+◌, ◌-◌, ◌<◌, length, drop, map, sym, ap, subst, ◌∙◌, arith}
use Rattle.lie_ring.specs.Matrices.{product}
use Rattle.lie_poly.specs.Polynomials.{laurent}
use Rattle.lie_identities.specs.AuditRelations.{factor_matrix}
use Rattle.lie_identities.specs.Audit.{laurent_variables}
use Rattle.lie_identities.specs.Columns.{unit_column, side_column}
use Rattle.lie_identities.specs.Moves.{IsReadyFor}
use Rattle.lie_identities.specs.Actions.{factor_of}
use Rattle.lie_identities.proofs.ActionLemmas.{factor-at, powers-at, ready-at, column-next, column-none}
use Rattle.lie_identities.proofs.columns.side_column.Goals as goal

pub loop-left-init : goal.loop-left-init
loop-left-init c = record {
  count = omega arith;
  column = c.in_ok-column.ensures ∙ ap (λ n. unit_column laurent n c.args.col) c.dim.ensures.value ∙ column-none c.args.steps.now.datum.now c.args.steps.now.module.now c.args.actions.now c.args.col;
}

pub apply-requires : goal.apply-requires
apply-requires c =
    let s = c.args.steps.now in
    let d = s.datum.now in
    let v = s.module.now in
    let xs = c.args.actions.now in
    let k = c.loop-left.left - 1 in
    let x = c.index-actions-left.result in
    let t = c.loop-left-test.true in
    let n = c.loop-left.invariant.count in
    let l = let g : c.loop-left.left - 1 < length c.args.actions.now = omega (arith, t, n) in g in
    let e = let g : c.loop-left.left - 1 + 1 ≡ c.loop-left.left = omega (arith, t) in g in
    let before = c.loop-left.invariant.column ∙ ap (λ n. side_column laurent_variables d v (map factor_of (drop n xs)) c.args.col) (sym e) in
    record {
      factor = factor-at d v xs c.requires.actions k x l c.index-actions-left.is;
      powers = powers-at d v xs c.requires.actions k x l c.index-actions-left.is;
      ready = subst (IsReadyFor d v (factor_of x)) (sym before) (ready-at d v xs c.requires.actions k x l c.index-actions-left.is s.pairings s.small c.args.col c.requires.col);
    }

pub loop-left-preserved : goal.loop-left-preserved
loop-left-preserved c =
    let s = c.args.steps.now in
    let d = s.datum.now in
    let v = s.module.now in
    let xs = c.args.actions.now in
    let k = c.loop-left.left - 1 in
    let x = c.index-actions-left.result in
    let t = c.loop-left-test.true in
    let n = c.loop-left.invariant.count in
    let l = let g : c.loop-left.left - 1 < length c.args.actions.now = omega (arith, t, n) in g in
    let e = let g : c.loop-left.left - 1 + 1 ≡ c.loop-left.left = omega (arith, t) in g in
    let before = c.loop-left.invariant.column ∙ ap (λ n. side_column laurent_variables d v (map factor_of (drop n xs)) c.args.col) (sym e) in
    record {
      count = omega (arith, n);
      column = c.in_ok-apply.ensures ∙ ap (product laurent (factor_matrix laurent_variables d v (factor_of x))) before ∙ column-next d v xs k x l c.index-actions-left.is c.args.col;
    }
