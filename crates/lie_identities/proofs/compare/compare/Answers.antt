use Rattle.std.proofs.Common.{◌≡◌, map, sym, ap, subst, ◌∙◌, arith, below_more}
use Rattle.std.proofs.lemmas.Result.{err_from_is_err_and}
use Rattle.lie_identities.specs.Actions.{factor_of}
use Rattle.lie_identities.specs.Audit.{laurent_variables}
use Rattle.lie_identities.specs.Columns.{side_column}
use Rattle.lie_identities.specs.Comparison.{IsColumnDifference}
use Rattle.lie_identities.proofs.DifferenceLemmas.{same-by_columns}
use Rattle.lie_identities.proofs.ComparisonLemmas.{fault-of_column}
use Rattle.lie_identities.proofs.compare.compare.Goals as goal

pub loop-col-preserved : goal.loop-col-preserved
loop-col-preserved c =
    let d = c.args.steps.now.datum.now in
    let v = c.args.steps.now.module.now in
    let left = ap (map factor_of) c.deref.ensures.value ∙ c.in_ok-left.ensures.same in
    let right = ap (map factor_of) c.deref-in-loop-col.ensures.value ∙ c.in_ok-right.ensures.same in
    below_more (λ b. side_column laurent_variables d v c.args.left.now b ≡ side_column laurent_variables d v c.args.right.now b) c.loop-col.col c.loop-col.invariant
    (ap (λ xs. side_column laurent_variables d v xs c.loop-col.col) (sym left) ∙ c.in_ok-compare_on.ensures ∙ ap (λ xs. side_column laurent_variables d v xs c.loop-col.col) right)

pub returns : goal.returns
returns c =
    let f = c.loop-col-test.false in
    let e = c.dim-col-end.ensures.value in
    same-by_columns c.args.steps.now.datum.now c.args.steps.now.module.now c.args.left.now c.args.right.now (λ b l. c.loop-col.invariant b (omega (arith, l, f, e)))

pub returns-in_err-compare_on : goal.returns-in_err-compare_on
returns-in_err-compare_on c =
    let d = c.args.steps.now.datum.now in
    let v = c.args.steps.now.module.now in
    let q = c.args.rel.now in
    let k = c.loop-col.col in
    let ls = c.args.left.now in
    let rs = c.args.right.now in
    let fault = c.in_err-compare_on.field-0.0 in
    let t = c.loop-col-test.true in
    let e = c.dim-col-end.ensures.value in
    let left = ap (map factor_of) c.deref.ensures.value ∙ c.in_ok-left.ensures.same in
    let right = ap (map factor_of) c.deref-in-loop-col.ensures.value ∙ c.in_ok-right.ensures.same in
    let here = subst (λ xs. IsColumnDifference q (side_column laurent_variables d v ls k) (side_column laurent_variables d v xs k) k fault) right
    (subst (λ xs. IsColumnDifference q (side_column laurent_variables d v xs k) (side_column laurent_variables d v (map factor_of c.deref-in-loop-col.result.now) k) k fault) left c.in_err-compare_on.ensures) in
    let p = err_from_is_err_and c.from_residual-in_err-compare_on.result c.from_residual-in_err-compare_on.ensures.1 in
    rw (p.1, p.2) (fault-of_column d v q ls rs k fault (omega (arith, t, e)) c.loop-col.invariant here)
