use Rattle.std.proofs.Common.{◌+◌, pos, sym, ap, ◌∙◌, arith}
use Rattle.lie_identities.specs.AuditRelations.{size_element}
use Rattle.lie_identities.specs.Sizes.{steps_total}
use Rattle.lie_identities.proofs.BoundLemmas.{column-total, columns-more}
use Rattle.lie_identities.proofs.bounds.root_bound.Goals as goal

pub loop-col-preserved : goal.loop-col-preserved
loop-col-preserved c =
    let v = c.args.steps.now.module.now in
    let r = c.args.r in
    let n = c.args.size in
    let b = c.loop-col.col in
    let t = c.loop-col-test.true in
    let e = c.dim-col-end.ensures.value in
    let here = column-total v r n b (omega (arith, t, e)) ∙ ap (λ ss. pos (1 + steps_total n ss)) (sym c.column.ensures) ∙ ap pos (sym c.in_ok-sum.ensures) in
    columns-more (size_element v r n) b c.loop-col.greatest c.in_ok-sum.sum c.larger-greatest.result c.loop-col.invariant here c.larger-greatest.ensures.b c.larger-greatest.ensures.a

pub returns : goal.returns
returns c = λ j l.
    let t = c.loop-col-test.false in
    let e = c.dim-col-end.ensures.value in
    c.loop-col.invariant j (omega (arith, l, t, e))
