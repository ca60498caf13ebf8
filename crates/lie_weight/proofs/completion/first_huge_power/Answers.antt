use Rattle.std.proofs.Common.{◌≡◌, suc, ◌+◌, ap, subst, ◌∙◌, Err, arith}
use Rattle.lie_const.specs.Modules.{divided_power}
use Rattle.lie_mat.specs.Wide.{IsHugeMatrix}
use Rattle.lie_weight.specs.Factors.{work_on}
use Rattle.lie_weight.proofs.WorkLemmas.{below_more, small_all, first_power}
use Rattle.lie_weight.proofs.completion.first_huge_power.Goals as goal

pub loop-k-preserved : goal.loop-k-preserved
loop-k-preserved c =
    let w = c.args.factors.now in
    let v = c.args.space.now in
    let s = c.args.s in
    let next : c.loop-k.k + 1 ≡ suc c.loop-k.k = omega arith in
    below_more (λ j. ¬ IsHugeMatrix (work_on w.absolute (divided_power v s (suc j)))) c.loop-k.k c.loop-k.invariant
    (subst (λ t. ¬ IsHugeMatrix (work_on w.absolute t)) (c.power.ensures.value ∙ ap (divided_power v s) next) c.in-Ok.ensures.small)

pub returns-in-Err-Wide : goal.returns-in-Err-Wide
returns-in-Err-Wide c =
    let w = c.args.factors.now in
    let v = c.args.space.now in
    let s = c.args.s in
    first_power w v s c.loop-k.k c.loop-k.invariant
    (subst (λ t. IsHugeMatrix (work_on w.absolute t)) c.power.ensures.value (c.in-Err-Wide.ensures.wide (ap Err c.in-Err-Wide.field-0-is)))

pub returns : goal.returns
returns c =
    let t = c.loop-k-test.false in
    let a = c.loop-k.auto in
    let e = c.top-k-end.ensures.value in
    small_all c.args.factors.now c.args.space.now c.args.s c.requires.factors c.loop-k.k (omega (arith, t, e)) c.loop-k.invariant
