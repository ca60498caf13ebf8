use Rattle.std.proofs.Common.{◌+◌, length, get_or, subst, sym, ap, ◌∙◌, arith, List, length-append, ◌∷◌, []}
use Rattle.lie_weight.specs.declared.factors.Factors.{Factors}
use Rattle.lie_weight.specs.Factors.{AreModuleFactors}
use Rattle.lie_weight.proofs.StepLemmas.{member_push, all_factors_are}
use Rattle.lie_weight.proofs.simple_factors.all_factors.Goals as goal

pub loop-i-preserved : goal.loop-i-preserved
loop-i-preserved c =
    let fs = c.loop-i.list.items in
    let y = c.in_ok-simple_factors.field-0 in
    let v = c.args.space.now in
    let e = c.in_ok-push.ensures.items in
    let n = c.loop-i.invariant.0 in
    let each = member_push (λ k f. AreModuleFactors v (k + 1) f) fs y (λ k z l. c.loop-i.invariant.1 k z (omega (arith, l, n))) (subst (λ t. AreModuleFactors v (t + 1) y) (sym n) c.in_ok-simple_factors.ensures) in (
      ap length e ∙ length-append fs (y ∷ []) ∙ ap (λ t. t + 1) n,
      λ k z l. subst (λ (gs : List Factors). AreModuleFactors v (k + 1) (get_or gs k z)) (sym {A = List Factors} e) (each k z (omega (arith, l, n))),
    )

pub returns : goal.returns
returns c =
    let t = c.loop-i-test.false in
    let a = c.loop-i.auto in
    let r = c.l-i-end.ensures in
    all_factors_are c.args.datum.now c.args.space.now c.loop-i.list.items c.loop-i.i c.loop-i.invariant.0 (omega (arith, t, a, r)) c.loop-i.invariant.1
