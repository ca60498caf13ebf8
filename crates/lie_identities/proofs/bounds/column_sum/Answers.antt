use Rattle.std.proofs.Common.{◌≡◌, ◌+◌, ◌*◌, ◌^◌, ◌∷◌, [], pos, nat_abs, get_or, take, ap, ◌∙◌, arith}
use Rattle.std.proofs.lemmas.List.{take_more}
use Rattle.lie_identities.specs.declared.steps.Step.{Step}
use Rattle.lie_identities.specs.Sizes.{steps_total}
use Rattle.lie_identities.proofs.BoundLemmas.{total-append}
use Rattle.lie_identities.proofs.bounds.column_sum.Goals as goal

pub loop-step-preserved : goal.loop-step-preserved
loop-step-preserved c =
    let n = c.args.size in
    let ss = c.args.column.now in
    let k = c.loop-step.step-index in
    let none : Step = record { power = 0; row = 0; value = pos 0 } in
    let s : Step = get_or ss k none in
    let more = ap (steps_total n) (take_more ss k none c.loop-step-test.true) ∙ total-append n (take k ss) (s ∷ []) in
    let before = c.loop-step.invariant in
    let added : c.in_ok-sum.sum ≡ c.loop-step.sum + n ^ s.power * nat_abs s.value = c.in_ok-sum.ensures in
    omega (arith, more, before, added)
