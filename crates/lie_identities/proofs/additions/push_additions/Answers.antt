use Rattle.std.proofs.Common.{◌≡◌, ◌∷◌, [], ◌++◌, ◌-◌, suc, pos, take, map, get_or, sym, ap, ap₂, subst, ◌∙◌, arith, append_assoc}
use Rattle.std.proofs.lemmas.List.{take_more, map-append}
use Rattle.lie_ring.specs.Powers.{power}
use Rattle.lie_poly.specs.Polynomials.{laurent}
use Rattle.lie_identities.specs.Moves.{IsNarrowMove, moved, addition, base_of}
use Rattle.lie_identities.specs.declared.steps.Step.{Step}
use Rattle.lie_identities.proofs.additions.push_additions.Goals as goal

-- the step at the place of the loop
abbrev none : Step
none = record { power = 0; row = 0; value = pos 0 }

pub move_entry-requires-clause-narrow : goal.move_entry-requires-clause-narrow
move_entry-requires-clause-narrow c =
    let k = c.loop-step.step-index in
    let s = get_or c.args.steps.now k none in
    let h = c.requires.steps k none c.loop-step-test.true in
    let p = c.index-powers-step.result in
    let first = h.first in
    let last = h.last in
    let is = c.index-powers-step.is ∙ (c.requires.powers.powers (s.power - 1) p (omega (arith, first, last))).0 ∙ ap (power laurent (base_of c.args.powers.now)) (let e : suc (s.power - 1) ≡ s.power = omega (arith, first) in e) in
    subst (λ x. IsNarrowMove x s.value c.args.entry.now) (sym is) h.narrow

pub loop-step-preserved : goal.loop-step-preserved
loop-step-preserved c =
    let ss = c.args.steps.now in
    let k = c.loop-step.step-index in
    let s = get_or ss k none in
    let h = c.requires.steps k none c.loop-step-test.true in
    let p = c.index-powers-step.result in
    let f = (base_of c.args.powers.now) in
    let x = c.args.entry.now in
    let first = h.first in
    let last = h.last in
    let is = c.index-powers-step.is ∙ (c.requires.powers.powers (s.power - 1) p (omega (arith, first, last))).0 ∙ ap (power laurent f) (let e : suc (s.power - 1) ≡ s.power = omega (arith, first) in e) in
    let made = c.in_ok-value.ensures.value ∙ ap (λ y. moved y s.value x) is in
    c.in_ok-push.ensures.items
    ∙ ap₂ (λ ys y. ys ++ ((s.row, y) ∷ [])) c.loop-step.invariant made
    ∙ append_assoc c.args.additions.now.items (map (addition laurent f x) (take k ss)) (addition laurent f x s ∷ [])
    ∙ ap (λ ys. c.args.additions.now.items ++ ys) (sym (map-append (addition laurent f x) (take k ss) (s ∷ [])) ∙ ap (map (addition laurent f x)) (sym (take_more ss k none c.loop-step-test.true)))
