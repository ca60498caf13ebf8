use Rattle.std.proofs.Common.{◌≡◌, ◌∙◌, ◌+◌, ◌*◌, ◌<◌, ℕ, get_or, sym, ap, subst, arith}
use Rattle.std.proofs.lemmas.List.{get_or_default}
use Rattle.lie_field.specs.Quotient.{order}
use Rattle.lie_dense.proofs.StepLemmas.{place_below, step-read, step-below}
use Rattle.lie_dense.proofs.steps.step.Goals as goal

-- the place of the sum x + a y
at : ℕ → ℕ → ℕ → ℕ → ℕ
at a x y q = (a * q + x) * q + y

pub returns-clause-value : goal.returns-clause-value
unfolding at
returns-clause-value c =
    let f = c.args.field.now in
    let a = c.args.a in
    let x = c.args.x in
    let y = c.args.y in
    let q = c.q-q.result in
    let steps = c.args.steps.now in
    let place : at c.number.result c.number-2.result c.number-3.result q ≡ at a x y (order f.given) =
    ap (λ n. at n c.number-2.result c.number-3.result q) c.number.ensures
    ∙ ap (λ n. at a n c.number-3.result q) c.number-2.ensures
    ∙ ap (λ n. at a x n q) c.number-3.ensures
    ∙ ap (at a x y) c.q-q.ensures.value in
    let within = place_below (order f.given) a x y c.requires.a_below c.requires.x_below c.requires.y_below in
    c.index-steps-number.is
    ∙ get_or_default steps (at c.number.result c.number-2.result c.number-3.result q) c.index-steps-number.result 0 (omega (arith, place, within, c.requires.steps.count))
    ∙ ap (λ k. get_or steps k 0) place
    ∙ step-read f steps c.requires.steps a x y c.requires.a_below c.requires.x_below c.requires.y_below

pub returns-clause-below : goal.returns-clause-below
returns-clause-below c = subst (λ k. k < order c.args.field.now.given) (sym (returns-clause-value c)) (step-below c.args.field.now c.args.a c.args.x c.args.y)
