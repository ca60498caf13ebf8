use Rattle.std.proofs.Common.{arith}
use Rattle.lie_identities.specs.Grading.{IsFirstAtRoot}
use Rattle.lie_identities.proofs.GradingLemmas.{root-more, roots-all}
use Rattle.lie_identities.proofs.grading.first_ungraded.Goals as goal

pub overflow_add-result : goal.overflow_add-result
overflow_add-result c =
    let h : IsFirstAtRoot c.args.steps.now.datum.now c.args.steps.now.module.now c.root_at-r.result c.in-Some.k c.in-Some.row c.in-Some.col = c.in-Some.ensures in
    let l = h.here.row in
    let few = c.dim.ensures.few in
    let is = c.dim.ensures.value in
    omega (arith, l, few, is)

pub overflow_add-result-in-Some : goal.overflow_add-result-in-Some
overflow_add-result-in-Some c =
    let h : IsFirstAtRoot c.args.steps.now.datum.now c.args.steps.now.module.now c.root_at-r.result c.in-Some.k c.in-Some.row c.in-Some.col = c.in-Some.ensures in
    let l = h.here.col in
    let few = c.dim.ensures.few in
    let is = c.dim.ensures.value in
    omega (arith, l, few, is)

pub loop-place-preserved : goal.loop-place-preserved
loop-place-preserved c =
    root-more c.args.steps.now.datum.now c.args.steps.now.module.now c.loop-place.place c.root_at-r.result c.root_at-r.ensures.value c.loop-place.invariant c.in_default.ensures

pub returns : goal.returns
returns c =
    let t = c.loop-place-test.false in
    let e = c.root_count-place-end.ensures.value in
    roots-all c.args.steps.now.datum.now c.args.steps.now.module.now c.loop-place.place (omega (arith, t, e)) c.loop-place.invariant
