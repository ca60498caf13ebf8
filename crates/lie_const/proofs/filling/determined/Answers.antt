use Rattle.std.proofs.Common.{◌≡◌, ◌+◌, suc, pos, ◌+ℤ◌, subst, sym, ◌∙◌, arith, length}
use Rattle.std.proofs.lemmas.Int.{ints}
use Rattle.lie_datum.specs.RootList.{IsNumber}
use Rattle.lie_datum.proofs.NumberLemmas.{some_within}
use Rattle.lie_const.specs.StructureConstants.{at_part}
use Rattle.lie_const.specs.Filling.{PairValues, IsFilled}
use Rattle.lie_const.proofs.FillLemmas.{number_at-low, filled_none, filled_all}
use Rattle.lie_const.proofs.filling.determined.Goals as goal

pub loop-k-init : goal.loop-k-init
loop-k-init c =
    let d = c.args.datum.now in
    subst (λ (v : PairValues). IsFilled d v (at_part (pos 1) (pos 1) 0)) (sym c.in_ok-values.ensures) (filled_none d c.loaded.ensures c.m.result c.m.ensures.value)

pub determine_sum-requires-clause-number : goal.determine_sum-requires-clause-number
determine_sum-requires-clause-number c =
    let root = c.at.ensures ∙ number_at-low c.m-in-loop-k.result c.loop-k.k (let l = c.loop-k-test.true in let e = c.m-in-loop-k.ensures.value in let f = c.m-k-end.ensures.value in omega (arith, l, e, f)) in
    let l = c.loop-k-test.true in
    let f = c.m-k-end.ensures.value in
    subst (IsNumber c.args.datum.now) (sym root) (some_within c.args.datum.now.positive c.loop-k.k (omega (arith, l, f)))

pub determine_sum-requires-clause-filled : goal.determine_sum-requires-clause-filled
determine_sum-requires-clause-filled c =
    let root = c.at.ensures ∙ number_at-low c.m-in-loop-k.result c.loop-k.k (let l = c.loop-k-test.true in let e = c.m-in-loop-k.ensures.value in let f = c.m-k-end.ensures.value in omega (arith, l, e, f)) in
    subst (λ t. IsFilled c.args.datum.now c.loop-k.values (at_part t (pos 1) 0)) (sym root) c.loop-k.invariant

pub loop-k-preserved : goal.loop-k-preserved
loop-k-preserved c =
    let root = c.at.ensures ∙ number_at-low c.m-in-loop-k.result c.loop-k.k (let l = c.loop-k-test.true in let e = c.m-in-loop-k.ensures.value in let f = c.m-k-end.ensures.value in omega (arith, l, e, f)) in
    let up : c.at.result +ℤ pos 1 ≡ pos (suc (c.loop-k.k + 1)) = omega (arith, ints, root) in
    subst (λ t. IsFilled c.args.datum.now c.determine_sum.new.values (at_part t (pos 1) 0)) up c.in_ok-determine_sum.ensures

pub returns : goal.returns
returns c =
    let done = c.loop-k-test.false in
    let f = c.m-k-end.ensures.value in
    let within = c.loop-k.auto.k-end in
    let end : pos (suc c.loop-k.k) ≡ pos (length c.args.datum.now.positive) +ℤ pos 1 = omega (arith, ints, done, f, within) in (
      c.loop-k.invariant.count,
      filled_all c.args.datum.now c.loaded.ensures c.loop-k.values (subst (λ t. IsFilled c.args.datum.now c.loop-k.values (at_part t (pos 1) 0)) end c.loop-k.invariant),
    )
