use Rattle.std.proofs.Common.{◌≡◌, ◌+◌, suc, pos, ◌+ℤ◌, ap, subst, sym, ◌∙◌, arith}
use Rattle.std.proofs.lemmas.Int.{ints}
use Rattle.lie_datum.specs.Numbers.{place}
use Rattle.lie_datum.specs.RootList.{IsNumber}
use Rattle.lie_const.specs.StructureConstants.{at_part}
use Rattle.lie_const.specs.Filling.{IsFilled}
use Rattle.lie_const.proofs.SpecialLemmas.{abs_number}
use Rattle.lie_const.proofs.FillLemmas.{number_before, number_low, place_positive, first_before, filled_sum}
use Rattle.lie_const.proofs.filling.determine_sum.Goals as goal

pub returns-in_default : goal.returns-in_default
returns-in_default c = filled_sum c.args.datum.now c.loaded.ensures c.args.values.now c.args.k (pos 1) (λ r s h. absurd (c.in_default.ensures r s h)) c.requires.filled

pub place-at-end-requires-clause-number : goal.place-at-end-requires-clause-number
place-at-end-requires-clause-number c = abs_number c.args.datum.now c.m.result c.args.k c.m.ensures.value c.requires.number

pub determine_first-requires-clause-r : goal.determine_first-requires-clause-r
determine_first-requires-clause-r c =
    let root = number_before c.args.datum.now c.args.k c.at.result c.m-in-loop-at.result c.place-at-end.result c.loop-at.at c.requires.number c.requires.positive c.m-in-loop-at.ensures.value
    (c.place-at-end.ensures.value ∙ ap (λ t. place t c.args.k) (c.m.ensures.value ∙ sym c.m-in-loop-at.ensures.value)) c.loop-at-test.true c.at.ensures in
    let last = c.place-at-end.ensures.value ∙ ap (λ t. place t c.args.k) c.m.ensures.value in
    let l = c.loop-at-test.true in
    subst (IsNumber c.args.datum.now) (sym root) (number_low c.args.datum.now c.args.k c.loop-at.at c.requires.number c.requires.positive (omega (arith, last, l)))

pub determine_first-requires-clause-positive : goal.determine_first-requires-clause-positive
determine_first-requires-clause-positive c =
    let root = number_before c.args.datum.now c.args.k c.at.result c.m-in-loop-at.result c.place-at-end.result c.loop-at.at c.requires.number c.requires.positive c.m-in-loop-at.ensures.value
    (c.place-at-end.ensures.value ∙ ap (λ t. place t c.args.k) (c.m.ensures.value ∙ sym c.m-in-loop-at.ensures.value)) c.loop-at-test.true c.at.ensures in
    omega (arith, ints, root)

pub determine_first-requires-clause-filled : goal.determine_first-requires-clause-filled
determine_first-requires-clause-filled c =
    let root = number_before c.args.datum.now c.args.k c.at.result c.m-in-loop-at.result c.place-at-end.result c.loop-at.at c.requires.number c.requires.positive c.m-in-loop-at.ensures.value
    (c.place-at-end.ensures.value ∙ ap (λ t. place t c.args.k) (c.m.ensures.value ∙ sym c.m-in-loop-at.ensures.value)) c.loop-at-test.true c.at.ensures in
    subst (λ t. IsFilled c.args.datum.now c.loop-at.values (at_part c.args.k t 0)) (sym root) c.loop-at.invariant

pub loop-at-preserved : goal.loop-at-preserved
loop-at-preserved c =
    let root = number_before c.args.datum.now c.args.k c.at.result c.m-in-loop-at.result c.place-at-end.result c.loop-at.at c.requires.number c.requires.positive c.m-in-loop-at.ensures.value
    (c.place-at-end.ensures.value ∙ ap (λ t. place t c.args.k) (c.m.ensures.value ∙ sym c.m-in-loop-at.ensures.value)) c.loop-at-test.true c.at.ensures in
    let up : c.at.result +ℤ pos 1 ≡ pos (suc (c.loop-at.at + 1)) = omega (arith, ints, root) in
    subst (λ t. IsFilled c.args.datum.now c.determine_first.new.values (at_part c.args.k t 0)) up c.in_ok-determine_first.ensures

pub returns : goal.returns
returns c =
    let last = c.place-at-end.ensures.value ∙ ap (λ t. place t c.args.k) c.m.ensures.value in
    let k = (place_positive c.args.datum.now c.args.k c.requires.number c.requires.positive).1 in
    let done = c.loop-at-test.false in
    filled_sum c.args.datum.now c.loaded.ensures c.loop-at.values c.args.k (pos (suc c.loop-at.at))
    (λ r s h. (let l = first_before c.args.datum.now c.loaded.ensures c.args.k r s h in omega (arith, ints, l, k, last, done))) c.loop-at.invariant
