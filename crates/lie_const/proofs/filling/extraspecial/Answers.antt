use Rattle.std.proofs.Common.{◌≡◌, suc, pos, ap, subst, sym, ◌∙◌, arith, ⊎_elim}
use Rattle.std.proofs.lemmas.Int.{ints}
use Rattle.lie_datum.specs.Numbers.{place}
use Rattle.lie_const.specs.StructureConstants.{IsSpecial}
use Rattle.lie_const.proofs.SumLemmas.{compare_numbers}
use Rattle.lie_const.proofs.FillLemmas.{number_before, place_positive, first_before}
use Rattle.lie_const.proofs.filling.extraspecial.Goals as goal
use Rattle.lie_const.proofs.filling.extraspecial.Goals.{In-Some}

pub loop-at-init : goal.loop-at-init
loop-at-init c r s h = h.positive

-- the root of this turn
pub this_root : (c : In-Some) → c.at-r.result ≡ pos (suc c.loop-at.at)
this_root c = number_before c.args.datum.now c.args.k c.at-r.result c.m-in-loop-at.result c.place-at-end.result c.loop-at.at c.requires.number c.requires.positive c.m-in-loop-at.ensures.value
    (c.place-at-end.ensures.value ∙ ap (λ t. place t c.args.k) (c.m.ensures.value ∙ sym c.m-in-loop-at.ensures.value)) c.loop-at-test.true c.at-r.ensures

pub returns-in-Some : goal.returns-in-Some
returns-in-Some c = record {
  special = c.in-Some.ensures;
  first = λ r s h. (let l = c.loop-at.invariant r s h in let e = this_root c in omega (arith, ints, l, e));
}

pub loop-at-preserved : goal.loop-at-preserved
loop-at-preserved c r s h =
    let l = c.loop-at.invariant r s h in
    let e = number_before c.args.datum.now c.args.k c.at-r.result c.m-in-loop-at.result c.place-at-end.result c.loop-at.at c.requires.number c.requires.positive c.m-in-loop-at.ensures.value
    (c.place-at-end.ensures.value ∙ ap (λ t. place t c.args.k) (c.m.ensures.value ∙ sym c.m-in-loop-at.ensures.value)) c.loop-at-test.true c.at-r.ensures in
    ⊎_elim (λ m. absurd (omega (arith, ints, l, m, e)))
    (λ f. ⊎_elim (λ m. omega (arith, ints, m, e)) (λ g. absurd (c.in_default.ensures s (subst (λ t. IsSpecial c.args.datum.now t s c.args.k) g h))) f) (compare_numbers r c.at-r.result)

pub returns : goal.returns
returns c r s h =
    let l = c.loop-at.invariant r s h in
    let m = first_before c.args.datum.now c.loaded.ensures c.args.k r s h in
    let p = place_positive c.args.datum.now c.args.k c.requires.number c.requires.positive in
    let q = p.1 in
    let e = c.place-at-end.ensures.value ∙ ap (λ t. place t c.args.k) c.m.ensures.value in
    let done = c.loop-at-test.false in
    omega (arith, ints, l, m, q, e, done)
