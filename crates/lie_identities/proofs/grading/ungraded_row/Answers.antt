use Rattle.std.proofs.Common.{◌<◌, pos, sym, ap, ap₂, subst, ◌∙◌, arith}
use Rattle.lie_ring.specs.Matrices.{entry}
use Rattle.lie_mat.specs.Kept.{AreZeros, IsNextKept}
use Rattle.lie_datum.specs.Vectors.{plus, times}
use Rattle.lie_datum.specs.RootDatum.{IsWithin}
use Rattle.lie_const.specs.Modules.{dimension}
use Rattle.lie_orbit.proofs.WeightLemmas.{root_within}
use Rattle.lie_identities.proofs.GradingLemmas.{zero-graded, past-graded, row-more}
use Rattle.lie_identities.proofs.grading.ungraded_row.Goals as goal

pub loop-row-init : goal.loop-row-init
loop-row-init c = (omega arith, λ a l. absurd (omega (arith, l)))

pub is_raised-requires-clause-root : goal.is_raised-requires-clause-root
is_raised-requires-clause-root c = subst (IsWithin 80000) (sym c.root-root.ensures) (root_within c.args.steps.now.datum.now c.loaded.ensures c.args.r c.requires.r)

pub returns-then-not-is_raised : goal.returns-then-not-is_raised
returns-then-not-is_raised c =
    let d = c.args.steps.now.datum.now in
    let v = c.args.steps.now.module.now in
    let M = c.power-matrix.result.now in
    let same = c.power-matrix.ensures.value in
    let kept : IsNextKept (pos 0) M c.args.col c.loop-row.from c.in-Some.row c.in-Some.field-0-1.now = c.in-Some.ensures.next in
    let tall = c.power-matrix.ensures.square.height in
    let within : c.in-Some.row < dimension v = subst (λ n. c.in-Some.row < n) tall kept.within in
    record {
      here = record {
        number = c.requires.r;
        first = c.requires.first;
        row = within;
        col = c.requires.col;
        nonzero = λ z. kept.nonzero (kept.here ∙ ap (λ N. entry (pos 0) N c.in-Some.row c.args.col) same ∙ z);
        weights = λ w. (let t = c.is_raised.ensures.1 (c.weight.ensures.value ∙ w ∙ sym (ap₂ (λ x y. plus x (times (pos c.args.k) y)) c.weight-in-Some.ensures.value c.root-root.ensures)) in
            let f = c.if-not-is_raised.true in cc);
      };
      earlier = zero-graded d v c.args.r c.args.k c.args.col M same c.loop-row.from c.in-Some.row c.loop-row.invariant.1 kept.before;
    }

pub loop-row-preserved : goal.loop-row-preserved
loop-row-preserved c =
    let d = c.args.steps.now.datum.now in
    let v = c.args.steps.now.module.now in
    let M = c.power-matrix.result.now in
    let kept : IsNextKept (pos 0) M c.args.col c.loop-row.from c.in-Some.row c.in-Some.field-0-1.now = c.in-Some.ensures.next in
    let few = c.in-Some.ensures.few in (
      omega (arith, few),
      row-more d v c.args.r c.args.k c.args.col c.in-Some.row
          (zero-graded d v c.args.r c.args.k c.args.col M c.power-matrix.ensures.value c.loop-row.from c.in-Some.row c.loop-row.invariant.1 kept.before)
          (λ u. u.weights (sym c.weight.ensures.value ∙ c.is_raised.ensures.0 c.if-not-is_raised.false ∙ ap₂ (λ x y. plus x (times (pos c.args.k) y)) c.weight-in-Some.ensures.value c.root-root.ensures)),
    )

pub returns : goal.returns
returns c =
    let d = c.args.steps.now.datum.now in
    let v = c.args.steps.now.module.now in
    let M = c.power-matrix.result.now in
    let tall = c.power-matrix.ensures.square.height in
    let zeros : AreZeros (pos 0) M c.args.col c.loop-row.from M.height = c.in_default.ensures.next in
    past-graded d v c.args.r c.args.k c.args.col M.height (omega (arith, tall))
    (zero-graded d v c.args.r c.args.k c.args.col M c.power-matrix.ensures.value c.loop-row.from M.height c.loop-row.invariant.1 zeros)
