-- One term more, and where a step is too wide.
use Rattle.std.proofs.Common.{◌≡◌, suc, ◌+◌, ◌<◌, ◌^◌, ◌+ℤ◌, nat_abs, Err, true, ap, ap₂, sym, subst, ◌∙◌, arith, lit<}
use Rattle.lie_ring.specs.declared.rings.RingStop.{RingStop}
use Rattle.lie_mat.proofs.KeptLemmas.{told-err}
use Rattle.lie_datum.proofs.VectorLemmas.{plain}
use Rattle.lie_weight.specs.TensorParts.{tensor_term, tensor_sum}
use Rattle.lie_weight.proofs.TensorLemmas.{le_sum, wide_term, wide_sum}
use Rattle.lie_weight.proofs.tensor_powers.ProductRule.sum.Goals as goal

pub returns-in_err-term-clause-wide : goal.returns-in_err-term-clause-wide
returns-in_err-term-clause-wide c = λ is.
    let s = c.args.self.now in
    let t = c.loop-i-test.true in
    let a = c.loop-i.auto.i-end in
    let stopped = told-err c.from_residual.result _ RingStop.Wide c.from_residual.ensures.1 is in
    wide_term s.first.now s.second.now s.first_kept s.second_kept s.root s.power c.args.row c.args.col c.requires.row c.requires.col true c.loop-i.i (omega (arith, t, a))
    (c.term.ensures.wide (c.in_err-term.was ∙ ap Err (sym stopped)))

pub returns-in_err-sum-clause-wide : goal.returns-in_err-sum-clause-wide
returns-in_err-sum-clause-wide c = λ is.
    let s = c.args.self.now in
    let t = c.loop-i-test.true in
    let a = c.loop-i.auto.i-end in
    let stopped = told-err c.from_residual-in_err-sum.result _ RingStop.Wide c.from_residual-in_err-sum.ensures.1 is in
    let term = c.in_ok-term.term in
    let fit = c.in_ok-term.ensures.fit in
    let term_plain = plain term (2 ^ 126) (omega (arith, fit)) (lit< tt) in
    let term_is = c.in_ok-term.ensures.value in
    wide_sum s.first.now s.second.now s.first_kept s.second_kept s.root s.power c.args.row c.args.col c.requires.row c.requires.col s.sizes c.loop-i.i (omega (arith, t, a))
    (le_sum _ _ _ _ _ (c.add.ensures.wide (c.in_err-sum.was ∙ ap Err (sym stopped))) (ap nat_abs c.loop-i.invariant.0) (ap nat_abs (term_plain ∙ term_is)))

pub loop-i-preserved : goal.loop-i-preserved
loop-i-preserved c =
    let s = c.args.self.now in
    let i = c.loop-i.i in
    let one : i + 1 ≡ suc i = omega arith in
    let sum = c.in_ok-sum.sum in
    let fits = c.in_ok-sum.ensures.fits.1 in
    let sum_plain = plain sum (2 ^ 126) (omega (arith, fits)) (lit< tt) in
    let term = c.in_ok-term.term in
    let fit = c.in_ok-term.ensures.fit in
    let term_plain = plain term (2 ^ 126) (omega (arith, fit)) (lit< tt) in
    let term_is = c.in_ok-term.ensures.value in
    let F = tensor_sum s.sizes s.first.now s.second.now s.root s.power c.args.row c.args.col in
    let next : sum ≡ F i +ℤ tensor_term s.sizes s.first.now s.second.now s.root s.power c.args.row c.args.col i = c.in_ok-sum.ensures.value ∙ ap₂ ◌+ℤ◌ c.loop-i.invariant.0 (term_plain ∙ term_is) in (
      sum_plain ∙ next ∙ ap F (sym one),
      subst (λ z. nat_abs z < 2 ^ 126) (sym sum_plain) fits,
    )

pub returns-clause-value : goal.returns-clause-value
returns-clause-value c =
    let s = c.args.self.now in
    let F = tensor_sum s.sizes s.first.now s.second.now s.root s.power c.args.row c.args.col in
    let t = c.loop-i-test.false in
    let a = c.loop-i.auto in
    let end : c.loop-i.i ≡ suc s.power = omega (arith, t, a) in
    c.loop-i.invariant.0 ∙ ap F end
