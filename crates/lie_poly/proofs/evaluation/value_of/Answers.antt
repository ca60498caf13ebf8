use Rattle.std.proofs.Common.{◌+◌, drop, ap, ◌∙◌, arith}
use Rattle.std.specs.Prelude.{pos}
use Rattle.lie_field.specs.Quotient.{add}
use Rattle.lie_field.specs.Algebra.FieldTest.{is_lawful}
use Rattle.lie_field.specs.Algebra.Powers.{one_below}
use Rattle.lie_poly.specs.Terms.{term}
use Rattle.lie_poly.proofs.EvaluationLemmas.{sum_of_values, value-start, value-more, value-end}
use Rattle.lie_poly.proofs.evaluation.value_of.Goals as goal

pub loop-x-init : goal.loop-x-init
loop-x-init c =
    let f = c.args.field.now in
    let large = one_below f.given (is_lawful f).ring in
    record {
      summed = ap (λ a. add f.given a (sum_of_values f c.args.t c.args.u c.args.terms.now)) c.zero-value.ensures ∙ value-start f c.args.t c.args.u c.args.terms.now;
      below = omega (arith, large, c.zero-value.ensures);
    }

pub loop-x-preserved : goal.loop-x-preserved
loop-x-preserved c =
    let f = c.args.field.now in
    let xs = c.args.terms.now in
    let k = c.loop-x.x-index in
    let d = term (pos 0, pos 0) (pos 0) in
    let a = c.loop-x.value in
    let v = c.term_value-term.result in
    record {
      summed =
          ap (λ z. add f.given z (sum_of_values f c.args.t c.args.u (drop (k + 1) xs))) c.add-value.ensures.value
          ∙ value-more f c.args.t c.args.u xs k d a v (sum_of_values f c.args.t c.args.u xs) c.loop-x-test.true c.loop-x.invariant.below c.term_value-term.ensures.below c.term_value-term.ensures.value c.loop-x.invariant.summed;
      below = c.add-value.ensures.below;
    }

pub returns-clause-value : goal.returns-clause-value
returns-clause-value c =
    let f = c.args.field.now in
    let xs = c.args.terms.now in
    value-end f c.args.t c.args.u xs c.loop-x.x-index c.loop-x.value (sum_of_values f c.args.t c.args.u xs) c.loop-x-test.false c.loop-x.invariant.below c.loop-x.invariant.summed
