use Rattle.std.proofs.Common.{sym, ap, ◌∙◌}
use Rattle.lie_field.specs.Quotient.{mul}
use Rattle.lie_field.specs.Algebra.FieldTest.{is_lawful}
use Rattle.lie_field.specs.Algebra.Laws.{zero_mul, mul_zero}
use Rattle.lie_field.specs.Algebra.Powers.{mul-logs}
use Rattle.lie_field.proofs.fields.Field.mul.Goals as goal
use Rattle.lie_field.proofs.fields.Field.mul.Goals.{then-a-eq0-via-then-a-eq0, then-a-eq0-via-else-a-eq0+then-b-eq0}

pub returns-then-a-eq0-clause-value : goal.returns-then-a-eq0-clause-value
returns-then-a-eq0-clause-value c =
    let f = c.args.self.now in
    let r = (is_lawful f).ring in
    elim c.then-a-eq0.branch [
      | then-a-eq0-via-then-a-eq0 w ↦ sym (ap (λ n. mul f.given n c.args.b) (sym c.a.view_is ∙ w.if-a-eq0.true) ∙ zero_mul f.given r c.args.b)
      | then-a-eq0-via-else-a-eq0+then-b-eq0 w ↦ sym (ap (mul f.given c.args.a) (sym c.b.view_is ∙ w.if-b-eq0.true) ∙ mul_zero f.given r c.args.a)
    ]

pub returns-clause-value : goal.returns-clause-value
returns-clause-value c =
    let f = c.args.self.now in
    c.exp.ensures.value ∙ sym (mul-logs f.given (is_lawful f) c.args.a c.args.b c.log.result c.log-2.result c.log.ensures.value c.log-2.ensures.value)
