use Rattle.std.proofs.Common.{◌≡◌, ◌+◌, ◌-◌, sym, ap, ◌∙◌}
use Rattle.lie_field.specs.Quotient.{order, add, power}
use Rattle.lie_field.specs.Algebra.FieldTest.{is_lawful}
use Rattle.lie_field.specs.Algebra.Laws.{add_comm, add_zero}
use Rattle.lie_field.proofs.Lookups.{sum_by_logs, sum_is_zero}
use Rattle.lie_field.proofs.fields.Field.add.Goals as goal

pub returns-then-a-eq0-clause-value : goal.returns-then-a-eq0-clause-value
returns-then-a-eq0-clause-value c =
    let f = c.args.self.now in
    let r = (is_lawful f).ring in
    sym (ap (λ n. add f.given n c.args.b) (sym c.a.view_is ∙ c.if-a-eq0.true) ∙ add_comm f.given r 0 c.args.b ∙ add_zero f.given r c.args.b c.requires.b_below)

pub returns-then-b-eq0-clause-value : goal.returns-then-b-eq0-clause-value
returns-then-b-eq0-clause-value c =
    let f = c.args.self.now in
    sym (ap (add f.given c.args.a) (sym c.b.view_is ∙ c.if-b-eq0.true) ∙ add_zero f.given (is_lawful f).ring c.args.a c.requires.a_below)

pub returns-in-Some-clause-value : goal.returns-in-Some-clause-value
returns-in-Some-clause-value c =
    let f = c.args.self.now in
    let q : c.self.inside.q ≡ order f.given = c.self.invariant.q_is ∙ ap (λ f. order f.given) c.self.view_is in
    let z = c.in-Some.ensures.value in
    sum_by_logs f.given (is_lawful f) c.args.a c.args.b c.log-log.result c.log.result c.in-Some.z c.exp.result c.requires.a_below
    c.log-log.ensures.value c.log.ensures.value c.log-log.ensures.below
    (z.1 ∙ ap (λ n. add f.given 1 (power f.given f.given.g (c.log.result + (n - 1) - c.log-log.result))) q) c.exp.ensures.value

pub returns-in-None-clause-value : goal.returns-in-None-clause-value
returns-in-None-clause-value c =
    let f = c.args.self.now in
    let q : c.self.inside.q ≡ order f.given = c.self.invariant.q_is ∙ ap (λ f. order f.given) c.self.view_is in
    sum_is_zero f.given (is_lawful f) c.args.a c.args.b c.log-log.result c.log.result c.requires.a_below
    c.log-log.ensures.value c.log.ensures.value c.log-log.ensures.below
    (ap (λ n. add f.given 1 (power f.given f.given.g (c.log.result + (n - 1) - c.log-log.result))) (sym q) ∙ c.in-None.ensures.value)
