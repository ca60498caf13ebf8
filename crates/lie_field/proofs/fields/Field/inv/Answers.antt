use Rattle.std.proofs.Common.{◌≡◌, ◌-◌, ap, ◌∙◌}
use Rattle.lie_field.specs.Quotient.{order, power}
use Rattle.lie_field.specs.Algebra.FieldTest.{is_lawful}
use Rattle.lie_field.proofs.Lookups.{inverse_by_log}
use Rattle.lie_field.proofs.fields.Field.inv.Goals as goal

pub returns-clause-value : goal.returns-clause-value
returns-clause-value c =
    let f = c.args.self.now in
    let q : c.self.inside.q ≡ order f.given = c.self.invariant.q_is ∙ ap (λ f. order f.given) c.self.view_is in
    (inverse_by_log f.given (is_lawful f) c.args.a c.log.result c.exp.result c.requires.not_zero c.requires.a_below c.log.ensures.value c.log.ensures.below
    (c.exp.ensures.value ∙ ap (λ n. power f.given f.given.g (n - 1 - c.log.result)) q)).0

pub returns-clause-inverts : goal.returns-clause-inverts
returns-clause-inverts c =
    let f = c.args.self.now in
    let q : c.self.inside.q ≡ order f.given = c.self.invariant.q_is ∙ ap (λ f. order f.given) c.self.view_is in
    (inverse_by_log f.given (is_lawful f) c.args.a c.log.result c.exp.result c.requires.not_zero c.requires.a_below c.log.ensures.value c.log.ensures.below
    (c.exp.ensures.value ∙ ap (λ n. power f.given f.given.g (n - 1 - c.log.result)) q)).1
