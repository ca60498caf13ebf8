use Rattle.std.proofs.Common.{ap, arith}
use Rattle.lie_field.specs.Quotient.{order}
use Rattle.lie_field.specs.Tables.{data_of}
use Rattle.lie_field.specs.Algebra.FieldTest.{is_lawful}
use Rattle.lie_field.specs.Algebra.Laws.{neg_below}
use Rattle.lie_field.proofs.Lookups.{negative_read}
use Rattle.lie_field.proofs.fields.Field.neg.Goals as goal

pub returns-clause-value : goal.returns-clause-value
returns-clause-value c =
    let a = c.self.inside in
    let same = ap (λ f. order f.given) c.self.view_is in
    rw (← c.self.view_is, ← c.a.view_is)
    (negative_read (data_of a) a.tables.negatives.items c.self.invariant.tables.negatives c.a.inside.number c.index.result.now
    (omega (arith, same, c.a.view_is, c.requires)) c.index.ensures)

pub returns-clause-below : goal.returns-clause-below
returns-clause-below c =
    let e = returns-clause-value c in
    rw e (neg_below c.args.self.now.given (is_lawful c.args.self.now).ring c.args.a)
