use Rattle.std.proofs.Common.{ap, arith, inl, inr}
use Rattle.lie_field.specs.Quotient.{order}
use Rattle.lie_field.specs.Tables.{data_of, is_field_of}
use Rattle.lie_field.specs.Algebra.Powers.{power_below}
use Rattle.lie_field.proofs.Lookups.{power_read}
use Rattle.lie_field.proofs.fields.Field.exp.Goals as goal
use Rattle.lie_field.proofs.fields.Field.exp.Goals.{then-e-last, else-e-last}

pub returns-clause-value : goal.returns-clause-value
returns-clause-value c =
    let a = c.self.inside in
    let t = c.self.invariant in
    let q = t.q_is in
    let same = ap (λ f. order f.given) c.self.view_is in
    let read = power_read (data_of a) (is_field_of a) a.tables.powers.powers.items a.tables.powers.logs.items t.tables.powers c.args.e c.if-e-last.wrapped c.index.result.now in
    rw (← c.self.view_is)
    (elim c.if-e-last.branch [
      | then-e-last w ↦ read (omega (arith, q, w.wrapped-is, w.if-e-last.true)) (inl w.wrapped-is) c.index.ensures
      | else-e-last w ↦ read (omega (arith, q, same, w.wrapped-is, c.requires)) (inr (omega (arith, q, w.if-e-last.false), omega (arith, q, w.wrapped-is))) c.index.ensures
    ])

pub returns-clause-below : goal.returns-clause-below
returns-clause-below c =
    let e = returns-clause-value c in
    rw e (rw (← c.self.view_is) (power_below (data_of c.self.inside) (is_field_of c.self.inside).ring c.self.inside.g c.args.e))
