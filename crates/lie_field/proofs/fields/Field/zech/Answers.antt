use Rattle.std.proofs.Common.{ap, arith, inl, inr}
use Rattle.lie_field.specs.Quotient.{order}
use Rattle.lie_field.specs.Tables.{data_of, is_field_of}
use Rattle.lie_field.proofs.Lookups.{zech_read}
use Rattle.lie_field.proofs.fields.Field.zech.Goals as goal
use Rattle.lie_field.proofs.fields.Field.zech.Goals.{then-e-last, else-e-last}

pub returns-clause-value : goal.returns-clause-value
returns-clause-value c =
    let a = c.self.inside in
    let t = c.self.invariant in
    let q = t.q_is in
    let same = ap (λ f. order f.given) c.self.view_is in
    let read = zech_read (data_of a) (is_field_of a) a.tables.zech.items t.tables.zech c.args.e c.if-e-last.wrapped c.index.result.now in
    rw (← c.self.view_is)
    (elim c.if-e-last.branch [
      | then-e-last w ↦ read (omega (arith, q, w.wrapped-is, w.if-e-last.true)) (inl w.wrapped-is) c.index.ensures
      | else-e-last w ↦ read (omega (arith, q, same, w.wrapped-is, c.requires)) (inr (omega (arith, q, w.if-e-last.false), omega (arith, q, w.wrapped-is))) c.index.ensures
    ])
