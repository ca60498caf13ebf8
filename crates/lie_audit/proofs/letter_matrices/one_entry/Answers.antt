use Rattle.std.proofs.Common.{arith}
use Rattle.lie_field.specs.Algebra.FieldTest.{is_lawful}
use Rattle.lie_field.specs.Algebra.Powers.{one_below}
use Rattle.lie_audit.proofs.letter_matrices.one_entry.Goals as goal

pub returns-else-row-col-clause-below : goal.returns-else-row-col-clause-below
returns-else-row-col-clause-below c =
    let h = one_below c.args.field.now.given (is_lawful c.args.field.now).ring in
    let e = c.zero.ensures in
    omega (arith, h, e)
