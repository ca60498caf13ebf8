use Rattle.lie_field.specs.Algebra.FieldTest.{field_at, field_from}
use Rattle.lie_field.proofs.laws.test_is_exact.Goals as goal

pub returns : goal.returns
returns c f = (field_at f, field_from f)
