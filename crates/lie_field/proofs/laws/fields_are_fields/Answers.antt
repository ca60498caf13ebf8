use Rattle.std.proofs.Common.{◌<◌, arith}
use Rattle.lie_field.specs.FieldRing.{field_is_ring}
use Rattle.lie_field.specs.Algebra.FieldTest.{is_lawful}
use Rattle.lie_field.specs.Algebra.Powers.{mul-inv, inv-below}
use Rattle.lie_field.proofs.laws.fields_are_fields.Goals as goal

pub returns : goal.returns
returns c f = record {
  ring = (field_is_ring f).laws;
  zero_not_one = omega arith;
  inverse_below = inv-below f.given (is_lawful f);
  mul_inverse = λ a small not_zero. mul-inv f.given (is_lawful f) a (let above : 0 < a = omega (arith, not_zero) in above) small;
}
