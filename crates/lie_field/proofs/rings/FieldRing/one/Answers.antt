use Rattle.std.proofs.Common.{arith}
use Rattle.lie_field.specs.FieldRing.{field_is_ring}
use Rattle.lie_field.proofs.rings.FieldRing.one.Goals as goal

pub returns-clause-fits : goal.returns-clause-fits
returns-clause-fits c = ((field_is_ring c.args.self.now).laws.one_elem, omega arith)
