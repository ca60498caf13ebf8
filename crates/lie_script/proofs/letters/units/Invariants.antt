use Rattle.std.proofs.Common.{◌≡◌, drop}
use Rattle.lie_field.specs.Quotient.{order}
use Rattle.lie_script.specs.Letters.{units}
use Rattle.lie_script.proofs.Loops.{with_front}
use Rattle.lie_script.proofs.letters.units.Given as goal

abbrev pub invariant-units : goal.invariant-units
invariant-units l = with_front l.list.items (units (order l.field.given) l.column (drop l.a-index l.numbers)) ≡ units (order l.field.given) l.column l.numbers
