use Rattle.std.proofs.Common.{◌<◌}
use Rattle.std.specs.List.{All}
use Rattle.lie_field.specs.Quotient.{order}
use Rattle.test_rows.proofs.fields.elements.Given as goal

abbrev pub invariant-loop-n : goal.invariant-loop-n
invariant-loop-n l = All (λ n. n < order l.field.given) l.elements.items
