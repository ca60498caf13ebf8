use Rattle.std.proofs.Common.{◌≡◌, replicate}
use Rattle.lie_field.specs.Quotient.{field_data}
use Rattle.lie_field.proofs.Progress.{Progress}
use Rattle.lie_field.proofs.tables.powers_of.Given as goal

abbrev pub invariant-loop-i : goal.invariant-loop-i
invariant-loop-i l = l.logs.items ≡ replicate l._i l.q

abbrev pub invariant-loop-e : goal.invariant-loop-e
invariant-loop-e l = Progress (field_data l.p l.coeffs l.g) l.e l.power l.powers.items l.logs.items
