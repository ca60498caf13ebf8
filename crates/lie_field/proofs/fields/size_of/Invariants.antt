use Rattle.std.proofs.Common.{◌≡◌, ◌≤◌, ◌^◌}
use Rattle.lie_field.specs.Faults.{order_limit}
use Rattle.lie_field.proofs.fields.size_of.Given as goal

abbrev pub invariant-loop-i : goal.invariant-loop-i
invariant-loop-i l = (l.q ≡ l.p ^ l._i) × (l.q ≤ order_limit)
