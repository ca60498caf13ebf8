use Rattle.std.proofs.Common.{◌≡◌, replicate}
use Rattle.lie_unip.proofs.lists.zeros.Given as goal

abbrev pub invariant-loop : goal.invariant-loop
invariant-loop g l = l.entries.items ≡ replicate l.counter (g.R.Ring.ring l.ring).zero
