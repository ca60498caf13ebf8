use Rattle.std.proofs.Common.{◌≡◌, ◌++◌, take}
use Rattle.lie_unip.specs.Placing.{group_from}
use Rattle.lie_unip.proofs.orders.push_group.Given as goal

abbrev pub invariant-loop-k : goal.invariant-loop-k
invariant-loop-k l = l.roots.items ≡ l.initial.roots.items ++ group_from l.first 1 (take l.k l.kept)
