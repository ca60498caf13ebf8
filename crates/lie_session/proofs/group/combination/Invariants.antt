use Rattle.std.proofs.Common.{◌≡◌, take}
use Rattle.lie_session.proofs.group.combination.Given as goal

abbrev pub invariant-c : goal.invariant-c
invariant-c l = l.list.items ≡ take l.k-index l.c
