use Rattle.std.proofs.Common.{◌≡◌, take}
use Rattle.lie_reply.proofs.weyl.root_numbers.Given as goal

abbrev pub invariant-roots : goal.invariant-roots
invariant-roots l = l.list.items ≡ take l.r-index l.roots
