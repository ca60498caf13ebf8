use Rattle.std.proofs.Common.{◌≡◌, take, map, nat_abs}
use Rattle.lie_reply.proofs.weyl.letters_of.Given as goal

abbrev pub invariant-indices : goal.invariant-indices
invariant-indices l = l.list.items ≡ map nat_abs (take l.i-index l.indices)
