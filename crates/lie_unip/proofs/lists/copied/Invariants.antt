use Rattle.std.proofs.Common.{◌≡◌, take}
use Rattle.lie_unip.proofs.lists.copied.Given as goal

abbrev pub invariant-loop-a : goal.invariant-loop-a
invariant-loop-a g l = l.copies.items ≡ take l.a-index l.entries
