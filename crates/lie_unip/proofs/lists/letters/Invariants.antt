use Rattle.std.proofs.Common.{◌≡◌, ◌+◌, reverse, drop}
use Rattle.lie_letters.specs.RingLetters.{full_from}
use Rattle.lie_unip.proofs.lists.letters.Given as goal

abbrev pub invariant-loop-k : goal.invariant-loop-k
invariant-loop-k g l = reverse l.todo.items ≡ full_from (l.k + 1) (drop l.k l.entries)
