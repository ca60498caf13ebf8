use Rattle.std.proofs.Common.{◌≡◌, reverse, take}
use Rattle.lie_letters.specs.RingLetters.{full_word, inverse_word}
use Rattle.lie_unip.proofs.lists.inverse_letters.Given as goal

abbrev pub invariant-loop-k : goal.invariant-loop-k
invariant-loop-k g l = reverse l.todo.items ≡ inverse_word (g.R.Ring.ring l.ring) (full_word (take l.k l.entries))
