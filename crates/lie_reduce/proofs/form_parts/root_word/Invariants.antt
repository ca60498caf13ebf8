use Rattle.std.proofs.Common.{◌≡◌, take}
use Rattle.lie_letters.specs.RingLetters.{full_word}
use Rattle.lie_letters.specs.Spelled.{root_letters}
use Rattle.lie_reduce.proofs.form_parts.root_word.Given as goal

abbrev pub invariant-loop-k : goal.invariant-loop-k
invariant-loop-k l = l.word ≡ root_letters (full_word (take l.k l.list))
