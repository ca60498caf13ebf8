use Rattle.std.proofs.Common.{◌≡◌, ◌++◌, take}
use Rattle.lie_letters.proofs.word.Word.append.Given as goal

abbrev pub invariant-loop-letter : goal.invariant-loop-letter
invariant-loop-letter l = l.self ≡ l.fn.self ++ take l.letter-index l.letters
