use Rattle.std.proofs.Common.{◌≡◌, map}
use Rattle.lie_letters.specs.Spelled.{inverted}
use Rattle.lie_letters.proofs.word.Word.reversed.Given as goal

abbrev pub invariant-loop-letter : goal.invariant-loop-letter
invariant-loop-letter l = l.word ≡ map (inverted l.field) (map (λ r. r.now) l.yielded)
