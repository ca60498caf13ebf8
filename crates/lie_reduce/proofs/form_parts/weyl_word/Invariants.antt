use Rattle.std.proofs.Common.{◌≡◌, map, take}
use Rattle.lie_letters.specs.declared.letter.Letter.TheVariants.{N}
use Rattle.lie_reduce.proofs.form_parts.weyl_word.Given as goal

abbrev pub invariant-loop-i : goal.invariant-loop-i
invariant-loop-i l = l.word ≡ map N (take l.i-index l.indices)
