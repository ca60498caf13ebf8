use Rattle.std.proofs.Common.{◌-◌, length, drop}
use Rattle.lie_weyl.specs.WeylElement.{Spells}
use Rattle.lie_weyl.proofs.weyl.Weyl.from_word.Given as goal

abbrev pub invariant-loop-k : goal.invariant-loop-k
invariant-loop-k l = Spells l.datum (drop (length l.word - l.k) l.word) l.product
