use Rattle.std.proofs.Common.{◌++◌, ◌∷◌, map, take}
use Rattle.lie_letters.specs.declared.letter.Letter.TheVariants.{H, N}
use Rattle.lie_bruhat.specs.Products.{IsTimes}
use Rattle.lie_bruhat.proofs.ListLemmas.{letters}
use Rattle.lie_bruhat.proofs.bruhat.mul.Given as goal

abbrev pub invariant-loop-k : goal.invariant-loop-k
invariant-loop-k l = IsTimes l.frame l.a (letters l.b.first ++ H l.b.torus ∷ map N (take l.k l.word.items)) l.form
