use Rattle.std.proofs.Common.{◌∷◌, map, take}
use Rattle.lie_letters.specs.declared.letter.Letter.TheVariants.{H, N}
use Rattle.lie_bruhat.proofs.ListLemmas.{AreMoved}
use Rattle.lie_bruhat.proofs.product.moved_letters.Given as goal

abbrev pub invariant-loop-k : goal.invariant-loop-k
invariant-loop-k l = AreMoved l.frame (H l.h ∷ map N l.word) (take l.k l.y) l.letters.items
