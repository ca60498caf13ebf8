use Rattle.lie_letters.proofs.SpelledLemmas.{JoinedSpelled-refl}
use Rattle.lie_letters.proofs.laws.joined_reflexive.Goals as goal

pub returns : goal.returns
returns c = JoinedSpelled-refl
