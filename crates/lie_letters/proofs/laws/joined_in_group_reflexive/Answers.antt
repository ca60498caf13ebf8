use Rattle.lie_letters.proofs.GroupSpelledLemmas.{JoinedInGroup-refl}
use Rattle.lie_letters.proofs.laws.joined_in_group_reflexive.Goals as goal

pub returns : goal.returns
returns c = JoinedInGroup-refl
