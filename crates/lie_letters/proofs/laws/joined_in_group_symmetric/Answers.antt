use Rattle.lie_letters.proofs.GroupSpelledLemmas.{JoinedInGroup-flip}
use Rattle.lie_letters.proofs.laws.joined_in_group_symmetric.Goals as goal

pub returns : goal.returns
returns c = JoinedInGroup-flip
