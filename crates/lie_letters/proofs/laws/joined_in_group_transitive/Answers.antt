use Rattle.lie_letters.proofs.GroupSpelledLemmas.{JoinedInGroup-trans}
use Rattle.lie_letters.proofs.laws.joined_in_group_transitive.Goals as goal

pub returns : goal.returns
returns c = JoinedInGroup-trans
