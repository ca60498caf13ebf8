use Rattle.lie_letters.proofs.GroupSpelledLemmas.{JoinedInGroup-plain}
use Rattle.lie_letters.proofs.laws.joined_in_group_plain.Goals as goal

pub returns : goal.returns
returns c = JoinedInGroup-plain
