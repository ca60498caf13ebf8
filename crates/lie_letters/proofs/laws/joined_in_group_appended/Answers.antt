use Rattle.lie_letters.proofs.GroupSpelledLemmas.{JoinedInGroup-append}
use Rattle.lie_letters.proofs.laws.joined_in_group_appended.Goals as goal

pub returns : goal.returns
returns c = JoinedInGroup-append
