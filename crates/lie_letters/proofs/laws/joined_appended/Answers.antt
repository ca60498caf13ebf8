use Rattle.lie_letters.proofs.SpelledLemmas.{JoinedSpelled-append}
use Rattle.lie_letters.proofs.laws.joined_appended.Goals as goal

pub returns : goal.returns
returns c = JoinedSpelled-append
