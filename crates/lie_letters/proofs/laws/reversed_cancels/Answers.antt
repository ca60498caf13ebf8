use Rattle.lie_letters.proofs.ReversedLemmas.{word_cancels}
use Rattle.lie_letters.proofs.laws.reversed_cancels.Goals as goal

pub returns : goal.returns
returns c = word_cancels
