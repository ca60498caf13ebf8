use Rattle.lie_weyl.proofs.Words.{is_word}
use Rattle.lie_weyl.proofs.GreedyLemmas.{greedy_least}
use Rattle.lie_weyl.proofs.laws.greedy_is_least.Goals as goal

pub returns : goal.returns
returns c = λ d loaded w p l e. greedy_least d loaded w p (is_word d.base w l) e
