use Rattle.lie_weight.proofs.OneAnswers.{one_dual}
use Rattle.lie_weight.proofs.laws.one_dual.Goals as goal

pub returns : goal.returns
returns c = one_dual
