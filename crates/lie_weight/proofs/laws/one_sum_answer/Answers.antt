use Rattle.lie_weight.proofs.OneAnswers.{one_sum_answer}
use Rattle.lie_weight.proofs.laws.one_sum_answer.Goals as goal

pub returns : goal.returns
returns c = one_sum_answer
