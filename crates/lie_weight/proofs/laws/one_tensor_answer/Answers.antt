use Rattle.lie_weight.proofs.OneAnswers.{one_tensor_answer}
use Rattle.lie_weight.proofs.laws.one_tensor_answer.Goals as goal

pub returns : goal.returns
returns c = one_tensor_answer
