use Rattle.lie_weight.proofs.OneTableAnswer.{one_answer}
use Rattle.lie_weight.proofs.laws.one_table_answer.Goals as goal

pub returns : goal.returns
returns c = one_answer
