use Rattle.lie_weight.proofs.OneCarrier.{one_answer}
use Rattle.lie_weight.proofs.laws.one_carrier_answer.Goals as goal

pub returns : goal.returns
returns c = one_answer
