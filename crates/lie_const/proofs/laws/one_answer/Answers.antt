use Rattle.lie_const.proofs.OneAnswer.{loads_one_way}
use Rattle.lie_const.proofs.laws.one_answer.Goals as goal

pub returns : goal.returns
returns c = loads_one_way
