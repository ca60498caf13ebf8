use Rattle.lie_weight.proofs.OneOrbitAnswer.{one_answer}
use Rattle.lie_weight.proofs.laws.one_orbit_answer.Goals as goal

pub returns : goal.returns
returns c = one_answer
