use Rattle.lie_audit.proofs.WeylWeightsLemmas.{weyl_moves_weights}
use Rattle.lie_audit.proofs.laws.weyl_moves_weights.Goals as goal

pub returns : goal.returns
returns c = weyl_moves_weights
