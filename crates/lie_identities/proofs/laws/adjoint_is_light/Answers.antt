use Rattle.lie_identities.proofs.WeightBounds.{adjoint_is_light}
use Rattle.lie_identities.proofs.laws.adjoint_is_light.Goals as goal

pub returns : goal.returns
returns c = adjoint_is_light
