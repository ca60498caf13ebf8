use Rattle.lie_identities.proofs.WeightBounds.{carrier_is_light}
use Rattle.lie_identities.proofs.laws.carrier_is_light.Goals as goal

pub returns : goal.returns
returns c = carrier_is_light
