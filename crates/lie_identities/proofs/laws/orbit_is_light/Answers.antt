use Rattle.lie_identities.proofs.WeightBounds.{orbit_is_light}
use Rattle.lie_identities.proofs.laws.orbit_is_light.Goals as goal

pub returns : goal.returns
returns c = orbit_is_light
