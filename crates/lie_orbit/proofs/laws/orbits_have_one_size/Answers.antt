use Rattle.lie_orbit.proofs.OneOrbit.{sizes_agree}
use Rattle.lie_orbit.proofs.laws.orbits_have_one_size.Goals as goal

pub returns : goal.returns
returns c = sizes_agree
