use Rattle.lie_orbit.proofs.OneOrbit.{one_list}
use Rattle.lie_orbit.proofs.laws.orbits_are_one_list.Goals as goal

pub returns : goal.returns
returns c = one_list
