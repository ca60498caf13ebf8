use Rattle.lie_orbit.proofs.LowersOnce.{lowers_once}
use Rattle.lie_orbit.proofs.laws.lowers_one_way.Goals as goal

pub returns : goal.returns
returns c = lowers_once
