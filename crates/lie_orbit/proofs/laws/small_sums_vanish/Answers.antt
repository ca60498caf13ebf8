use Rattle.lie_orbit.proofs.SmallSums.{small_sums}
use Rattle.lie_orbit.proofs.laws.small_sums_vanish.Goals as goal

pub returns : goal.returns
returns c = small_sums
