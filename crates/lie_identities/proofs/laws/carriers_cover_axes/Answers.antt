use Rattle.lie_identities.proofs.CoveredAxes.{cover_axes}
use Rattle.lie_identities.proofs.laws.carriers_cover_axes.Goals as goal

pub returns : goal.returns
returns c = cover_axes
