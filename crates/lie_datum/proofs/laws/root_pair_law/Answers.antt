use Rattle.lie_datum.proofs.LoadedLaws.{second}
use Rattle.lie_datum.proofs.laws.root_pair_law.Goals as goal

pub returns : goal.returns
returns c = second
