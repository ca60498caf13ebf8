use Rattle.lie_datum.proofs.LoadedLaws.{height_law_holds}
use Rattle.lie_datum.proofs.laws.height_law.Goals as goal

pub returns : goal.returns
returns c = height_law_holds
