use Rattle.lie_letters.proofs.PositiveRootLemmas.{positive_laws}
use Rattle.lie_letters.proofs.laws.positive_root_laws.Goals as goal

pub returns : goal.returns
returns c = positive_laws
