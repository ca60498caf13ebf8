use Rattle.lie_letters.proofs.RootSystemLemmas.{root_laws}
use Rattle.lie_letters.proofs.laws.root_system_laws.Goals as goal

pub returns : goal.returns
returns c = root_laws
