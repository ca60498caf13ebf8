use Rattle.lie_letters.proofs.CollectingLemmas.{collect_laws}
use Rattle.lie_letters.proofs.laws.collecting_laws.Goals as goal

pub returns : goal.returns
returns c = collect_laws
