use Rattle.lie_script.proofs.AcceptedLemmas.{accepted-fits}
use Rattle.lie_script.proofs.laws.accepted_lines_fit.Goals as goal

pub returns : goal.returns
returns c = accepted-fits
