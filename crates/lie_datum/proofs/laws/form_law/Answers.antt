use Rattle.lie_datum.proofs.LoadedLaws.{first}
use Rattle.lie_datum.proofs.laws.form_law.Goals as goal

pub returns : goal.returns
returns c = first
