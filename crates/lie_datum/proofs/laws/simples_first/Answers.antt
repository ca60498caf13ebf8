use Rattle.lie_datum.proofs.SimplesFirst.{simples_first_holds}
use Rattle.lie_datum.proofs.laws.simples_first.Goals as goal

pub returns : goal.returns
returns c = simples_first_holds
