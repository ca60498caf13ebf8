use Rattle.lie_field.proofs.FaultLemmas.{faults_once}
use Rattle.lie_field.proofs.laws.faults_exclude.Goals as goal

pub returns : goal.returns
returns c = faults_once
