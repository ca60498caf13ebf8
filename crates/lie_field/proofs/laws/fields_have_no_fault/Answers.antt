use Rattle.lie_field.proofs.FaultLemmas.{field_has_no_fault}
use Rattle.lie_field.proofs.laws.fields_have_no_fault.Goals as goal

pub returns : goal.returns
returns c = field_has_no_fault
