use Rattle.lie_audit.proofs.OneAdjointLemmas.{one_sign_table}
use Rattle.lie_audit.proofs.laws.one_sign_table.Goals as goal

pub returns : goal.returns
returns c = one_sign_table
