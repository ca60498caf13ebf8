use Rattle.lie_identities.proofs.OneAnswer.{one_audit_answer}
use Rattle.lie_identities.proofs.laws.one_audit_answer.Goals as goal

pub returns : goal.returns
returns c = one_audit_answer
