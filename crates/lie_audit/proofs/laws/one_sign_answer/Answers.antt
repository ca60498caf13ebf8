use Rattle.lie_audit.proofs.AnswerLemmas.{one_sign}
use Rattle.lie_audit.proofs.laws.one_sign_answer.Goals as goal

pub returns : goal.returns
returns c = one_sign
