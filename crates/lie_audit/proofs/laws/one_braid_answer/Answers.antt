use Rattle.lie_audit.proofs.AnswerLemmas.{one_braid}
use Rattle.lie_audit.proofs.laws.one_braid_answer.Goals as goal

pub returns : goal.returns
returns c = one_braid
