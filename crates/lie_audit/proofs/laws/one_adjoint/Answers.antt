use Rattle.lie_audit.proofs.OneAdjointLemmas.{one_adjoint}
use Rattle.lie_audit.proofs.laws.one_adjoint.Goals as goal

pub returns : goal.returns
returns c = λ d v w loaded p q. one_adjoint d loaded v w p q
