use Rattle.lie_audit.proofs.EqualMatricesLemmas.{equal_matrices}
use Rattle.lie_audit.proofs.laws.equal_matrices.Goals as goal

pub returns : goal.returns
returns c = equal_matrices
