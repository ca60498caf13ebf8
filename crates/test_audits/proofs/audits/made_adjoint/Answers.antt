use Rattle.test_audits.proofs.ModuleLemmas.{adjoint_of}
use Rattle.test_audits.proofs.audits.made_adjoint.Goals as goal

pub adjoint-requires : goal.adjoint-requires
adjoint-requires c = c.in_ok-consts.ensures

pub returns : goal.returns
returns c = adjoint_of _ _ _ c.in_ok-consts.ensures c.in_ok-adjoint.ensures
