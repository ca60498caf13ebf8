use Rattle.test_modules.proofs.SpaceLemmas.{adjoint_of}
use Rattle.test_modules.proofs.spaces.made_adjoint.Goals as goal

pub adjoint-requires : goal.adjoint-requires
adjoint-requires c = c.in_ok-consts.ensures

pub returns : goal.returns
returns c = adjoint_of _ _ _ c.in_ok-consts.ensures c.in_ok-adjoint.ensures
