use Rattle.std.proofs.Common.{◌≡◌, length}
use Rattle.std.proofs.lemmas.Result.{IfOk-weaker}
use Rattle.lie_const.specs.Adjoint.{IsAdjointOf}
use Rattle.lie_const.specs.Modules.{IsModule}
use Rattle.test_modules.proofs.SpaceLemmas.{adjoint_module, positive_of}
use Rattle.test_modules.proofs.spaces.adjoint.Goals as goal

pub returns : goal.returns
returns c = record {
  adjoint = c.made_adjoint.ensures;
  space = IfOk-weaker c.made_adjoint.result (IsAdjointOf c.args.datum.now) (IsModule c.args.datum.now) (adjoint_module c.args.datum.now) c.made_adjoint.ensures;
  positive = IfOk-weaker c.made_adjoint.result (IsAdjointOf c.args.datum.now) (λ v. v.positive ≡ length c.args.datum.now.positive) (λ v a. positive_of c.args.datum.now v (adjoint_module c.args.datum.now v a)) c.made_adjoint.ensures;
}
