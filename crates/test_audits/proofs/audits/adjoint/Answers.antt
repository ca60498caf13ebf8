use Rattle.std.proofs.lemmas.Result.{IfOk-weaker}
use Rattle.lie_const.specs.Adjoint.{IsAdjointOf}
use Rattle.lie_const.specs.Modules.{IsModule}
use Rattle.lie_identities.specs.Audit.{HasLightWeights}
use Rattle.test_audits.proofs.ModuleLemmas.{adjoint_module, adjoint_light}
use Rattle.test_audits.proofs.audits.adjoint.Goals as goal

pub returns : goal.returns
returns c = record {
  adjoint = c.made_adjoint.ensures;
  shape = IfOk-weaker c.made_adjoint.result (IsAdjointOf c.args.datum.now) (IsModule c.args.datum.now) (adjoint_module c.args.datum.now) c.made_adjoint.ensures;
  light = IfOk-weaker c.made_adjoint.result (IsAdjointOf c.args.datum.now) HasLightWeights (λ v a. adjoint_light c.args.datum.now v c.loaded.ensures a) c.made_adjoint.ensures;
}
