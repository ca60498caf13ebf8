use Rattle.std.proofs.lemmas.Result.{IfOk-weaker}
use Rattle.test_reduction.proofs.ModuleLemmas.{reduced_form}
use Rattle.test_reduction.proofs.readings.form_of.Goals as goal

pub returns : goal.returns
returns c = IfOk-weaker c.reduce.result _ _ (λ x has. reduced_form c.args.frame.now c.args.audited.now.module c.args.m.now x has) c.reduce.ensures
