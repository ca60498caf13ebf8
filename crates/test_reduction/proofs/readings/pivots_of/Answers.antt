use Rattle.std.proofs.lemmas.Result.{IfOk-weaker}
use Rattle.test_reduction.proofs.ModuleLemmas.{pivots_element}
use Rattle.test_reduction.proofs.readings.pivots_of.Goals as goal

pub returns : goal.returns
returns c = IfOk-weaker c.pivots.result _ _ (λ w has. pivots_element c.args.frame.now c.args.audited.now.module c.args.m.now w has) c.pivots.ensures
