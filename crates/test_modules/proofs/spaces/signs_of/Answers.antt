use Rattle.std.proofs.lemmas.Result.{IfOk-weaker}
use Rattle.lie_const.specs.Signs.{IsSignTable}
use Rattle.lie_audit.specs.SignAnswers.{AreTestedSigns}
use Rattle.test_modules.proofs.SpaceLemmas.{tested_table}
use Rattle.test_modules.proofs.spaces.signs_of.Goals as goal

pub signs-requires : goal.signs-requires
signs-requires c = c.requires

pub returns : goal.returns
returns c = IfOk-weaker c.signs.result (AreTestedSigns c.args.datum.now c.args.space.now) (IsSignTable c.args.datum.now) (tested_table c.args.datum.now c.args.space.now) c.signs.ensures.ok
