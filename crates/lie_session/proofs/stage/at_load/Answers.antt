use Rattle.std.proofs.Common.{subst}
use Rattle.lie_session.specs.Ready.{Ready}
use Rattle.lie_session.specs.declared.stage.Stage.TheVariants as stage
use Rattle.lie_session.proofs.stage.at_load.Goals as goal

pub collect-requires : goal.collect-requires
collect-requires c = subst (Ready (stage.Load c.args.setting)) c.in-Collect.is c.requires
