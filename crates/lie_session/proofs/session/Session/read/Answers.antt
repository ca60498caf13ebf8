use Rattle.std.proofs.Common.{subst}
use Rattle.lie_session.specs.Ready.{Ready}
use Rattle.lie_session.specs.State.{State}
use Rattle.lie_session.proofs.StageLemmas.{ready_said}
use Rattle.lie_session.proofs.session.Session.read.Goals as goal

pub obey-requires : goal.obey-requires
obey-requires c =
    subst (λ (s : State). Ready s.stage c.in-Ok.said) c.self.view_is
    (ready_said c.self.inside.stage c.args.line.now c.in_ok-said.field-0 c.in-Ok.said c.in_ok-said.ensures c.in-Ok.is)
