use Rattle.std.proofs.Common.{subst}
use Rattle.std.specs.Prelude.{IfOk}
use Rattle.lie_session.specs.Replies.{Does}
use Rattle.lie_session.specs.State.{State}
use Rattle.lie_session.proofs.ChangeLemmas.{refused_for}
use Rattle.lie_session.proofs.session.Session.obey.Goals as goal

pub returns-in-Err : goal.returns-in-Err
returns-in-Err c =
    let s : State = record { stage = c.self.inside.stage; refusals = c.self.inside.refusals; ended = c.self.inside.ended } in
    subst (λ (s : State). IfOk c.refuse_for.result (λ reply. Does s c.args.number c.args.line reply c.refuse_for.new.self)) c.self.view_is
    (refused_for s c.obey.new.self c.args.number c.args.line c.in-Err.fault c.refuse_for.result c.refuse_for.new.self c.in-Err.ensures c.refuse_for.ensures)
