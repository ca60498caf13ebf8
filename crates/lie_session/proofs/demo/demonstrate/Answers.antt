use Rattle.std.proofs.Common.{List, ℕ, Err, sym, subst}
use Rattle.lie_session.specs.Steps.{PushOutcome, Demonstrated}
use Rattle.lie_session.specs.declared.status.Status.{Status}
use Rattle.lie_session.proofs.DemoLemmas.{demo_stopped}
use Rattle.lie_session.proofs.demo.demonstrate.Goals as goal

pub returns-in-Ok : goal.returns-in-Ok
returns-in-Ok g c =
    let old = g.K.Sink.written c.args.sink.now in
    let new = g.K.Sink.written c.write_all.new.sink in
    let before = g.K.Sink.faults c.args.sink.now in
    let later = g.K.Sink.faults c.write_all.new.sink in
    let stop = c.in-Err-write_all.stop in
    subst (λ (status : Status). Demonstrated c.args.n old new before later status) (sym c.stopped.ensures)
    (demo_stopped c.args.n old new before later c.in-Ok.text.items c.in-Ok.status stop c.in-Ok.ensures
    (subst (λ (bytes : List ℕ). PushOutcome old before bytes (Err stop) new later) c.deref.ensures.value c.in-Err-write_all.ensures))
