use Rattle.std.proofs.Common.{rules, ◌≡◌, true, false, sym, subst}
use Rattle.lie_session.specs.Output.{rests}
use Rattle.lie_session.specs.Steps.{Finished}
use Rattle.lie_session.specs.declared.status.Status.{Status}
use Rattle.lie_session.proofs.CauseLemmas.{finished_stop, finished_rested, finished_cut, finished_end}
use Rattle.lie_session.proofs.program.finish.Goals as goal

pub returns-in-Err : goal.returns-in-Err
returns-in-Err g c =
    let old = g.K.Sink.written c.args.sink.now in
    let new = g.K.Sink.written c.hear_last.new.sink in
    let before = g.K.Sink.faults c.args.sink.now in
    let later = g.K.Sink.faults c.hear_last.new.sink in
    subst (λ (status : Status). Finished c.args.mode c.args.talk.now old new before later status) (sym c.stopped.ensures)
    (finished_stop c.args.mode c.args.talk.now c.hear_last.new.self old new before later c.in-Err.stop c.in-Err.ensures)

pub returns-then-rests : goal.returns-then-rests
returns-then-rests g c =
    let old = g.K.Sink.written c.args.sink.now in
    let new = g.K.Sink.written c.hear_last.new.sink in
    let before = g.K.Sink.faults c.args.sink.now in
    let later = g.K.Sink.faults c.hear_last.new.sink in
    let over : rests c.args.mode c.hear_last.new.self.session ≡ true = search rules in
    subst (λ (status : Status). Finished c.args.mode c.args.talk.now old new before later status) (sym c.status.ensures)
    (finished_rested c.args.mode c.args.talk.now c.hear_last.new.self old new before later c.in_default.ensures over)

pub returns-in-Err-reply_to_end : goal.returns-in-Err-reply_to_end
returns-in-Err-reply_to_end g c =
    let old = g.K.Sink.written c.args.sink.now in
    let mid = g.K.Sink.written c.hear_last.new.sink in
    let new = g.K.Sink.written c.reply_to_end.new.sink in
    let before = g.K.Sink.faults c.args.sink.now in
    let later = g.K.Sink.faults c.reply_to_end.new.sink in
    let live : rests c.args.mode c.hear_last.new.self.session ≡ false = search rules in
    subst (λ (status : Status). Finished c.args.mode c.args.talk.now old new before later status) (sym c.stopped-in-Err-reply_to_end.ensures)
    (finished_cut c.args.mode c.args.talk.now c.hear_last.new.self old mid new before (g.K.Sink.faults c.hear_last.new.sink) later c.reply_to_end.new.session c.in-Err-reply_to_end.stop
    c.in_default.ensures live c.in-Err-reply_to_end.ensures)

pub returns : goal.returns
returns g c =
    let old = g.K.Sink.written c.args.sink.now in
    let mid = g.K.Sink.written c.hear_last.new.sink in
    let new = g.K.Sink.written c.reply_to_end.new.sink in
    let before = g.K.Sink.faults c.args.sink.now in
    let later = g.K.Sink.faults c.reply_to_end.new.sink in
    let live : rests c.args.mode c.hear_last.new.self.session ≡ false = search rules in
    subst (λ (status : Status). Finished c.args.mode c.args.talk.now old new before later status) (sym c.status-2.ensures)
    (finished_end c.args.mode c.args.talk.now c.hear_last.new.self old mid new before (g.K.Sink.faults c.hear_last.new.sink) later c.reply_to_end.new.session
    c.in_default.ensures live c.in_default-reply_to_end.ensures)
