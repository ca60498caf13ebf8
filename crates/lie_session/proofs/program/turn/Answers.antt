use Rattle.std.proofs.Common.{rules, arith, ◌≡◌, ◌≤◌, ◌+◌, ℕ, List, Ok, Err, length, take, refl, sym, ◌∙◌, subst}
use Rattle.std.proofs.lemmas.List.{length-take-le}
use Rattle.lie_session.specs.Runs.{input_limit}
use Rattle.lie_session.specs.Steps.{Heard, Ran}
use Rattle.lie_session.specs.declared.status.Status.{Status}
use Rattle.lie_session.proofs.InputLemmas.{front-written}
use Rattle.lie_session.proofs.CauseLemmas.{ran_end, ran_fault, ran_passed, ran_stopped}
use Rattle.lie_session.proofs.program.turn.Goals as goal

pub returns-then-taken-eq-LIMIT : goal.returns-then-taken-eq-LIMIT
returns-then-taken-eq-LIMIT g c = λ seen old first p gave long.
    let into = c.pull.new.into in
    let n = c.in-Took.count in
    let now = g.K.Sink.written c.args.sink.now in
    let asked : length into ≡ c.room.result = search rules in
    let limit : c.args.taken ≡ input_limit = c.if-taken-eq-LIMIT.true in
    let one : c.room.result ≡ 1 = c.room.ensures.one (omega (arith, limit)) in
    ran_passed c.args.mode c.args.talk.now c.args.taken n (g.S.Source.left c.args.source.now) (g.S.Source.left c.pull.new.self) now now into _ _ _ _ c.in-Took.ensures.bytes c.in-Took.ensures.some.0
    c.in-Took.ensures.some.1 (asked ∙ one) refl c.in-Took.ensures.counts refl limit seen old first p gave long

pub returns-in-Ok : goal.returns-in-Ok
returns-in-Ok g c =
    let into = c.pull.new.into in
    let n = c.in-Took.count in
    let now = g.K.Sink.written c.args.sink.now in
    let new = g.K.Sink.written c.hear.new.sink in
    let fits : n ≤ length into = c.in-Took.ensures.some.1 in
    let asked : length into ≡ c.room.result = search rules in
    let room : c.args.taken + c.room.result ≤ input_limit = c.room.ensures.limit (omega (arith, c.if-taken-eq-LIMIT.false, c.requires.limit)) in
    let h = subst (λ (z : List ℕ). Heard c.args.mode z c.args.talk.now c.hear.new.self now new (g.K.Sink.faults c.args.sink.now) (g.K.Sink.faults c.hear.new.sink) (Ok tt)) (front-written n into _ fits) c.in-Ok.ensures in
    (take n into, c.in-Took.ensures.bytes, length-take-le n into fits, c.in-Took.ensures.some.0, omega (arith, fits, asked, room), h.0, c.in-Took.ensures.counts, h.1)

pub returns-in-Err : goal.returns-in-Err
returns-in-Err g c = λ seen old first p gave long.
    let into = c.pull.new.into in
    let n = c.in-Took.count in
    let stop = c.in-Err.stop in
    let now = g.K.Sink.written c.args.sink.now in
    let new = g.K.Sink.written c.hear.new.sink in
    let before = g.K.Sink.faults c.args.sink.now in
    let later = g.K.Sink.faults c.hear.new.sink in
    let left = g.S.Source.left c.args.source.now in
    let rest = g.S.Source.left c.pull.new.self in
    let fits : n ≤ length into = c.in-Took.ensures.some.1 in
    let asked : length into ≡ c.room.result = search rules in
    let room : c.args.taken + c.room.result ≤ input_limit = c.room.ensures.limit (omega (arith, c.if-taken-eq-LIMIT.false, c.requires.limit)) in
    let h = subst (λ (z : List ℕ). Heard c.args.mode z c.args.talk.now c.hear.new.self now new before later (Err stop)) (front-written n into _ fits) c.in-Err.ensures in
    subst (λ (status : Status). Ran c.args.mode first rest old new (g.S.Source.faults c.args.source.now) (g.S.Source.faults c.pull.new.self) before later status) (sym c.stopped.ensures)
    (ran_stopped c.args.mode c.args.talk.now c.hear.new.self c.args.taken left rest now new (take n into) _ _ before later stop h c.in-Took.ensures.bytes c.in-Took.ensures.counts
    (omega (arith, fits, asked, room, length-take-le n into fits)) seen old first p gave long)

pub returns-in-End : goal.returns-in-End
returns-in-End g c = λ seen old first p gave long.
    ran_end c.args.mode c.args.talk.now c.args.taken (g.S.Source.left c.args.source.now) (g.S.Source.left c.pull.new.self) (g.K.Sink.written c.args.sink.now) (g.K.Sink.written c.finish.new.sink) _ _ _ _ c.finish.result
    c.finish.ensures c.in-End.ensures.bytes c.in-End.ensures.counts c.requires.limit seen old first p gave long

pub returns-in-Failed : goal.returns-in-Failed
returns-in-Failed g c = λ seen old first p gave long.
    let now = g.K.Sink.written c.args.sink.now in
    ran_fault c.args.mode c.args.talk.now c.args.taken (g.S.Source.left c.args.source.now) (g.S.Source.left c.pull.new.self) now now _ _ _ _ c.in-Failed.ensures.bytes refl c.in-Failed.ensures.counts refl
    c.requires.limit seen old first p gave long
