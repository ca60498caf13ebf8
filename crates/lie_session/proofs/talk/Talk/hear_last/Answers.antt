use Rattle.std.proofs.Common.{◌≡◌, false, refl, inl, inr, sym, ◌∙◌, rules}
use Rattle.std.proofs.lemmas.Bool.{cases_Bool}
use Rattle.lie_session.specs.Output.{rests}
use Rattle.lie_session.proofs.ProgressLemmas.{heard_last, all_rested, all_whole}
use Rattle.lie_session.proofs.ToldLemmas.{none-from, some-from}
use Rattle.lie_session.proofs.talk.Talk.hear_last.Goals as goal
use Rattle.lie_session.proofs.talk.Talk.hear_last.Goals.{else-waiting-via-then-waiting+else-not-rests, else-waiting-via-else-waiting}

pub returns-then-not-rests : goal.returns-then-not-rests
returns-then-not-rests g c =
    let live : rests c.args.mode c.args.self.now.session ≡ false = search rules in
    heard_last c.args.mode c.args.self.now c.reply.new.self (g.K.Sink.written c.args.sink.now) (g.K.Sink.written c.reply.new.sink) _ _ c.reply.result live
    (some-from c.waiting.result c.args.self.now.lines c.waiting.ensures c.if-waiting.true) c.reply.ensures.answered c.reply.ensures.number

pub returns : goal.returns
returns g c =
    elim c.else-waiting.branch [
      | else-waiting-via-then-waiting+else-not-rests w ↦
          (λ seen old p. all_rested c.args.mode seen c.args.self.now old (g.K.Sink.written c.args.sink.now) p (sym w.rests.ensures ∙ w.if-not-rests.false), refl)
      | else-waiting-via-else-waiting w ↦ (
        λ seen old p. elim (cases_Bool (rests c.args.mode c.args.self.now.session)) [
          | inl over ↦ all_rested c.args.mode seen c.args.self.now old (g.K.Sink.written c.args.sink.now) p over
          | inr live ↦ all_whole c.args.mode seen c.args.self.now old (g.K.Sink.written c.args.sink.now) p live
              (none-from c.waiting.result c.args.self.now.lines c.waiting.ensures w.if-waiting.false)
        ],
        refl,
      )
    ]
