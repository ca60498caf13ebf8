use Rattle.std.proofs.Common.{arith, ◌≡◌, ◌+◌, ℕ, [], ◌++◌, length, refl, sym, ap, ◌∙◌, subst, length-append}
use Rattle.lie_session.specs.Steps.{Progress, Ran}
use Rattle.lie_session.specs.declared.talk.Talk.{Talk}
use Rattle.lie_session.proofs.CauseLemmas.{after-none}
use Rattle.lie_session.proofs.InputLemmas.{gave-more}
use Rattle.lie_session.proofs.ProgressLemmas.{progress_none}
use Rattle.lie_session.proofs.program.run_in.Goals as goal

pub loop-turn-init : goal.loop-turn-init
loop-turn-init g c =
    let left = g.S.Source.left c.args.source.now in
    let old = g.K.Sink.written c.args.sink.now in
    let none : c.args.talk.now.number ≡ 0 = ap (λ (t : Talk). t.number) c.requires.fresh in (
      [],
      after-none left left refl,
      refl,
      omega arith,
      omega arith,
      omega (arith, none),
      subst (λ (t : Talk). Progress c.args.mode [] t old old) (sym c.requires.fresh) (progress_none c.args.mode old),
      refl,
      refl,
    )

pub loop-turn-preserved : goal.loop-turn-preserved
loop-turn-preserved g c =
    let i = c.loop-turn.invariant in
    let t = c.in-Ok.ensures in
    let long : length (i.0 ++ t.0) ≡ c.loop-turn.taken + c.in-Ok.count = omega (arith, length-append i.0 t.0, i.2, t.2) in
    let p = t.5 i.0 (g.K.Sink.written c.args.sink.now) i.6 in (
      i.0 ++ t.0,
      gave-more (g.S.Source.left c.args.source.now) (g.S.Source.left c.loop-turn.source) (g.S.Source.left c.turn.new.source) i.0 t.0 i.1 t.1,
      long,
      t.4,
      omega (arith, i.4, t.3),
      omega (arith, p.few, long),
      p,
      t.6 ∙ i.7,
      t.7 ∙ i.8,
    )

pub returns-in-Err : goal.returns-in-Err
returns-in-Err g c =
    let i = c.loop-turn.invariant in
    let left = g.S.Source.left c.args.source.now in
    let rest = g.S.Source.left c.turn.new.source in
    let old = g.K.Sink.written c.args.sink.now in
    let new = g.K.Sink.written c.turn.new.sink in
    subst (λ (k : ℕ). Ran c.args.mode left rest old new k (g.S.Source.faults c.turn.new.source) (g.K.Sink.faults c.args.sink.now) (g.K.Sink.faults c.turn.new.sink) c.in-Err.status) i.7
    (subst (λ (k : ℕ). Ran c.args.mode left rest old new (g.S.Source.faults c.loop-turn.source) (g.S.Source.faults c.turn.new.source) k (g.K.Sink.faults c.turn.new.sink) c.in-Err.status) i.8
    (c.in-Err.ensures i.0 old left i.6 i.1 i.2))
