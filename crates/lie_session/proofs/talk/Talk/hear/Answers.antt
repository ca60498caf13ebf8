use Rattle.std.proofs.Common.{rules, arith, ◌≡◌, true, false, [], ◌∷◌, ◌+◌, List, ℕ, ◌++◌, refl, sym, ap, ◌∙◌, subst, append_assoc, append-nil}
use Rattle.std.proofs.lemmas.List.{take_rest}
use Rattle.lie_session.specs.Output.{rests}
use Rattle.lie_session.specs.Runs.{GrewBy, BeginsWholeLines}
use Rattle.lie_session.specs.Steps.{Progress, StopCounts}
use Rattle.lie_session.specs.Lines.{without_cr}
use Rattle.lie_session.proofs.ProgressLemmas.{progress_part, progress_rests, progress_line, stop_line, stop_counts, behind_line, behind_shorter, seen_line}
use Rattle.lie_session.proofs.talk.Talk.hear.Goals as goal

pub lines-init : goal.lines-init
lines-init g c =
    ([], refl, λ seen old p. subst (λ (z : List ℕ). Progress c.args.mode z c.args.self.now old (g.K.Sink.written c.args.sink.now)) (sym (append-nil seen)) p, refl, omega arith)

pub returns-in-Part : goal.returns-in-Part
returns-in-Part g c =
    let i = c.lines.invariant in
    let f = c.in-Part.ensures in
    let now = g.K.Sink.written c.lines.sink in (
      λ seen old p.
          subst (λ (z : List ℕ). Progress c.args.mode z (record { session = c.lines.self.session; lines = c.feed.new.self; number = c.lines.self.number }) old now)
          (append_assoc seen i.0 f.0 ∙ ap (λ z. seen ++ z) (ap (λ z. i.0 ++ z) (sym f.1.0) ∙ sym i.1))
          (progress_part c.args.mode (seen ++ i.0) f.0 c.lines.self c.feed.new.self old now (i.2 seen old p) f.1.1 f.2),
      i.3,
    )

pub returns-in-Err : goal.returns-in-Err
returns-in-Err g c =
    let i = c.lines.invariant in
    let f = c.in-Line.ensures in
    let live : rests c.args.mode c.lines.self.session ≡ false = search rules in
    let now = g.K.Sink.written c.lines.sink in
    let new = g.K.Sink.written c.reply.new.sink in (
      λ seen old p.
          subst (λ (z : List ℕ). GrewBy old new (BeginsWholeLines c.args.mode z)) (seen_line seen i.0 c.args.piece.now c.lines.rest.now f.0 f.1.0 i.1 f.1.1)
          (stop_line c.args.mode (seen ++ i.0) f.0 f.1.0 c.lines.self c.feed.new.self old now (i.2 seen old p) live f.1.2 f.2 c.reply.new.self.session new _ _ c.in-Err.stop c.in-Err.ensures.answered),
      subst (λ (k : ℕ). StopCounts k (g.K.Sink.faults c.reply.new.sink) c.in-Err.stop) i.3
          (stop_counts c.lines.self.session (c.lines.self.number + 1) (without_cr c.feed.new.self) c.reply.new.self.session now new _ _ c.in-Err.stop c.in-Err.ensures.answered),
    )

pub lines-preserved : goal.lines-preserved
lines-preserved g c =
    let i = c.lines.invariant in
    let f = c.in-Line.ensures in
    let a = c.in_default.ensures.answered in
    let live : rests c.args.mode c.lines.self.session ≡ false = search rules in
    let now = g.K.Sink.written c.lines.sink in
    let new = g.K.Sink.written c.reply.new.sink in
    let line = f.0 ++ 10 ∷ [] in
    let next = take_rest c.lines.rest.now c.in-Line.count in (
      i.0 ++ line,
      behind_line c.args.piece.now i.0 c.lines.rest.now _ f.0 f.1.0 c.in-Line.count i.1 f.1.1 f.1.3 next,
      λ seen old p.
          subst (λ (z : List ℕ). Progress c.args.mode z c.reply.new.self old new) (append_assoc seen i.0 line)
          (progress_line c.args.mode (seen ++ i.0) f.0 c.lines.self c.feed.new.self old now (i.2 seen old p) live f.1.2 f.2 a.0 c.reply.new.self new a.1 c.reply.ensures.number c.reply.ensures.lines a.2),
      a.3 ∙ i.3,
      omega (arith, i.4, c.reply.ensures.number, behind_shorter c.lines.rest.now _ f.0 f.1.0 c.in-Line.count f.1.1 f.1.3 next),
    )

pub returns : goal.returns
returns g c =
    let i = c.lines.invariant in
    let over : rests c.args.mode c.lines.self.session ≡ true = search rules in
    let now = g.K.Sink.written c.lines.sink in (
      λ seen old p.
          subst (λ (z : List ℕ). Progress c.args.mode z c.lines.self old now) (append_assoc seen i.0 c.lines.rest.now ∙ ap (λ z. seen ++ z) (sym i.1))
          (progress_rests c.args.mode (seen ++ i.0) c.lines.rest.now c.lines.self old now (i.2 seen old p) over),
      i.3,
    )
