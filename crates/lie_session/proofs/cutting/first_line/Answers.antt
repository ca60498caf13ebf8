use Rattle.std.proofs.Common.{◌+◌, ◌-◌, ◌∷◌, [], length, take, drop, sym, ap, ◌∙◌}
use Rattle.lie_session.specs.Lines.{lines_of}
use Rattle.lie_session.proofs.FirstLine.{lines-first, lines-rest}
use Rattle.lie_session.proofs.cutting.first_line.Goals as goal

pub returns-in-Some-clause-lines : goal.returns-in-Some-clause-lines
returns-in-Some-clause-lines c =
    let bytes = c.args.script.now in
    let end = c.in-Some.end in
    lines-first bytes end (sym c.line_feed.ensures ∙ c.in-Some.is)
    ∙ ap (λ z. z ∷ lines_of (take (length bytes - (end + 1)) (drop (end + 1) bytes))) (sym c.trimmed.ensures)

pub returns-in-None-clause-lines : goal.returns-in-None-clause-lines
returns-in-None-clause-lines c =
    lines-rest c.args.script.now (sym c.line_feed.ensures ∙ c.in-None.is) c.requires ∙ ap (λ z. z ∷ []) (sym c.trimmed-in-None.ensures)
