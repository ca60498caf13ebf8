use Rattle.std.proofs.Common.{sym, ◌∙◌}
use Rattle.std.specs.Cmp.Lexicographic.{bytes_decides}
use Rattle.lie_unip.proofs.form.same_entries.Goals as goal

pub returns : goal.returns
returns c =
    let decides = bytes_decides c.args.a.now c.args.b.now in
    (λ yes. decides.0 (sym c.eq.ensures ∙ yes), λ same. c.eq.ensures ∙ decides.1 same)
