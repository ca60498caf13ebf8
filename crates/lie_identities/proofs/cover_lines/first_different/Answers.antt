use Rattle.std.proofs.Common.{◌≡◌, sym, ap, ◌∙◌, rules}
use Rattle.lie_datum.specs.Vectors.{Vector, entry}
use Rattle.lie_identities.proofs.CoverSums.{same_more}
use Rattle.lie_identities.proofs.cover_lines.first_different.Goals as goal

pub loop-k-preserved : goal.loop-k-preserved
loop-k-preserved c =
    let n = c.loop-k.k in
    let same : c.combination_entry-value.result ≡ entry c.unit-unit.result n = let f = c.if-value-unit.false in search rules in
    same_more c.args.space.now c.args.axis c.args.c.now n c.loop-k.invariant (sym c.combination_entry-value.ensures ∙ same ∙ ap (λ (w : Vector). entry w n) c.unit-unit.ensures)
