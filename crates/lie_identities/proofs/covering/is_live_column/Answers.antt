use Rattle.std.proofs.Common.{◌≡◌, sym, ap, ◌∙◌, rules}
use Rattle.std.proofs.lemmas.Int.{to_z-of_z}
use mir.Val.{SFits}
use mir.Syntax.{w128}
use Rattle.lie_field.specs.Quotient.{of_int}
use Rattle.lie_identities.proofs.CoverLemmas.{dead_more, dead_end}
use Rattle.lie_identities.proofs.covering.is_live_column.Goals as goal

pub loop-row-preserved : goal.loop-row-preserved
loop-row-preserved c =
    let zero : c.number.result ≡ 0 = let f = c.if-number-ne0.false in search rules in
    let fit : SFits w128 c.in-Some.entry.now = search rules in
    dead_more c.args.field.now c.args.matrix.now c.args.col c.loop-row.from c.in-Some.row c.in-Some.entry.now c.loop-row.invariant c.in-Some.ensures.next
    (ap (of_int c.args.field.now.given) (sym (to_z-of_z w128 c.in-Some.entry.now fit)) ∙ sym c.integer.ensures.value ∙ sym c.number.ensures ∙ zero)

pub returns : goal.returns
returns c = (λ f. absurd (cc), λ h. absurd (dead_end c.args.field.now c.args.matrix.now c.args.col c.loop-row.from c.loop-row.invariant c.in_default.ensures.next h))
