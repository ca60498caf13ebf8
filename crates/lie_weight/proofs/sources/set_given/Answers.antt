use Rattle.std.proofs.Common.{◌≡◌, ◌-◌, ◌∙◌, ◌∷◌, pos, refl, sym, ap, inl, inr, List, rules, lit<}
use Rattle.std.proofs.lemmas.Int.{to_z-of_z}
use mir.Val.{of_z, to_z, SFits}
use mir.Syntax.{w32, w128}
use Rattle.lie_ring.specs.Matrices.{with_entry}
use Rattle.lie_datum.proofs.VectorLemmas.{plain}
use Rattle.lie_weight.specs.Tables.{given_matrix}
use Rattle.lie_weight.specs.declared.entry.Entry.{Entry as DefinedEntry}
use Rattle.lie_weight.proofs.GivenLemmas.{given_written, given_passed, on_map}
use Rattle.lie_weight.proofs.sources.set_given.Goals as goal
use Rattle.lie_weight.proofs.sources.set_given.Goals.{else-entry-number-via-then-entry-number+else-entry-power, else-entry-number-via-else-entry-number}

pub returns-then-entry-power-clause-given : goal.returns-then-entry-power-clause-given
returns-then-entry-power-clause-given c =
    let M = c.args.matrix.now in
    let e = c.args.entry.now in
    let r = c.args.root in
    let k = c.args.power in
    let f : SFits w32 e.simple = search rules in
    let g : SFits w32 c.number.result = search rules in
    let same : e.simple ≡ c.number.result = sym (to_z-of_z w32 e.simple f) ∙ ap (to_z w32) c.if-entry-number.true ∙ to_z-of_z w32 c.number.result g in
    let plain_value : to_z w128 (of_z w128 e.value) ≡ e.value = plain e.value 100 c.requires.small (lit< tt) in
    on_map (c.set.new.self ≡ with_entry (pos 0) M (e.row - 1) (e.col - 1) (to_z w128 (of_z w128 e.value))) ((es : List DefinedEntry) → M ≡ given_matrix M.height es r k → c.set.new.self ≡ given_matrix M.height (e ∷ es) r k)
    (λ is es m. is ∙ ap (with_entry (pos 0) M (e.row - 1) (e.col - 1)) plain_value ∙ given_written M.height es e r k M m refl c.requires.square (same ∙ c.number.ensures) c.if-entry-power.true c.requires.row.0 c.requires.col.0)
    c.set.result c.set.ensures.ok

pub returns-else-entry-number-clause-given : goal.returns-else-entry-number-clause-given
returns-else-entry-number-clause-given c es e =
    e ∙ given_passed c.args.matrix.now.height es c.args.entry.now c.args.root c.args.power
    (elim c.else-entry-number.branch [
      | else-entry-number-via-then-entry-number+else-entry-power w ↦ inr w.if-entry-power.false
      | else-entry-number-via-else-entry-number w ↦ inl (λ h. w.if-entry-number.false (ap (of_z w32) (h ∙ sym c.number.ensures)))
    ])
