use Rattle.std.proofs.Common.{◌++◌, ◌∷◌, [], length, subst, ◌∙◌}
use Rattle.std.specs.Prelude.{nat_abs, nat_lt}
use Rattle.lie_field.specs.FieldRing.{field_ring}
use Rattle.lie_letters.specs.PositiveTerms.{positive_terms}
use Rattle.lie_letters.specs.RingLetters.{full_word}
use Rattle.lie_unip.specs.Collection.{IsCollected}
use Rattle.lie_bruhat.proofs.ListLemmas.{letter_behind}
use Rattle.lie_bruhat.proofs.SettledLemmas.{settled_times, settled_parts}
use Rattle.lie_letters.specs.declared.letter.Letter.TheVariants.{X}
use Rattle.lie_bruhat.proofs.product.times_positive.Goals as goal

pub returns-clause-times : goal.returns-clause-times
returns-clause-times c =
    let f = c.args.frame.now in
    let x = c.args.f.now in
    let r = c.args.x.r in
    let a = c.args.x.a in
    let y = c.in_ok-y.y in
    let collected = subst (λ v. IsCollected (field_ring f.field) (positive_terms f.constants) nat_lt (length f.datum.positive) (full_word v ++ (nat_abs r, a) ∷ []) y) c.v.ensures
    (subst (λ z. IsCollected (field_ring z.field) (positive_terms z.constants) nat_lt (length z.datum.positive) (full_word c.v.result.now ++ (nat_abs r, a) ∷ []) y) c.frame.view_is c.in_ok-y.ensures.collected) in
    settled_times f c.lawful.ensures x y (X r a ∷ []) c.settled.result
    (letter_behind f c.lawful.ensures x.second y r a c.requires.form.second c.requires.root c.requires.positive c.requires.below collected)
    c.settled.ensures.form (settled_parts f c.lawful.ensures x y c.u.result.now c.copied.result c.w.result.now c.settled.result c.u.ensures (c.copied.ensures ∙ c.h.ensures) c.w.ensures c.settled.ensures.joined)
