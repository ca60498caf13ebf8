use Rattle.std.proofs.Common.{◌≡◌, ◌++◌, ◌∷◌, length, map, sym, subst}
use Rattle.std.specs.Prelude.{nat_lt}
use Rattle.lie_field.specs.FieldRing.{field_ring}
use Rattle.lie_letters.specs.PositiveTerms.{positive_terms}
use Rattle.lie_letters.specs.RingLetters.{full_word}
use Rattle.lie_unip.specs.Collection.{AreEntries, IsCollected}
use Rattle.lie_unip.specs.Forms.{IsForm, IsFormOf}
use Rattle.lie_unip.specs.PositiveLetters.{by_place}
use Rattle.lie_unip.specs.Splitting.{kept_by}
use Rattle.lie_letters.specs.declared.letter.Letter.TheVariants.{H, N}
use Rattle.lie_letters.specs.GroupSpelled.{JoinedInGroup}
use Rattle.lie_letters.specs.Spelled.{root_letters}
use Rattle.lie_weyl.specs.WeylElement.{Spells, word_length}
use Rattle.lie_bruhat.specs.Products.{ZeroElsewhere}
use Rattle.lie_bruhat.proofs.ListLemmas.{letters, first_elsewhere}
use Rattle.lie_bruhat.proofs.SettledLemmas.{settled_form, cut_form, IsCut}
use Rattle.lie_bruhat.proofs.product.settled.Goals as goal

pub moved_letters-requires-clause-zeros : goal.moved_letters-requires-clause-zeros
moved_letters-requires-clause-zeros c =
    let f = c.args.frame.now in
    let p = c.in_ok-word.word.items in
    let cut = subst (λ z. IsCut z c.args.w c.args.y.now c.in_ok-kept.kept c.in_ok-kept.v) c.frame.view_is c.in_ok-kept.ensures.split in
    let word : Spells f.datum p c.args.w = subst (λ z. Spells z.datum p c.args.w) c.frame.view_is c.in_ok-word.ensures.spells in
    subst (λ w. ZeroElsewhere (kept_by f.datum w) c.in_ok-kept.kept) (sym c.deref.ensures.value) (first_elsewhere f c.lawful.ensures (kept_by f.datum p) c.args.y.now c.in_ok-kept.kept c.in_ok-kept.v (cut p word))

pub new-requires : goal.new-requires
new-requires c =
    let f = c.args.frame.now in
    cut_form f c.lawful.ensures c.in_ok-u.u c.args.h c.in_ok-kept.kept c.in_ok-kept.v c.args.y.now c.args.w
    (subst (λ z. AreEntries (field_ring z.field) (length z.datum.positive) c.in_ok-u.u) c.frame.view_is c.in_ok-u.ensures.entries) c.requires.units c.requires.long c.requires.element
    (subst (λ z. AreEntries (field_ring z.field) (length z.datum.positive) c.in_ok-kept.v) c.frame.view_is c.in_ok-kept.ensures.second)
    (subst (λ z. IsCut z c.args.w c.args.y.now c.in_ok-kept.kept c.in_ok-kept.v) c.frame.view_is c.in_ok-kept.ensures.split)

form : (c : goal.After-drop-kept-inside-2) → IsForm c.args.frame.now (record { first = c.in_ok-u.u; torus = c.args.h; weyl = c.args.w; second = c.in_ok-kept.v })
form c =
    let f = c.args.frame.now in
    cut_form f c.lawful.ensures c.in_ok-u.u c.args.h c.in_ok-kept.kept c.in_ok-kept.v c.args.y.now c.args.w
    (subst (λ z. AreEntries (field_ring z.field) (length z.datum.positive) c.in_ok-u.u) c.frame.view_is c.in_ok-u.ensures.entries) c.requires.units c.requires.long c.requires.element
    (subst (λ z. AreEntries (field_ring z.field) (length z.datum.positive) c.in_ok-kept.v) c.frame.view_is c.in_ok-kept.ensures.second)
    (subst (λ z. IsCut z c.args.w c.args.y.now c.in_ok-kept.kept c.in_ok-kept.v) c.frame.view_is c.in_ok-kept.ensures.split)

pub returns-clause-form : goal.returns-clause-form
returns-clause-form c = subst (IsForm c.args.frame.now) (sym c.new.ensures) (form c)

pub returns-clause-joined : goal.returns-clause-joined
returns-clause-joined c = λ z stands.
    let f = c.args.frame.now in
    let p = c.in_ok-word.word.items in
    let kept = c.in_ok-kept.kept in
    let v = c.in_ok-kept.v in
    let front = c.in_ok-front.front.items in
    let cut = subst (λ g. IsCut g c.args.w c.args.y.now kept v) c.frame.view_is c.in_ok-kept.ensures.split in
    let least = c.in_ok-word.ensures in
    let word : Spells f.datum p c.args.w = subst (λ g. Spells g.datum p c.args.w) c.frame.view_is least.spells in
    let short : length p ≡ word_length f.datum p = subst (λ g. length p ≡ word_length g.datum p) c.frame.view_is least.shortest in
    let entries = subst (λ g. AreEntries (field_ring g.field) (length g.datum.positive) kept) c.frame.view_is c.in_ok-kept.ensures.first in
    let moved = subst (λ w. JoinedInGroup f (H c.args.h ∷ (map N w ++ letters kept)) (root_letters (by_place front) ++ H c.args.h ∷ map N w)) c.deref.ensures.value c.in_ok-front.ensures.joined in
    let collected = subst (λ w. IsCollected (field_ring f.field) (positive_terms f.constants) nat_lt (length f.datum.positive) (full_word c.args.u.now ++ by_place w) c.in_ok-u.u) c.deref-2.ensures.value
    (subst (λ g. IsCollected (field_ring g.field) (positive_terms g.constants) nat_lt (length g.datum.positive) (full_word c.args.u.now ++ by_place c.deref-2.result.now) c.in_ok-u.u) c.frame.view_is c.in_ok-u.ensures.collected) in
    subst (λ x. IsFormOf f x z) (sym c.new.ensures)
    (settled_form f c.lawful.ensures c.args.u.now c.in_ok-u.u c.args.h kept v c.args.y.now c.args.w p front z (form c) c.requires.first entries c.requires.second
    (word, short) (cut p word) c.in_ok-front.ensures.positive moved collected stands)
