use Rattle.std.proofs.Common.{◌∙◌, map, ap, sym, subst}
use Rattle.std.specs.Prelude.{MatchOption}
use Rattle.lie_datum.proofs.ListingLemmas.{ok_map}
use Rattle.lie_weyl.proofs.Words.{is_word}
use Rattle.lie_letters.specs.declared.letter.Letter.TheVariants.{N}
use Rattle.lie_letters.specs.SignedFrames.{unsigned}
use Rattle.lie_letters.specs.Spelled.{IsWordOver}
use Rattle.lie_weyl.specs.WeylElement.{IsLeastWord}
use Rattle.lie_reduce.specs.FormReading.{HasNoForm, ArePartsAlong, IsNoForms, IsWordOfParts, HasNoFormOf, IsWordRead}
use Rattle.lie_reduce.proofs.CoefficientLemmas.{covering_for}
use Rattle.lie_reduce.proofs.PivotImages.{match_both}
use Rattle.lie_reduce.proofs.ReversedWords.{weyl-over}
use Rattle.lie_reduce.proofs.FormReadingLemmas.{word-read, none-read, none-parts}
use Rattle.lie_reduce.proofs.reduction.word_read.Goals as goal

pub parts_along-requires-clause-turn : goal.parts_along-requires-clause-turn
parts_along-requires-clause-turn c =
    let f = c.args.frame.now in
    let p = c.in_ok-least.least.items in
    let least = subst (λ z. IsLeastWord z.datum p c.args.w.now) c.frame.view_is c.in_ok-least.ensures in
    subst (IsWordOver (unsigned f)) (sym (c.in_ok-turn.ensures ∙ ap (map N) c.deref.ensures.value)) (weyl-over f c.lawful.ensures.lawful.loaded p (is_word f.datum.base p least.spells.letters))

pub word_of_parts-requires-clause-turn : goal.word_of_parts-requires-clause-turn
word_of_parts-requires-clause-turn c =
    let f = c.args.frame.now in
    let p = c.in_ok-least.least.items in
    let least = subst (λ z. IsLeastWord z.datum p c.args.w.now) c.frame.view_is c.in_ok-least.ensures in
    subst (IsWordOver (unsigned f)) (sym (c.in_ok-turn.ensures ∙ ap (map N) c.deref.ensures.value)) (weyl-over f c.lawful.ensures.lawful.loaded p (is_word f.datum.base p least.spells.letters))

pub returns-in-Some : goal.returns-in-Some
returns-in-Some c =
    let f = c.args.frame.now in
    let a = c.args.audited.now in
    let v = a.module in
    let M = c.args.m.now in
    let weyl = c.args.w.now in
    let turn = c.in_ok-turn.turn in
    let p = c.in_ok-least.least.items in
    let U = c.in-Some.u in
    let D = c.in-Some.d in
    let V = c.in-Some.v in
    let ground = covering_for f a c.lawful.ensures c.module.ensures.audited c.requires.covers in
    let least = subst (λ z. IsLeastWord z.datum p weyl) c.frame.view_is c.in_ok-least.ensures in
    let along = c.in_ok-turn.ensures ∙ ap (map N) c.deref.ensures.value in
    let found = subst (λ s. MatchOption c.in_ok-u.field-0 (HasNoForm f s M turn) (λ t. ArePartsAlong f s M turn t.0 t.1 t.2)) c.module.ensures.value c.in_ok-u.ensures in
    let parts = subst (λ z. MatchOption z (HasNoForm f v M turn) (λ t. ArePartsAlong f v M turn t.0 t.1 t.2)) c.in-Some.is found in
    ok_map (λ o. MatchOption o (IsNoForms f v U D V) (IsWordOfParts f v turn U D V)) (λ o. MatchOption o (HasNoFormOf f v M weyl) (IsWordRead f v M weyl))
    (λ o h. match_both o (IsNoForms f v U D V) (HasNoFormOf f v M weyl) (IsWordOfParts f v turn U D V) (IsWordRead f v M weyl)
    (λ none. none-parts f v ground M weyl turn p (least.spells, least.shortest) along U D V parts none)
    (λ w k. word-read f v ground M weyl turn p (least.spells, least.shortest) along U D V parts w k) h)
    c.word_of_parts.result c.word_of_parts.ensures

pub returns : goal.returns
returns c =
    let f = c.args.frame.now in
    let a = c.args.audited.now in
    let v = a.module in
    let M = c.args.m.now in
    let weyl = c.args.w.now in
    let turn = c.in_ok-turn.turn in
    let p = c.in_ok-least.least.items in
    let ground = covering_for f a c.lawful.ensures c.module.ensures.audited c.requires.covers in
    let least = subst (λ z. IsLeastWord z.datum p weyl) c.frame.view_is c.in_ok-least.ensures in
    let found = subst (λ s. MatchOption c.in_ok-u.field-0 (HasNoForm f s M turn) (λ t. ArePartsAlong f s M turn t.0 t.1 t.2)) c.module.ensures.value c.in_ok-u.ensures in
    let none = subst (λ z. MatchOption z (HasNoForm f v M turn) (λ t. ArePartsAlong f v M turn t.0 t.1 t.2)) c.in-None.is found in
    none-read f v ground M weyl turn p (least.spells, least.shortest) (c.in_ok-turn.ensures ∙ ap (map N) c.deref.ensures.value) none
