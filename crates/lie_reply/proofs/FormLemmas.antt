-- Forms of a lawful frame have small numbers, so their texts tell them, and equal replies mean joined words.
use Rattle.std.proofs.Common.{◌≡◌, ℕ, ◌≤◌, List, [], ◌∷◌, length, sym, subst, ◌∙◌, arith, Result, Ok, Err}
use Rattle.std.specs.Prelude.{codes, IfOk}
use Rattle.std.specs.List.{AllByRecursion}
use Rattle.std.proofs.lemmas.Bool.{ltb-true}
use Rattle.std.proofs.lemmas.List.{append_cancel_right}
use Rattle.std.proofs.lemmas.List.Elements.{recursion_from_All}
use Rattle.lie_ring.specs.Rings.{Fits}
use Rattle.lie_datum.specs.RootDatum.{rank}
use Rattle.lie_datum.specs.RootList.{RootDatum, IsLoaded}
use Rattle.lie_datum.proofs.ListedLemmas.{listed_few}
use Rattle.lie_field.specs.Faults.{IsWithinLimit}
use Rattle.lie_field.specs.FieldRing.{field_ring}
use Rattle.lie_field.specs.FiniteField.{FiniteField}
use Rattle.lie_field.specs.Quotient.{order}
use Rattle.lie_weyl.specs.WeylElement.{IsLeastWord, Spells}
use Rattle.lie_weyl.proofs.ElementLemmas.{one_list}
use Rattle.lie_letters.specs.Entries.{AreUnits}
use Rattle.lie_letters.specs.GroupSpelled.{JoinedInGroup}
use Rattle.lie_letters.specs.SignedFrames.{SignedFrame, IsLawfulSigned}
use Rattle.lie_letters.specs.declared.letter.Letter.{Letter}
use Rattle.lie_letters.proofs.CallerLemmas.{JoinedInGroup-flip, JoinedInGroup-trans}
use Rattle.lie_unip.specs.Forms.{FormData, IsForm, IsFormOf, form_word}
use Rattle.lie_unip.proofs.FormLemmas.{same_form}
use Rattle.lie_script.specs.FormTexts.{form_text}
use Rattle.lie_reply.specs.Commands.{TellsForm, FormTextOf}
use Rattle.lie_reply.specs.Laws.{EqualTextsEqualForms, RepliesTellWords}
use Rattle.lie_reply.proofs.TextLemmas.{IsSmall, IsSmallForm, text_tells}

-- a datum has few positive roots
few_roots : (D : RootDatum) → IsLoaded D → length D.positive ≤ 120
few_roots D loaded =
    let a = loaded.axioms in
    listed_few D.base (record { input = a.input; twos = a.twos; signs = a.signs; zeros = a.zeros }) a.unmixed D.positive loaded.listed a.finite

small_elements : (F : FiniteField) (u : List ℕ) → order F.given ≤ 256 → AllByRecursion (Fits (field_ring F)) u → AllByRecursion IsSmall u
small_elements F [] h e = tt
small_elements F (a ∷ u) h e = let below = ltb-true a (order F.given) e.0.0 in (omega (arith, h, below), small_elements F u h e.1)

small_units : (F : FiniteField) (t : List ℕ) → order F.given ≤ 256 → AreUnits F t → AllByRecursion IsSmall t
small_units F [] h u = tt
small_units F (x ∷ t) h u = (omega (arith, h, u.0.1), small_units F t h u.1)

small_indices : (D : RootDatum) (p : List ℕ) → rank D.base ≤ 8 → AllByRecursion (λ i. (1 ≤ i) × (i ≤ rank D.base)) p → AllByRecursion IsSmall p
small_indices D [] low h = tt
small_indices D (i ∷ p) low h = (omega (arith, low, h.0.1), small_indices D p low h.1)

-- a form of a lawful frame has small numbers, and so has the least word of its Weyl element
small_form : (g : SignedFrame) → IsLawfulSigned g → IsWithinLimit g.field.given → (x : FormData) (p : List ℕ) → IsForm g x → IsLeastWord g.datum p x.weyl → IsSmallForm (length g.datum.positive) g.datum.base.dim x p
small_form g lawful sized x p form least =
    let loaded = lawful.lawful.loaded in
    let few = few_roots g.datum loaded in
    let fit = Fits (field_ring g.field) in
    let low : rank g.datum.base ≤ 8 = (let a = loaded.axioms.input.rank in let b = loaded.axioms.input.dim.1 in omega (arith, a, b)) in
    record {
      few = omega (arith, few);
      first_long = form.first.count;
      first = small_elements g.field x.first sized.q_small (recursion_from_All fit x.first form.first.fit);
      torus_long = sym form.long;
      torus = small_units g.field x.torus sized.q_small form.units;
      word = small_indices g.datum p low (recursion_from_All (λ i. (1 ≤ i) × (i ≤ rank g.datum.base)) p least.spells.letters);
      second_long = form.second.count;
      second = small_elements g.field x.second sized.q_small (recursion_from_All fit x.second form.second.fit);
    }

-- two forms with one text are equal
pub equal_texts_equal_forms : EqualTextsEqualForms
equal_texts_equal_forms g x y text lawful sized a b p q =
    let body : form_text x p.word ≡ form_text y q.word = append_cancel_right (form_text x p.word) (form_text y q.word) (codes "\n") (sym p.is ∙ q.is) in
    let parts = text_tells (length g.datum.positive) g.datum.base.dim x y p.word q.word (small_form g lawful sized x p.word a p.least) (small_form g lawful sized y q.word b q.least) body in
    let word = subst (λ (w : List ℕ). Spells g.datum w y.weyl) (sym parts.2) q.least.spells in
    same_form x y parts.0 parts.1 (one_list g.datum lawful.lawful.loaded p.word x.weyl y.weyl p.least.spells word) parts.3

-- the word of a form, along the least word of its Weyl element, is joined to each word that the form stands for
joined_form : (g : SignedFrame) (x : FormData) (p : List ℕ) (w : List Letter) → IsFormOf g x w → IsLeastWord g.datum p x.weyl → JoinedInGroup g (form_word x p) w
joined_form g x p w stands least = stands.joined p (least.spells, least.shortest)

-- two words with one reply are joined
pub replies_tell_words : RepliesTellWords
replies_tell_words g w v text lawful sized a b =
    let same = equal_texts_equal_forms g a.form b.form text lawful sized a.stands.form b.stands.form a.tells b.tells in
    let p = a.tells.word in
    let other = subst (λ x. IsFormOf g x v) (sym same) b.stands in
    JoinedInGroup-trans g w (form_word a.form p) v (JoinedInGroup-flip g (form_word a.form p) w (joined_form g a.form p w a.stands a.tells.least)) (joined_form g a.form p v other a.tells.least)

-- the reply that has the text of a form of the word, where there is a reply
pub form_told : {E : Type 0} (g : SignedFrame) (w : List Letter) (x : FormData) (result : Result (List ℕ) E) → IsFormOf g x w → IfOk result (TellsForm g.datum x) → IfOk result (FormTextOf g w)
form_told g w x (Ok text) stands tells = record { form = x; stands = stands; tells = tells }
form_told g w x (Err e) stands tells = tt
