-- In a loaded group each word has one form, so one text, and two words are joined exactly if their forms are equal; constants that say the
-- same change neither.
use Rattle.std.proofs.Common.{◌≡◌, ℕ, List, [], ◌∷◌, refl, sym, ◌∙◌, subst, inl, inr}
use Rattle.lie_audit.specs.WordMatrix.{frame_with, IsLetterFor, IsWordFor}
use Rattle.lie_audit.proofs.EqualMatricesLemmas.{equal_matrices}
use Rattle.lie_const.specs.ConstantTables.{ConstantTable}
use Rattle.lie_datum.specs.RootList.{RootDatum}
use Rattle.lie_field.specs.FiniteField.{FiniteField}
use Rattle.lie_identities.specs.CoverLines.{no_lines}
use Rattle.lie_identities.proofs.LineLemmas.{no_cover_lines}
use Rattle.lie_letters.specs.GroupSpelled.{JoinedInGroup}
use Rattle.lie_letters.specs.SignedFrames.{SignedFrame, unsigned}
use Rattle.lie_letters.specs.Spelled.{IsLetterOver, IsWordOver}
use Rattle.lie_letters.specs.declared.letter.Letter.{Letter}
use Rattle.lie_letters.specs.declared.letter.Letter.TheVariants.{X, H, N, Ninv}
use Rattle.lie_reduce.specs.UniqueForms.{IsCoveringFor}
use Rattle.lie_reduce.proofs.OneForm.{forms_are_unique, some_shortest, covering_modules_are_faithful}
use Rattle.lie_reply.specs.Commands.{TellsForm, FormTextOf}
use Rattle.lie_reply.proofs.OneFormText.{one_form_text}
use Rattle.lie_script.specs.Accepted.{IsWordWithin}
use Rattle.lie_unip.specs.Forms.{FormData, IsForm, IsFormOf, form_word}
use Rattle.lie_session.specs.Asked.{TellsSame}
use Rattle.lie_session.specs.Held.{LoadedGroup}
use Rattle.lie_session.specs.Loaded.{HasGroup}
use Rattle.lie_session.specs.State.{sizes_of}
use Rattle.lie_session.specs.declared.stage.Stage.TheVariants as stage

-- the carrier of a loaded group is covering and audited for its frame
pub covering_for : (g : LoadedGroup) → HasGroup g → IsCoveringFor g.frame g.carrier
covering_for g there = record { lawful = there.frame.lawful; audited = there.audited; lines = no_lines; cover = no_cover_lines g.frame.datum g.carrier; covering = there.covering }

-- a word that was read is one of the group
pub word_read : (g : LoadedGroup) (w : List Letter) → HasGroup g → IsWordWithin (sizes_of (stage.Loaded g)) w → IsWordOver (unsigned g.frame) w
word_read g w there within = within (unsigned g.frame) refl (record { d_is = refl; l_is = refl; m_is = refl }) there.frame.lawful.lawful.loaded

-- a letter of a frame is one whatever the constants
letter_for : (F : FiniteField) (D : RootDatum) (c : ConstantTable) (x : Letter) → IsLetterOver (frame_with F D c) x → IsLetterFor F D x
letter_for F D c (X r a) h e = h
letter_for F D c (H t) h e = h
letter_for F D c (N i) h e = h
letter_for F D c (Ninv i) h e = h

-- and so is a word
word_for : (F : FiniteField) (D : RootDatum) (c : ConstantTable) (w : List Letter) → IsWordOver (frame_with F D c) w → IsWordFor F D w
word_for F D c [] h e = h
word_for F D c (x ∷ w) h e = (letter_for F D c x h.0 e, word_for F D c w h.1 e)

-- the group with other constants
abbrev pub with_constants : LoadedGroup → ConstantTable → LoadedGroup
with_constants g c = record g { frame = record g.frame { constants = c } }

module _ (g : LoadedGroup) (c : ConstantTable) (there : HasGroup g) (here : HasGroup (with_constants g c)) where
  -- what a form is does not speak of the constants
  pub form_for : (y : FormData) → IsForm (with_constants g c).frame y → IsForm g.frame y
  form_for y h = record { first = h.first; units = h.units; long = h.long; element = h.element; second = h.second; zeros = h.zeros }

  -- a word has one form
  one_form : (w : List Letter) (x y : FormData) → IsFormOf g.frame x w → IsFormOf (with_constants g c).frame y w → x ≡ y
  one_form w x y is js =
      let form = form_for y js.form in
      let p = some_shortest g.frame there.frame.lawful x is.form in
      let q = some_shortest g.frame there.frame.lawful y form in
      forms_are_unique g.frame g.carrier (covering_for g there) x y is.form form p.0 q.0 p.1 q.1
      (equal_matrices g.frame g.carrier there.frame.lawful there.audited (form_word x p.0) w (is.joined p.0 p.1)
      ∙ sym (equal_matrices (with_constants g c).frame g.carrier here.frame.lawful here.audited (form_word y q.0) w (js.joined q.0 q.1)))

  -- and one text
  pub one_text : (w : List Letter) (t u : List ℕ) → FormTextOf g.frame w t → FormTextOf (with_constants g c).frame w u → t ≡ u
  one_text w t u x y =
      let same : x.form ≡ y.form = one_form w x.form y.form x.stands y.stands in
      one_form_text g.frame.datum there.frame.lawful.lawful.loaded x.form t u x.tells (subst (λ (z : FormData). TellsForm g.frame.datum z u) (sym same) y.tells)

  -- words are joined for the one where they are joined for the other
  joined_there : (w v : List Letter) → IsWordOver (unsigned g.frame) w → IsWordOver (unsigned g.frame) v → JoinedInGroup (with_constants g c).frame w v → JoinedInGroup g.frame w v
  joined_there w v over_w over_v joined =
      (covering_modules_are_faithful g.frame g.carrier (covering_for g there) w v over_w over_v).1
      (equal_matrices (with_constants g c).frame g.carrier here.frame.lawful here.audited w v joined)

  joined_here : (w v : List Letter) → IsWordOver (unsigned (with_constants g c).frame) w → IsWordOver (unsigned (with_constants g c).frame) v → JoinedInGroup g.frame w v
      → JoinedInGroup (with_constants g c).frame w v
  joined_here w v over_w over_v joined =
      (covering_modules_are_faithful (with_constants g c).frame g.carrier (covering_for (with_constants g c) here) w v over_w over_v).1
      (equal_matrices g.frame g.carrier there.frame.lawful there.audited w v joined)

  -- so `same` has one answer
  pub one_same_text : (w v : List Letter) (t u : List ℕ) → IsWordOver (unsigned g.frame) w → IsWordOver (unsigned g.frame) v → TellsSame g.frame w v t → TellsSame (with_constants g c).frame w v u → t ≡ u
  one_same_text w v t u over_w over_v (inl x) (inl y) = x.1 ∙ sym y.1
  one_same_text w v t u over_w over_v (inl x) (inr y) =
      absurd (y.0 (joined_here w v (word_for g.frame.field g.frame.datum g.frame.constants w over_w c) (word_for g.frame.field g.frame.datum g.frame.constants v over_v c) x.0))
  one_same_text w v t u over_w over_v (inr x) (inl y) = absurd (x.0 (joined_there w v over_w over_v y.0))
  one_same_text w v t u over_w over_v (inr x) (inr y) = x.1 ∙ sym y.1
