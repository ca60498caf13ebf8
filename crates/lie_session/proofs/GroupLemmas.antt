-- What is answered in a loaded group: texts of forms, and whether two words are joined.
use Rattle.std.proofs.Common.{◌≡◌, Bool, true, false, List, ℕ, Result, Ok, Err, refl, sym, subst, inl, inr}
use Rattle.std.specs.Prelude.{◌↔◌, IfOk, IsTrue, Option}
use Rattle.std.proofs.lemmas.Bool.{false≢true}
use Rattle.lie_datum.specs.RootList.{RootDatum}
use Rattle.lie_group.specs.Groups.{GroupData, IsGroup}
use Rattle.lie_group.proofs.GroupLemmas.{carrier_meets}
use Rattle.lie_identities.specs.CoverLines.{AreCoverLines}
use Rattle.lie_letters.specs.GroupSpelled.{JoinedInGroup}
use Rattle.lie_letters.specs.SignedFrames.{SignedFrame}
use Rattle.lie_letters.specs.declared.letter.Letter.{Letter}
use Rattle.lie_reduce.specs.UniqueForms.{IsCoveringFor}
use Rattle.lie_reduce.proofs.OneForm.{words_have_one_form}
use Rattle.lie_reply.specs.Commands.{TellsForm, FormTextOf}
use Rattle.lie_reply.specs.Texts.{same_text}
use Rattle.lie_unip.specs.Forms.{FormData, IsFormOf}
use Rattle.lie_session.specs.Asked.{TellsSame}
use Rattle.lie_session.specs.Held.{LoadedGroup}
use Rattle.lie_session.specs.Obeyed.{IsAnswered}
use Rattle.lie_session.specs.Outcomes.{Outcome}
use Rattle.lie_session.specs.declared.faults.CallFault.{CallFault}

-- the text of a form of a word
pub text_of : {E : Type 0} (f : SignedFrame) (x : FormData) (w : List Letter) (result : Result (List ℕ) E) → IsFormOf f x w → IfOk result (TellsForm f.datum x) → IfOk result (FormTextOf f w)
text_of f x w (Ok text) stands tells = record { form = x; stands = stands; tells = tells }
text_of f x w (Err e) stands tells = tt

-- the carrier of a group is covering and audited for its frame
pub covering_group : (g : GroupData) → IsGroup g → IsCoveringFor g.frame g.carrier.module
covering_group g h = record {
  lawful = h.frame.lawful;
  audited = carrier_meets g h;
  lines = g.carrier.lines;
  cover = subst (λ (D : RootDatum). AreCoverLines D g.carrier.module g.carrier.lines) h.carrier.audited_for.datum h.carrier.audited.cover;
  covering = h.covering;
}

told_same : (f : SignedFrame) (x y : FormData) (w v : List Letter) (b : Bool) (text : List ℕ) → JoinedInGroup f w v ↔ (x ≡ y) → IsTrue b ↔ (x ≡ y) → text ≡ same_text b → TellsSame f w v text
told_same f x y w v true text joined same is = inl (joined.1 (same.0 refl), is)
told_same f x y w v false text joined same is = inr ((λ j. false≢true (same.1 (joined.0 j))), is)

-- two words are joined exactly if their forms are equal
pub same_tells : {E : Type 0} (g : GroupData) (x y : FormData) (w v : List Letter) (b : Bool) (result : Result (List ℕ) E) → IsGroup g → IsFormOf g.frame x w → IsFormOf g.frame y v
    → IsTrue b ↔ (x ≡ y) → IfOk result (λ text. text ≡ same_text b) → IfOk result (TellsSame g.frame w v)
same_tells g x y w v b (Ok text) h is js same text_is =
    told_same g.frame x y w v b text (words_have_one_form g.frame g.carrier.module (covering_group g h) x y w v is js) same text_is
same_tells g x y w v b (Err e) h is js same text_is = tt

-- what an answer has, an answer for more outcomes has
pub answered_so : (P Q : Outcome → Type 0) (g : LoadedGroup) (result : Result (Option (List ℕ)) CallFault) (h : LoadedGroup) → ((r : Outcome) → P r → Q r) → IsAnswered P g result h → IsAnswered Q g result h
answered_so P Q g (Ok text) h keeps is = keeps _ is
answered_so P Q g (Err why) h keeps is = λ named. (keeps _ (is named).0, (is named).1)
