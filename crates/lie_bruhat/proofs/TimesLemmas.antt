-- Forms of longer words: the products compose, and a word may be put for one that it is joined to.
use Rattle.std.proofs.Common.{ℕ, List, [], ◌∷◌, ◌++◌, sym, subst, ◌∙◌, append_assoc, Result, Ok, Err, IfOk}
use Rattle.std.proofs.lemmas.List.{append-nil}
use Rattle.lie_datum.specs.RootList.{IsLoaded}
use Rattle.lie_weyl.proofs.Words.{is_word, are_letters}
use Rattle.lie_weyl.proofs.LengthLemmas.{reduced, length_same}
use Rattle.lie_weyl.proofs.ElementLemmas.{respelled}
use Rattle.lie_letters.specs.declared.letter.Letter.{Letter as CodeLetter}
use Rattle.lie_letters.specs.SignedFrames.{SignedFrame, unsigned}
use Rattle.lie_letters.specs.GroupSpelled.{JoinedInGroup}
use Rattle.lie_letters.specs.Spelled.{IsWordOver}
use Rattle.lie_unip.specs.Forms.{FormData, IsForm, IsFormOf, IsShortest, form_word}
use Rattle.lie_bruhat.specs.Products.{IsTimes}
use Rattle.lie_letters.proofs.GroupSpelledLemmas.{JoinedInGroup-refl, JoinedInGroup-trans, JoinedInGroup-flip, JoinedInGroup-append, JoinedInGroup-over}

module _ (f : SignedFrame) (loaded : IsLoaded f.datum) where
  -- a form has a shortest word of its Weyl element
  pub some_shortest : (x : FormData) → IsForm f x → (p : List ℕ) × IsShortest f.datum x.weyl p
  some_shortest x h =
      let w = h.element.0 in
      let s = h.element.1 in
      let q = reduced f.datum loaded w (is_word f.datum.base w s.letters) in
      let letters = are_letters f.datum.base q.short_word q.word in
      (q.short_word, (respelled f.datum w q.short_word x.weyl s letters q.same, q.size ∙ length_same f.datum loaded w q.short_word q.same))

  -- what a form is a form of is a word of the frame
  pub form_over : (x : FormData) (w : List CodeLetter) → IsFormOf f x w → IsWordOver (unsigned f) w
  form_over x w h = let p = some_shortest x h.form in JoinedInGroup-over f (form_word x p.0) w (h.joined p.0 p.1)

  -- a form of a word is one of each word that is joined to it
  pub form_joined : (x : FormData) (v w : List CodeLetter) → JoinedInGroup f v w → IsFormOf f x v → IsFormOf f x w
  form_joined x v w d h = record { form = h.form; joined = λ p s. JoinedInGroup-trans f (form_word x p) v w (h.joined p s) d }

  -- no letter
  pub times_none : (x : FormData) → IsForm f x → IsTimes f x [] x
  times_none x h = record { form = h; times = λ w k. subst (IsFormOf f x) (sym (append-nil w)) k }

  -- one word, then another
  pub times_then : (x y z : FormData) (u v : List CodeLetter) → IsTimes f x u y → IsTimes f y v z → IsTimes f x (u ++ v) z
  times_then x y z u v a b = record {
    form = b.form;
    times = λ w k. subst (IsFormOf f z) (append_assoc w u v) (b.times (w ++ u) (a.times w k));
  }

  -- a word put for another one
  pub times_joined : (x y : FormData) (u v : List CodeLetter) → JoinedInGroup f u v → IsTimes f x u y → IsTimes f x v y
  times_joined x y u v d a = record {
    form = a.form;
    times = λ w k. form_joined y (w ++ u) (w ++ v) (JoinedInGroup-append f w w u v (JoinedInGroup-refl f w (form_over x w k)) d) (a.times w k);
  }

  -- a form of the empty word, times a word, is a form of the word
  pub times_empty : (x y : FormData) (v : List CodeLetter) → IsFormOf f x [] → IsTimes f x v y → IsFormOf f y v
  times_empty x y v h a = a.times [] h

  -- a letter that is joined to the empty word
  pub times_nothing : (x : FormData) (v : List CodeLetter) → IsForm f x → JoinedInGroup f v [] → IsTimes f x v x
  times_nothing x v h d = times_joined x x [] v (JoinedInGroup-flip f v [] d) (times_none x h)

  -- the last of several words, in the answer of a call
  pub times_last : {E : Type 0} (x y : FormData) (u v s : List CodeLetter) (r : Result FormData E) → JoinedInGroup f (u ++ v) s → IsTimes f x u y → IfOk r (IsTimes f y v) → IfOk r (IsTimes f x s)
  times_last x y u v s (Ok z) d a b = times_joined x z (u ++ v) s d (times_then x y z u v a b)
  times_last x y u v s (Err e) d a b = tt

  -- four letters, one after the other
  pub times_four : {E : Type 0} (x a b c : FormData) (s t u v : CodeLetter) (w : List CodeLetter) (r : Result FormData E) → JoinedInGroup f w (s ∷ t ∷ u ∷ v ∷ [])
      → IsTimes f x (s ∷ []) a → IsTimes f a (t ∷ []) b → IsTimes f b (u ∷ []) c → IfOk r (IsTimes f c (v ∷ [])) → IfOk r (IsTimes f x w)
  times_four x a b c s t u v w r d first second third last =
      times_last x c (s ∷ t ∷ u ∷ []) (v ∷ []) w r (JoinedInGroup-flip f w (s ∷ t ∷ u ∷ v ∷ []) d)
      (times_then x b c (s ∷ t ∷ []) (u ∷ []) (times_then x a b (s ∷ []) (t ∷ []) first second) third) last
