-- Pieces and lines of a text that ends with an LF or goes on behind one.
use Rattle.std.proofs.Common.{◌≡◌, ◌≢◌, ℕ, zero, suc, ◌+◌, ◌≤◌, Bool, true, false, List, [], ◌∷◌, ◌++◌, length, get_or, take, map, refl, ap, sym, ◌∙◌, subst, arith, cond, eqb, inl, inr, append_assoc, append-nil}
use Rattle.std.specs.List.{onto_first}
use Rattle.std.proofs.lemmas.Bool.{ne_eqb, eq-eqb, eqb-true, eqb-false, cases_Bool, cases_lt}
use Rattle.std.proofs.lemmas.List.{map-append, take_all, take-take, take-append-le, length-take-le}
use Rattle.lie_script.specs.Lines.{HasNoLf, kept_limit}
use Rattle.lie_script.specs.Names.{Listed}
use Rattle.lie_script.specs.Reading.{reads}
use Rattle.lie_script.specs.declared.sizes.Sizes.{Sizes}
use Rattle.lie_script.specs.declared.sizes.Wants.{Wants}
use Rattle.lie_script.proofs.LinesLemmas.{reads-long}
use Rattle.lie_session.specs.Lines.{cut, without_cr, lines_of, IsOfWholeLines, IsCutAtLastLf}
use Rattle.lie_session.specs.Named.{listed_of}
use Rattle.lie_session.specs.Replies.{Replies, DoesRead}
use Rattle.lie_session.specs.State.{State, modules_of, wants_of, sizes_of}
use Rattle.lie_session.specs.declared.reply.Reply.{Reply}

cut-lf : (b : ℕ) (bytes : List ℕ) → eqb b 10 ≡ true → cut (b ∷ bytes) ≡ [] ∷ cut bytes
cut-lf b bytes e = ap (λ (t : Bool). cond t ([] ∷ cut bytes) (onto_first b (cut bytes))) e

cut-other : (b : ℕ) (bytes : List ℕ) → eqb b 10 ≡ false → cut (b ∷ bytes) ≡ onto_first b (cut bytes)
cut-other b bytes e = ap (λ (t : Bool). cond t ([] ∷ cut bytes) (onto_first b (cut bytes))) e

-- a piece that an LF ends
cut-line : (bytes : List ℕ) → HasNoLf bytes → cut (bytes ++ 10 ∷ []) ≡ bytes ∷ []
cut-line [] none = refl
cut-line (b ∷ bytes) none = cut-other b (bytes ++ 10 ∷ []) (ne_eqb b 10 none.0) ∙ ap (onto_first b) (cut-line bytes none.1)

-- a last piece without an LF
cut-last : (b : ℕ) (bytes : List ℕ) → HasNoLf (b ∷ bytes) → cut (b ∷ bytes) ≡ (b ∷ bytes) ∷ []
cut-last b [] none = cut-other b [] (ne_eqb b 10 none.0)
cut-last b (c ∷ bytes) none = cut-other b (c ∷ bytes) (ne_eqb b 10 none.0) ∙ ap (onto_first b) (cut-last c bytes none.1)

cut-some : (front : List ℕ) → (p : List ℕ) × (ps : List (List ℕ)) × (cut (front ++ 10 ∷ []) ≡ p ∷ ps)
cut-some [] = ([], [], refl)
cut-some (b ∷ front) =
    let rest = cut-some front in
    elim (cases_Bool (eqb b 10)) [
      | inl e ↦ ([], cut (front ++ 10 ∷ []), cut-lf b (front ++ 10 ∷ []) e)
      | inr e ↦ (b ∷ rest.0, rest.1, cut-other b (front ++ 10 ∷ []) e ∙ ap (onto_first b) rest.2)
    ]

onto-append : (b : ℕ) (pieces more : List (List ℕ)) (p : List ℕ) (ps : List (List ℕ)) → pieces ≡ p ∷ ps → onto_first b (pieces ++ more) ≡ onto_first b pieces ++ more
onto-append b pieces more p ps is = ap (λ z. onto_first b (z ++ more)) is ∙ sym (ap (λ z. onto_first b z ++ more) is)

cut-ended : (front more : List ℕ) → cut ((front ++ 10 ∷ []) ++ more) ≡ cut (front ++ 10 ∷ []) ++ cut more
cut-ended [] more = refl
cut-ended (b ∷ front) more =
    let line = front ++ 10 ∷ [] in
    let some = cut-some front in
    elim (cases_Bool (eqb b 10)) [
      | inl e ↦ cut-lf b (line ++ more) e ∙ ap (λ z. [] ∷ z) (cut-ended front more) ∙ sym (ap (λ z. z ++ cut more) (cut-lf b line e))
      | inr e ↦
          cut-other b (line ++ more) e ∙ ap (onto_first b) (cut-ended front more) ∙ onto-append b (cut line) (cut more) some.0 some.1 some.2
          ∙ sym (ap (λ z. z ++ cut more) (cut-other b line e))
    ]

-- the lines of a text behind whole lines
pub lines-append : (whole more : List ℕ) → IsOfWholeLines whole → lines_of (whole ++ more) ≡ lines_of whole ++ lines_of more
lines-append whole more (inl none) = ap (λ z. lines_of (z ++ more)) none ∙ sym (ap (λ z. lines_of z ++ lines_of more) none)
lines-append whole more (inr ends) =
    ap (λ z. lines_of (z ++ more)) ends.1 ∙ ap (map without_cr) (cut-ended ends.0 more) ∙ map-append without_cr (cut (ends.0 ++ 10 ∷ [])) (cut more)
    ∙ sym (ap (λ z. lines_of z ++ lines_of more) ends.1)

pub lines-line : (bytes : List ℕ) → HasNoLf bytes → lines_of (bytes ++ 10 ∷ []) ≡ without_cr bytes ∷ []
lines-line bytes none = ap (map without_cr) (cut-line bytes none)

pub lines-last : (bytes : List ℕ) → HasNoLf bytes → bytes ≢ [] → lines_of bytes ≡ without_cr bytes ∷ []
lines-last [] none some = absurd (some refl)
lines-last (b ∷ bytes) none some = ap (map without_cr) (cut-last b bytes none)

pub no-lf-append : (a b : List ℕ) → HasNoLf a → HasNoLf b → HasNoLf (a ++ b)
no-lf-append [] b none other = other
no-lf-append (x ∷ a) b none other = (none.0, no-lf-append a b none.1 other)

whole-append : (a b : List ℕ) → IsOfWholeLines a → IsOfWholeLines b → IsOfWholeLines (a ++ b)
whole-append a b whole (inl none) = subst IsOfWholeLines (sym (append-nil a) ∙ ap (λ z. a ++ z) (sym none)) whole
whole-append a b whole (inr ends) = inr (a ++ ends.0, ap (λ z. a ++ z) ends.1 ∙ sym (append_assoc a ends.0 (10 ∷ [])))

-- every text is cut at its last LF
abbrev AtLastLf : List ℕ → Type 0
AtLastLf bytes = (whole : List ℕ) × (rest : List ℕ) × IsCutAtLastLf bytes whole rest

onto-cut : (b : ℕ) (bytes : List ℕ) → AtLastLf bytes → AtLastLf (b ∷ bytes)
onto-cut b bytes (whole, rest, ends) =
    elim ends.ended [
      | inr front ↦ (b ∷ whole, rest, record { parts = ap (λ z. b ∷ z) ends.parts; ended = inr (b ∷ front.0, ap (λ z. b ∷ z) front.1); unended = ends.unended })
      | inl none ↦
          let alone : bytes ≡ rest = ends.parts ∙ ap (λ z. z ++ rest) none in
          elim (cases_Bool (eqb b 10)) [
            | inl e ↦ (b ∷ [], rest, record { parts = ap (λ z. b ∷ z) alone; ended = inr ([], ap (λ x. x ∷ []) (eqb-true b 10 e)); unended = ends.unended })
            | inr e ↦ ([], b ∷ rest, record { parts = ap (λ z. b ∷ z) alone; ended = inl refl; unended = (eqb-false b 10 e, ends.unended) })
          ]
    ]

at_last_lf : (bytes : List ℕ) → AtLastLf bytes
at_last_lf [] = ([], [], record { parts = refl; ended = inl refl; unended = tt })
at_last_lf (b ∷ bytes) = onto-cut b bytes (at_last_lf bytes)

-- more bytes, which may have further LFs
pub cut-more : (seen whole rest more : List ℕ) → IsCutAtLastLf seen whole rest → (w : List ℕ) × (r : List ℕ) × IsCutAtLastLf (seen ++ more) (whole ++ w) r
cut-more seen whole rest more ends =
    let at = at_last_lf (rest ++ more) in (
      at.0,
      at.1,
      record {
        parts = ap (λ z. z ++ more) ends.parts ∙ append_assoc whole rest more ∙ ap (λ z. whole ++ z) at.2.parts ∙ sym (append_assoc whole at.0 at.1);
        ended = whole-append whole at.0 ends.ended at.2.ended;
        unended = at.2.unended;
      },
    )

-- more bytes without an LF
pub cut-part : (seen whole rest taken : List ℕ) → IsCutAtLastLf seen whole rest → HasNoLf taken → IsCutAtLastLf (seen ++ taken) whole (rest ++ taken)
cut-part seen whole rest taken ends none =
    record { parts = ap (λ z. z ++ taken) ends.parts ∙ append_assoc whole rest taken; ended = ends.ended; unended = no-lf-append rest taken ends.unended none }

-- more bytes up to an LF
pub cut-whole : (seen whole rest taken : List ℕ) → IsCutAtLastLf seen whole rest → IsCutAtLastLf (seen ++ (taken ++ 10 ∷ [])) (whole ++ ((rest ++ taken) ++ 10 ∷ [])) []
cut-whole seen whole rest taken ends =
    let line = (rest ++ taken) ++ 10 ∷ [] in
    record {
      parts = ap (λ z. z ++ (taken ++ 10 ∷ [])) ends.parts ∙ append_assoc whole rest (taken ++ 10 ∷ []) ∙ ap (λ z. whole ++ z) (sym (append_assoc rest taken (10 ∷ []))) ∙ sym (append-nil (whole ++ line));
      ended = whole-append whole line ends.ended (inr (rest ++ taken, refl));
      unended = tt;
    }

pub without_cr_yes : (bytes : List ℕ) (n : ℕ) → length bytes ≡ suc n → get_or bytes n 0 ≡ 13 → take n bytes ≡ without_cr bytes
without_cr_yes [] n len at = let no : ⊥ = omega (arith, len) in absurd no
without_cr_yes (b ∷ []) zero len at = sym (ap (λ t. cond t [] (b ∷ [])) (eq-eqb b 13 at))
without_cr_yes (b ∷ []) (suc n) len at = let no : ⊥ = omega (arith, len) in absurd no
without_cr_yes (b ∷ c ∷ bytes) zero len at = let no : ⊥ = omega (arith, len) in absurd no
without_cr_yes (b ∷ c ∷ bytes) (suc n) len at = ap (λ z. b ∷ z) (without_cr_yes (c ∷ bytes) n (omega (arith, len)) at)

pub without_cr_no : (bytes : List ℕ) (n : ℕ) → length bytes ≡ suc n → get_or bytes n 0 ≢ 13 → bytes ≡ without_cr bytes
without_cr_no [] n len at = refl
without_cr_no (b ∷ []) zero len at = sym (ap (λ t. cond t [] (b ∷ [])) (ne_eqb b 13 at))
without_cr_no (b ∷ []) (suc n) len at = let no : ⊥ = omega (arith, len) in absurd no
without_cr_no (b ∷ c ∷ bytes) zero len at = let no : ⊥ = omega (arith, len) in absurd no
without_cr_no (b ∷ c ∷ bytes) (suc n) len at = ap (λ z. b ∷ z) (without_cr_no (c ∷ bytes) n (omega (arith, len)) at)

pub without_cr_none : (bytes : List ℕ) → length bytes ≡ 0 → bytes ≡ without_cr bytes
without_cr_none [] h = refl
without_cr_none (b ∷ bytes) h = let no : ⊥ = omega (arith, h) in absurd no

-- ---- a line of which only the front is kept

-- what is kept of what was kept before, and of more
pub kept-append : (limit : ℕ) (bytes more : List ℕ) → take limit (take limit bytes ++ more) ≡ take limit (bytes ++ more)
kept-append limit bytes more =
    elim (cases_lt limit (length bytes)) [
      | inl h ↦
          let long : length (take limit bytes) ≡ limit = length-take-le limit bytes (omega (arith, h)) in
          take-append-le limit (take limit bytes) more (omega (arith, long)) ∙ take-take limit limit bytes (omega arith) ∙ sym (take-append-le limit bytes more (omega (arith, h)))
      | inr h ↦ ap (λ z. take limit (z ++ more)) (take_all limit bytes h)
    ]

-- at most the CR is gone
length-without_cr : (bytes : List ℕ) → length bytes ≤ length (without_cr bytes) + 1
length-without_cr [] = omega arith
length-without_cr (b ∷ []) = omega arith
length-without_cr (b ∷ c ∷ bytes) = let rest = length-without_cr (c ∷ bytes) in omega (arith, rest)

-- what is read of the front that is kept is what is read of the line
reads-kept : (awaited : Wants) (sizes : Sizes) (listed : Listed) (bytes : List ℕ) → reads awaited sizes listed (without_cr (take kept_limit bytes)) ≡ reads awaited sizes listed (without_cr bytes)
reads-kept awaited sizes listed bytes =
    elim (cases_lt kept_limit (length bytes)) [
      | inl h ↦
          let kept : length (take kept_limit bytes) ≡ kept_limit = length-take-le kept_limit bytes (omega (arith, h)) in
          reads-long awaited sizes listed (without_cr (take kept_limit bytes)) (omega (arith, kept, length-without_cr (take kept_limit bytes)))
          ∙ sym (reads-long awaited sizes listed (without_cr bytes) (omega (arith, h, length-without_cr bytes)))
      | inr h ↦ ap (λ z. reads awaited sizes listed (without_cr z)) (take_all kept_limit bytes h)
    ]

-- a reply to the front that is kept is a reply to the line
pub replies-kept : (s : State) (n : ℕ) (bytes : List ℕ) (reply : Reply) (next : State) → Replies s n (without_cr (take kept_limit bytes)) reply next → Replies s n (without_cr bytes) reply next
replies-kept s n bytes reply next r =
    record { told = subst (DoesRead s n reply next) (reads-kept (wants_of s.stage) (sizes_of s.stage) (listed_of (modules_of s.stage)) bytes) r.told }

-- nothing is kept of nothing alone
pub kept-none : (bytes : List ℕ) → take kept_limit bytes ≡ [] → bytes ≡ []
kept-none [] none = refl
kept-none (b ∷ bytes) none = let no : ⊥ = omega (arith, ap length none, length-take-le 1 (take kept_limit (b ∷ bytes)) (omega arith)) in absurd no
