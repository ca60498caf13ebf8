-- The first line of a script, and the script behind it.
use Rattle.std.proofs.Common.{◌≡◌, ◌≢◌, ℕ, zero, suc, ◌+◌, ◌<◌, ◌≤◌, Bool, true, false, not, cond, eqb, List, [], ◌∷◌, ◌++◌, length, take, drop, refl, ap, sym, ◌∙◌, subst, arith, inl, inr, append_assoc, ltb, ◌-◌, Option, Some, None, length-drop}
use Rattle.std.specs.List.{position, position_or_len}
use Rattle.std.proofs.lemmas.Bool.{eqb-true, eqb-false, cases_Bool}
use Rattle.std.proofs.lemmas.Bool.Decides.{nat_tests}
use Rattle.std.proofs.lemmas.List.{take_all}
use Rattle.lie_script.specs.Lines.{HasNoLf}
use Rattle.lie_session.specs.Lines.{lines_of, without_cr}
use Rattle.lie_session.proofs.LineLemmas.{lines-append, lines-line, lines-last}

-- the place of the first LF, which is the number of the bytes where there is none
abbrev pub place : List ℕ → ℕ
place bytes = position_or_len (λ b. eqb b 10) bytes

place-lf : (b : ℕ) (bytes : List ℕ) → eqb b 10 ≡ true → place (b ∷ bytes) ≡ 0
place-lf b bytes e = ap (λ (t : Bool). cond (not t) (1 + place bytes) 0) e

place-other : (b : ℕ) (bytes : List ℕ) → eqb b 10 ≡ false → place (b ∷ bytes) ≡ suc (place bytes)
place-other b bytes e = ap (λ (t : Bool). cond (not t) (1 + place bytes) 0) e ∙ (let next : 1 + place bytes ≡ suc (place bytes) = omega arith in next)

-- the first n bytes have no LF, and the next is one
abbrev pub EndsAt : List ℕ → ℕ → Type 0
EndsAt bytes n = (bytes ≡ take n bytes ++ 10 ∷ drop (suc n) bytes) × HasNoLf (take n bytes)

pub ends-at : (bytes : List ℕ) → place bytes < length bytes → EndsAt bytes (place bytes)
ends-at [] h = let no : ⊥ = omega (arith, h) in absurd no
ends-at (b ∷ bytes) h =
    elim (cases_Bool (eqb b 10)) [
      | inl e ↦ subst (EndsAt (b ∷ bytes)) (sym (place-lf b bytes e)) (ap (λ x. x ∷ bytes) (eqb-true b 10 e), tt)
      | inr e ↦
          let inner = ends-at bytes (omega (arith, h, place-other b bytes e)) in
          subst (EndsAt (b ∷ bytes)) (sym (place-other b bytes e)) (ap (λ z. b ∷ z) inner.0, (eqb-false b 10 e, inner.1))
    ]

no-lf : (bytes : List ℕ) → length bytes ≤ place bytes → HasNoLf bytes
no-lf [] h = tt
no-lf (b ∷ bytes) h =
    elim (cases_Bool (eqb b 10)) [
      | inl e ↦ let no : ⊥ = omega (arith, h, place-lf b bytes e) in absurd no
      | inr e ↦ (eqb-false b 10 e, no-lf bytes (omega (arith, h, place-other b bytes e)))
    ]

there : (bytes : List ℕ) (n : ℕ) → position (λ b. eqb b 10) bytes ≡ Some n → (place bytes ≡ n) × (place bytes < length bytes)
there bytes n e = by (ltb (place bytes) (length bytes)) refl e
  where
    by : (t : Bool) → ltb (place bytes) (length bytes) ≡ t → cond t (Some (place bytes)) None ≡ Some n → (place bytes ≡ n) × (place bytes < length bytes)
    by true f g = (search, grind (arith, nat_tests))
    by false f g = cc

nowhere : (bytes : List ℕ) → position (λ b. eqb b 10) bytes ≡ None → length bytes ≤ place bytes
nowhere bytes e = by (ltb (place bytes) (length bytes)) refl e
  where
    by : (t : Bool) → ltb (place bytes) (length bytes) ≡ t → cond t (Some (place bytes)) None ≡ None → length bytes ≤ place bytes
    by true f g = cc
    by false f g = grind (arith, nat_tests)

-- a line that an LF ends, and the lines behind it
pub lines-first : (bytes : List ℕ) (n : ℕ) → position (λ b. eqb b 10) bytes ≡ Some n
    → lines_of bytes ≡ without_cr (take n bytes) ∷ lines_of (take (length bytes - (n + 1)) (drop (n + 1) bytes))
lines-first bytes n e =
    let at = there bytes n e in
    let ends : EndsAt bytes n = subst (EndsAt bytes) at.0 (ends-at bytes at.1) in
    let line = take n bytes in
    let rest = drop (suc n) bytes in
    let next : suc n ≡ n + 1 = omega arith in
    let all : rest ≡ take (length bytes - (n + 1)) (drop (n + 1) bytes) =
    ap (λ k. drop k bytes) next ∙ sym (take_all (length bytes - (n + 1)) (drop (n + 1) bytes) (omega (arith, length-drop (n + 1) bytes))) in
    ap lines_of (ends.0 ∙ sym (append_assoc line (10 ∷ []) rest)) ∙ lines-append (line ++ 10 ∷ []) rest (inr (line, refl)) ∙ ap (λ z. z ++ lines_of rest) (lines-line line ends.1)
    ∙ ap (λ z. without_cr line ∷ lines_of z) all

-- a last line without an LF
pub lines-rest : (bytes : List ℕ) → position (λ b. eqb b 10) bytes ≡ None → bytes ≢ [] → lines_of bytes ≡ without_cr bytes ∷ []
lines-rest bytes e some = lines-last bytes (no-lf bytes (nowhere bytes e)) some

-- a script without bytes
pub empty : (bytes : List ℕ) → length bytes ≡ 0 → bytes ≡ []
empty [] none = refl
empty (b ∷ bytes) none = let no : ⊥ = omega (arith, none) in absurd no
