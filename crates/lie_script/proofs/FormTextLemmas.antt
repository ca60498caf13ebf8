-- The text of a form, letter by letter and entry by entry.
use Rattle.std.proofs.Common.{◌≡◌, ◌≢◌, ℕ, ◌+◌, ◌<◌, ◌≤◌, Bool, true, false, cond, List, [], ◌∷◌, ◌++◌, map, length, take, get_or, refl, sym, ap, ap₂, subst, ◌∙◌, arith, append-nil, append_assoc}
use Rattle.std.specs.Prelude.{filter, not, nat_eq, codes, decimal}
use Rattle.std.specs.List.{join_with_byte, flat_map}
use Rattle.std.proofs.lemmas.Bool.Decides.{nat_tests}
use Rattle.std.proofs.lemmas.List.{take_more, take_all, length-take-le}
use Rattle.std.proofs.lemmas.List.Elements.{filter-append}
use Rattle.lie_letters.specs.RingLetters.{RingLetter, full_word}
use Rattle.lie_unip.specs.Forms.{FormData, is_nonzero, nonzero_letters}
use Rattle.lie_unip.proofs.FullWordLemmas.{full_append}
use Rattle.lie_script.specs.FormTexts.{root_letter_text, letters_text, indices_text, entries_text, form_text, behind}

-- ---- root letters

-- letters with one space between
abbrev pub joined : List (RingLetter ℕ) → List ℕ
joined w = join_with_byte 32 (map root_letter_text w)

-- there is no letter
abbrev pub is_none : List (RingLetter ℕ) → Bool
is_none [] = true
is_none (x ∷ w) = false

-- one letter more
joined-push : (w : List (RingLetter ℕ)) (x : RingLetter ℕ) → joined w ++ behind (is_none w) (root_letter_text x) ≡ joined (w ++ x ∷ [])
joined-push [] x = refl
joined-push (y ∷ []) x = refl
joined-push (y ∷ z ∷ w) x = append_assoc (root_letter_text y) (32 ∷ joined (z ∷ w)) (32 ∷ root_letter_text x) ∙ ap (λ l. root_letter_text y ++ 32 ∷ l) (joined-push (z ∷ w) x)

some-push : (w : List (RingLetter ℕ)) (x : RingLetter ℕ) → false ≡ is_none (w ++ x ∷ [])
some-push [] x = refl
some-push (y ∷ w) x = refl

-- the letters up to a root
letters_push : (u : List ℕ) (k : ℕ) → k < length u → nonzero_letters (take (k + 1) u) ≡ nonzero_letters (take k u) ++ filter is_nonzero ((k + 1, get_or u k 0) ∷ [])
letters_push u k lt =
    let long = length-take-le k u (omega (arith, lt)) in
    let number : 1 + length (take k u) ≡ k + 1 = omega (arith, long) in
    ap nonzero_letters (take_more u k 0 lt)
    ∙ ap (filter is_nonzero) (full_append 1 (take k u) (get_or u k 0 ∷ []) ∙ ap (λ (n : ℕ). full_word (take k u) ++ (n, get_or u k 0) ∷ []) number)
    ∙ filter-append is_nonzero (full_word (take k u)) ((k + 1, get_or u k 0) ∷ [])

kept_letter : (k a : ℕ) → a ≢ 0 → filter is_nonzero ((k, a) ∷ []) ≡ (k, a) ∷ []
kept_letter k a some = by (nat_eq a 0) refl where
  by : (t : Bool) → nat_eq a 0 ≡ t → cond {A = List (RingLetter ℕ)} (not t) ((k, a) ∷ []) [] ≡ (k, a) ∷ []
  by true e = absurd (some (grind (arith, nat_tests)))
  by false e = refl

left_letter : (k a : ℕ) → a ≡ 0 → filter is_nonzero ((k, a) ∷ []) ≡ []
left_letter k a none = subst (λ b. filter is_nonzero ((k, b) ∷ []) ≡ []) (sym none) refl

-- the letters so far are written behind the old text, and first says whether there is none
pub record AreWritten (u : List ℕ) (k : ℕ) (old out : List ℕ) (first : Bool) : Type 0 where
  pub text : out ≡ old ++ joined (nonzero_letters (take k u))
  pub first_is : first ≡ is_none (nonzero_letters (take k u))

-- a letter that isn't 0 is written
pub letters_more : (u : List ℕ) (k a : ℕ) (old out new : List ℕ) (first : Bool) → k < length u → a ≡ get_or u k 0 → a ≢ 0 → AreWritten u k old out first
    → new ≡ out ++ behind first (root_letter_text (k + 1, a)) → AreWritten u (k + 1) old new false
letters_more u k a old out new first lt is some so_far written =
    let w = nonzero_letters (take k u) in
    let letter = λ (b : ℕ). let x : RingLetter ℕ = (k + 1, b) in x in
    let next : nonzero_letters (take (k + 1) u) ≡ w ++ letter a ∷ [] =
    letters_push u k lt ∙ ap (λ b. w ++ filter is_nonzero (letter b ∷ [])) (sym is) ∙ ap (λ l. w ++ l) (kept_letter (k + 1) a some) in
    record {
      text =
          written ∙ ap₂ (λ (z : List ℕ) (t : Bool). z ++ behind t (root_letter_text (k + 1, a))) so_far.text so_far.first_is ∙ append_assoc old (joined w) (behind (is_none w) (root_letter_text (k + 1, a)))
          ∙ ap (λ z. old ++ z) (joined-push w (k + 1, a) ∙ ap joined (sym next));
      first_is = some-push w (k + 1, a) ∙ ap is_none (sym next);
    }

-- and one that is 0 isn't
pub letters_still : (u : List ℕ) (k a : ℕ) (old out : List ℕ) (first : Bool) → k < length u → a ≡ get_or u k 0 → a ≡ 0 → AreWritten u k old out first → AreWritten u (k + 1) old out first
letters_still u k a old out first lt is none so_far =
    let w = nonzero_letters (take k u) in
    let next : w ≡ nonzero_letters (take (k + 1) u) =
    sym (append-nil w) ∙ ap (λ l. w ++ l) (sym (left_letter (k + 1) (get_or u k 0) (sym is ∙ none))) ∙ sym (letters_push u k lt) in
    record { text = so_far.text ∙ ap (λ v. old ++ joined v) next; first_is = so_far.first_is ∙ ap is_none next }

told : (w : List (RingLetter ℕ)) → false ≡ is_none w → joined w ≡ letters_text w
told [] some = absurd cc
told (x ∷ w) some = refl

untold : (w : List (RingLetter ℕ)) → true ≡ is_none w → joined w ++ 45 ∷ [] ≡ letters_text w
untold [] none = refl
untold (x ∷ w) none = absurd cc

-- all letters are written
pub letters_end : (u : List ℕ) (k : ℕ) (old out : List ℕ) → length u ≤ k → AreWritten u k old out false → out ≡ old ++ letters_text (nonzero_letters u)
letters_end u k old out past so_far =
    let all = ap nonzero_letters (take_all k u past) in
    so_far.text ∙ ap (λ w. old ++ joined w) all ∙ ap (λ z. old ++ z) (told (nonzero_letters u) (so_far.first_is ∙ ap is_none all))

-- or there is none
pub letters_none : (u : List ℕ) (k : ℕ) (old out new : List ℕ) → length u ≤ k → AreWritten u k old out true → new ≡ out ++ 45 ∷ [] → new ≡ old ++ letters_text (nonzero_letters u)
letters_none u k old out new past so_far written =
    let all = ap nonzero_letters (take_all k u past) in
    written ∙ ap (λ z. z ++ 45 ∷ []) (so_far.text ∙ ap (λ w. old ++ joined w) all) ∙ append_assoc old (joined (nonzero_letters u)) (45 ∷ [])
    ∙ ap (λ z. old ++ z) (untold (nonzero_letters u) (so_far.first_is ∙ ap is_none all))

-- ---- numbers

-- numbers, each behind a space
abbrev pub spaced : List ℕ → List ℕ
spaced t = flat_map (λ a. 32 ∷ decimal a) t

spaced-join : (x : ℕ) (t : List ℕ) → 32 ∷ entries_text (x ∷ t) ≡ spaced (x ∷ t)
spaced-join x [] = ap (λ z. 32 ∷ z) (sym (append-nil (decimal x)))
spaced-join x (y ∷ t) = ap (λ z. 32 ∷ decimal x ++ z) (spaced-join y t)

-- the entries of a vector with an entry
pub spaced_entries : (t : List ℕ) → 0 < length t → spaced t ≡ 32 ∷ entries_text t
spaced_entries [] h = let no : ⊥ = omega (arith, h) in absurd no
spaced_entries (x ∷ t) h = sym (spaced-join x t)

-- the indices of a word with a letter
pub spaced_indices : (p : List ℕ) → nat_eq (length p) 0 ≡ false → spaced p ≡ 32 ∷ indices_text p
spaced_indices [] h = absurd cc
spaced_indices (i ∷ p) h = sym (spaced-join i p)

-- ---- forms

-- the parts of a form, one written behind the other
pub parts_written : (x : FormData) (p u t v old a b c d e f new : List ℕ) → u ≡ x.first → t ≡ x.torus → v ≡ x.second → old ≡ [] → a ≡ old ++ letters_text (nonzero_letters u) → b ≡ a ++ codes " |"
    → c ≡ b ++ codes " " ++ entries_text t → d ≡ c ++ codes " |" → e ≡ d ++ codes " " ++ indices_text p → f ≡ e ++ codes " | " → new ≡ f ++ letters_text (nonzero_letters v) → new ≡ form_text x p
parts_written x p u t v old a b c d e f new first torus second none pa pb pc pd pe pf pn = rw (pn, pf, pe, pd, pc, pb, pa, none, first, torus, second) (simp append_assoc)
