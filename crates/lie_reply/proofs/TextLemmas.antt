-- The text of a form tells its letters, its torus vector and its word.
use Rattle.std.proofs.Common.{◌≡◌, ℕ, ◌+◌, ◌%◌, ◌^◌, ◌<◌, ◌≤◌, ◌⊎◌, inl, inr, ⊎_elim, Bool, true, false, cond, List, [], ◌∷◌, ◌++◌, map, length, refl, ap, ap₂, sym, subst, ◌∙◌, arith, eqb, append_assoc}
use Rattle.std.specs.Prelude.{decimal, codes, filter, not, nat_eq}
use Rattle.std.specs.List.{AllByRecursion, join_with_byte, slice_split}
use Rattle.std.proofs.lemmas.Bool.{ne_eqb, false≢true}
use Rattle.std.proofs.lemmas.Bool.Decides.{nat_tests}
use Rattle.std.proofs.lemmas.Fmt.{decimal_by_steps, decimal_injective}
use Rattle.std.proofs.lemmas.List.{append_cancel_right}
use Rattle.std.proofs.lemmas.List.Elements.{All-from_recursion}
use Rattle.std.proofs.lemmas.List.Splits.{slice_split_at, slice_split_none}
use Rattle.lie_letters.specs.RingLetters.{RingLetter, full_from}
use Rattle.lie_unip.specs.Forms.{FormData, is_nonzero, nonzero_letters}
use Rattle.lie_script.specs.FormTexts.{root_letter_text, listed, letters_text, indices_text, entries_text, form_text}

-- ---- bytes that do not occur

abbrev Avoids : ℕ → List ℕ → Type 0
Avoids c bytes = AllByRecursion (λ b. eqb b c ≡ false) bytes

avoids-append : (c : ℕ) (a b : List ℕ) → Avoids c a → Avoids c b → Avoids c (a ++ b)
avoids-append c [] b h k = k
avoids-append c (x ∷ a) b h k = (h.0, avoids-append c a b h.1 k)

-- no digit, which are the bytes 48 to 57
abbrev IsNoDigit : ℕ → Type 0
IsNoDigit c = (c < 48) ⊎ (57 < c)

avoids-decimal : (c n : ℕ) → IsNoDigit c → n < 2 ^ 64 → Avoids c (decimal n)
avoids-decimal c n other h =
    decimal_by_steps (λ n ds. Avoids c ds) (λ n lt. (ne_eqb (48 + n) c (no_digit n lt), tt))
    (λ n ds ge rest. avoids-append c ds ((48 + n % 10) ∷ []) rest (ne_eqb (48 + n % 10) c (no_digit (n % 10) (omega arith)), tt)) n h
  where
    no_digit : (n : ℕ) → n < 10 → 48 + n ≡ c → ⊥
    no_digit n lt e = ⊎_elim (λ l. absurd (omega (arith, l, e))) (λ l. absurd (omega (arith, l, lt, e))) other

same_byte : (c : ℕ) → eqb c c ≡ true
same_byte c = grind arith

-- what stands before the first c, and behind it
same_parts : (c : ℕ) (a b x y : List ℕ) → Avoids c a → Avoids c b → a ++ c ∷ x ≡ b ++ c ∷ y → (a ≡ b) × (x ≡ y)
same_parts c [] [] x y h k e = (refl, cc)
same_parts c [] (z ∷ b) x y h k e = let is : z ≡ c = cc in absurd (false≢true (sym k.0 ∙ ap (λ n. eqb n c) is ∙ same_byte c))
same_parts c (z ∷ a) [] x y h k e = let is : z ≡ c = cc in absurd (false≢true (sym h.0 ∙ ap (λ n. eqb n c) is ∙ same_byte c))
same_parts c (z ∷ a) (u ∷ b) x y h k e =
    let first : z ≡ u = cc in
    let rest : a ++ c ∷ x ≡ b ++ c ∷ y = cc in
    let parts = same_parts c a b x y h.1 k.1 rest in
    (ap₂ (λ (n : ℕ) (l : List ℕ). n ∷ l) first parts.0, parts.1)

-- ---- texts with one space between

split-join : (x : List ℕ) (xs : List (List ℕ)) → Avoids 32 x → AllByRecursion (Avoids 32) xs → slice_split (λ b. eqb b 32) (join_with_byte 32 (x ∷ xs)) ≡ x ∷ xs
split-join x [] h hs = slice_split_none (λ b. eqb b 32) x (All-from_recursion (λ b. eqb b 32 ≡ false) x h)
split-join x (y ∷ xs) h hs =
    slice_split_at (λ b. eqb b 32) x 32 (join_with_byte 32 (y ∷ xs)) (All-from_recursion (λ b. eqb b 32 ≡ false) x h) refl
    ∙ ap (λ z. x ∷ z) (split-join y xs hs.0 hs.1)

-- texts that are joined alike are alike
same_joined : (x y : List ℕ) (xs ys : List (List ℕ)) → AllByRecursion (Avoids 32) (x ∷ xs) → AllByRecursion (Avoids 32) (y ∷ ys) → join_with_byte 32 (x ∷ xs) ≡ join_with_byte 32 (y ∷ ys) → x ∷ xs ≡ y ∷ ys
same_joined x y xs ys h k e = sym (split-join x xs h.0 h.1) ∙ ap (slice_split (λ b. eqb b 32)) e ∙ split-join y ys k.0 k.1

avoids-join : (c : ℕ) → eqb 32 c ≡ false → (xs : List (List ℕ)) → AllByRecursion (Avoids c) xs → Avoids c (join_with_byte 32 xs)
avoids-join c blank [] h = tt
avoids-join c blank (x ∷ []) h = h.0
avoids-join c blank (x ∷ y ∷ xs) h = avoids-append c x (32 ∷ join_with_byte 32 (y ∷ xs)) h.0 (blank, avoids-join c blank (y ∷ xs) h.1)

avoids-listed : (c : ℕ) → eqb 32 c ≡ false → eqb 45 c ≡ false → (xs : List (List ℕ)) → AllByRecursion (Avoids c) xs → Avoids c (listed xs)
avoids-listed c blank dash [] h = (dash, tt)
avoids-listed c blank dash (x ∷ xs) h = avoids-join c blank (x ∷ xs) h

-- `-` is the text of no list with a text
no_dash : (x : List ℕ) (xs : List (List ℕ)) → AllByRecursion (Avoids 45) (x ∷ xs) → codes "-" ≡ listed (x ∷ xs) → ⊥
no_dash x xs h e = let found : Avoids 45 (codes "-") = subst (Avoids 45) (sym e) (avoids-join 45 refl (x ∷ xs) h) in false≢true (sym found.0)

same_listed : (xs ys : List (List ℕ)) → AllByRecursion (Avoids 32) xs → AllByRecursion (Avoids 32) ys → AllByRecursion (Avoids 45) xs → AllByRecursion (Avoids 45) ys → listed xs ≡ listed ys → xs ≡ ys
same_listed [] [] h k a b e = refl
same_listed [] (y ∷ ys) h k a b e = absurd (no_dash y ys b e)
same_listed (x ∷ xs) [] h k a b e = absurd (no_dash x xs a (sym e))
same_listed (x ∷ xs) (y ∷ ys) h k a b e = same_joined x y xs ys h k e

-- things whose texts tell them are told by the list of their texts
same_map : {A : Type 0} (P : A → Type 0) (f : A → List ℕ) → ((x y : A) → P x → P y → f x ≡ f y → x ≡ y) → (v w : List A) → AllByRecursion P v → AllByRecursion P w → map f v ≡ map f w → v ≡ w
same_map P f tell [] [] h k e = refl
same_map P f tell [] (y ∷ w) h k e = absurd cc
same_map P f tell (x ∷ v) [] h k e = absurd cc
same_map {A} P f tell (x ∷ v) (y ∷ w) h k e =
    let first : f x ≡ f y = cc in
    let rest : map f v ≡ map f w = cc in
    ap₂ (λ (a : A) (l : List A). a ∷ l) (tell x y h.0 k.0 first) (same_map P f tell v w h.1 k.1 rest)

-- ---- numbers

-- small numbers
abbrev pub IsSmall : ℕ → Type 0
IsSmall n = n < 2 ^ 64

decimals-avoid : (c : ℕ) → IsNoDigit c → (t : List ℕ) → AllByRecursion IsSmall t → AllByRecursion (Avoids c) (map decimal t)
decimals-avoid c other [] h = tt
decimals-avoid c other (x ∷ t) h = (avoids-decimal c x other h.0, decimals-avoid c other t h.1)

same_numbers : (t u : List ℕ) → AllByRecursion IsSmall t → AllByRecursion IsSmall u → map decimal t ≡ map decimal u → t ≡ u
same_numbers = same_map IsSmall decimal (λ x y h k e. decimal_injective x y h k e)

-- entries, of which there are as many
same_entries : (t u : List ℕ) → AllByRecursion IsSmall t → AllByRecursion IsSmall u → length t ≡ length u → entries_text t ≡ entries_text u → t ≡ u
same_entries [] [] a b long e = refl
same_entries [] (y ∷ u) a b long e = absurd (omega (arith, long))
same_entries (x ∷ t) [] a b long e = absurd (omega (arith, long))
same_entries (x ∷ t) (y ∷ u) a b long e =
    same_numbers (x ∷ t) (y ∷ u) a b
    (same_joined (decimal x) (decimal y) (map decimal t) (map decimal u) (decimals-avoid 32 (inl (omega arith)) (x ∷ t) a) (decimals-avoid 32 (inl (omega arith)) (y ∷ u) b) e)

same_indices : (p q : List ℕ) → AllByRecursion IsSmall p → AllByRecursion IsSmall q → indices_text p ≡ indices_text q → p ≡ q
same_indices p q a b e =
    let avoids = λ (c : ℕ) (other : IsNoDigit c) (t : List ℕ) (h : AllByRecursion IsSmall t). decimals-avoid c other t h in
    same_numbers p q a b
    (same_listed (map decimal p) (map decimal q) (avoids 32 (inl (omega arith)) p a) (avoids 32 (inl (omega arith)) q b) (avoids 45 (inl (omega arith)) p a) (avoids 45 (inl (omega arith)) q b) e)

-- ---- root letters

-- a letter with small numbers
abbrev pub IsSmallLetter : RingLetter ℕ → Type 0
IsSmallLetter x = IsSmall x.0 × IsSmall x.1

-- no byte of a letter: no digit, no `x` and no parenthesis
abbrev IsOther : ℕ → Type 0
IsOther c = IsNoDigit c × (eqb 120 c ≡ false) × (eqb 40 c ≡ false) × (eqb 41 c ≡ false)

-- the bytes of a letter's text behind its `x`
abbrev letter_bytes : RingLetter ℕ → List ℕ
letter_bytes x = decimal x.0 ++ 40 ∷ (decimal x.1 ++ 41 ∷ [])

regrouped_letter : (x : RingLetter ℕ) → root_letter_text x ≡ 120 ∷ letter_bytes x
regrouped_letter x = simp append_assoc

letter-avoids : (c : ℕ) → IsOther c → (x : RingLetter ℕ) → IsSmallLetter x → Avoids c (root_letter_text x)
letter-avoids c other x h =
    subst (Avoids c) (sym (regrouped_letter x)) (
      other.1,
      avoids-append c (decimal x.0) (40 ∷ (decimal x.1 ++ 41 ∷ [])) (avoids-decimal c x.0 other.0 h.0)
          (other.2, avoids-append c (decimal x.1) (41 ∷ []) (avoids-decimal c x.1 other.0 h.1) (other.3, tt)),
    )

letters-avoid : (c : ℕ) → IsOther c → (w : List (RingLetter ℕ)) → AllByRecursion IsSmallLetter w → AllByRecursion (Avoids c) (map root_letter_text w)
letters-avoid c other [] h = tt
letters-avoid c other (x ∷ w) h = (letter-avoids c other x h.0, letters-avoid c other w h.1)

-- a letter's text tells it
same_letter : (x y : RingLetter ℕ) → IsSmallLetter x → IsSmallLetter y → root_letter_text x ≡ root_letter_text y → x ≡ y
same_letter x y h k e =
    let rest : letter_bytes x ≡ letter_bytes y = (let whole = sym (regrouped_letter x) ∙ e ∙ regrouped_letter y in cc) in
    let parts = same_parts 40 (decimal x.0) (decimal y.0) (decimal x.1 ++ 41 ∷ []) (decimal y.1 ++ 41 ∷ []) (avoids-decimal 40 x.0 (inl (omega arith)) h.0) (avoids-decimal 40 y.0 (inl (omega arith)) k.0) rest in
    let first = decimal_injective x.0 y.0 h.0 k.0 parts.0 in
    let second = decimal_injective x.1 y.1 h.1 k.1 (append_cancel_right (decimal x.1) (decimal y.1) (41 ∷ []) parts.1) in
    λ i. (first i, second i)

same_letters : (v w : List (RingLetter ℕ)) → AllByRecursion IsSmallLetter v → AllByRecursion IsSmallLetter w → letters_text v ≡ letters_text w → v ≡ w
same_letters v w h k e =
    let blank : IsOther 32 = (inl (omega arith), refl, refl, refl) in
    let dash : IsOther 45 = (inl (omega arith), refl, refl, refl) in
    same_map IsSmallLetter root_letter_text same_letter v w h k
    (same_listed (map root_letter_text v) (map root_letter_text w) (letters-avoid 32 blank v h) (letters-avoid 32 blank w k) (letters-avoid 45 dash v h) (letters-avoid 45 dash w k) e)

-- what holds of a letter, and of the others, holds of the letters that aren't 0
one_more : (P : RingLetter ℕ → Type 0) (t : Bool) (x : RingLetter ℕ) (w : List (RingLetter ℕ)) → P x → AllByRecursion P w → AllByRecursion P (cond (not t) (x ∷ w) w)
one_more P true x w h k = k
one_more P false x w h k = (h, k)

-- the letters that aren't 0 from a root on have small numbers
small_letters : (k : ℕ) (u : List ℕ) → k + length u < 2 ^ 64 → AllByRecursion IsSmall u → AllByRecursion IsSmallLetter (filter is_nonzero (full_from k u))
small_letters k [] few h = tt
small_letters k (a ∷ u) few h =
    one_more IsSmallLetter (nat_eq a 0) (k, a) (filter is_nonzero (full_from (k + 1) u)) (omega (arith, few), h.0) (small_letters (k + 1) u (omega (arith, few)) h.1)

-- and none has a root before it
letters-from : (j k : ℕ) (u : List ℕ) → j ≤ k → AllByRecursion (λ (x : RingLetter ℕ). j ≤ x.0) (filter is_nonzero (full_from k u))
letters-from j k [] le = tt
letters-from j k (a ∷ u) le =
    one_more (λ (x : RingLetter ℕ). j ≤ x.0) (nat_eq a 0) (k, a) (filter is_nonzero (full_from (k + 1) u)) le (letters-from j (k + 1) u (omega (arith, le)))

-- so a letter at a root is no letter behind it
letter_missing : (k c : ℕ) (w : List (RingLetter ℕ)) (u : List ℕ) → (k, c) ∷ w ≡ filter is_nonzero (full_from (k + 1) u) → ⊥
letter_missing k c w u h =
    let low = subst (AllByRecursion (λ (x : RingLetter ℕ). k + 1 ≤ x.0)) (sym h) (letters-from (k + 1) (k + 1) u (omega arith)) in
    let first : k + 1 ≤ k = low.0 in
    omega (arith, first)

-- equal letters of two lists are at equal elements
same_first : (k a b : ℕ) (u v : List ℕ) (s t : Bool) → nat_eq a 0 ≡ s → nat_eq b 0 ≡ t
    → ◌≡◌ {A = List (RingLetter ℕ)} (cond (not s) ((k, a) ∷ filter is_nonzero (full_from (k + 1) u)) (filter is_nonzero (full_from (k + 1) u)))
    (cond (not t) ((k, b) ∷ filter is_nonzero (full_from (k + 1) v)) (filter is_nonzero (full_from (k + 1) v)))
    → (a ≡ b) × (filter is_nonzero (full_from (k + 1) u) ≡ filter is_nonzero (full_from (k + 1) v))
same_first k a b u v true true p q h =
    let zeros : a ≡ b = grind (arith, nat_tests) in
    (zeros, h)
same_first k a b u v true false p q h = absurd (letter_missing k b (filter is_nonzero (full_from (k + 1) v)) u (sym h))
same_first k a b u v false true p q h = absurd (letter_missing k a (filter is_nonzero (full_from (k + 1) u)) v h)
same_first k a b u v false false p q h =
    let letter = λ (n : ℕ). let x : RingLetter ℕ = (k, n) in x in
    let first : letter a ≡ letter b = cc in
    let rest : filter is_nonzero (full_from (k + 1) u) ≡ filter is_nonzero (full_from (k + 1) v) = cc in
    (ap (λ (x : RingLetter ℕ). x.1) first, rest)

-- as many elements with the same letters are the same
same_elements : (k : ℕ) (u v : List ℕ) → length u ≡ length v → filter is_nonzero (full_from k u) ≡ filter is_nonzero (full_from k v) → u ≡ v
same_elements k [] [] long e = refl
same_elements k [] (b ∷ v) long e = absurd (omega (arith, long))
same_elements k (a ∷ u) [] long e = absurd (omega (arith, long))
same_elements k (a ∷ u) (b ∷ v) long e =
    let parts = same_first k a b u v (nat_eq a 0) (nat_eq b 0) refl refl e in
    ap₂ (λ (n : ℕ) (l : List ℕ). n ∷ l) parts.0 (same_elements (k + 1) u v (omega (arith, long)) parts.1)

-- ---- forms

-- what stands before the first bar, and behind it
at_bar : (a b x y : List ℕ) → Avoids 124 a → Avoids 124 b → a ++ (codes " | " ++ x) ≡ b ++ (codes " | " ++ y) → (a ≡ b) × (x ≡ y)
at_bar a b x y h k e =
    let regroup = λ (l m : List ℕ). append_assoc l (32 ∷ []) (124 ∷ 32 ∷ m) in
    let parts = same_parts 124 (a ++ 32 ∷ []) (b ++ 32 ∷ []) (32 ∷ x) (32 ∷ y) (avoids-append 124 a (32 ∷ []) h (refl, tt)) (avoids-append 124 b (32 ∷ []) k (refl, tt))
    (regroup a x ∙ e ∙ sym (regroup b y)) in
    let behind : x ≡ y = (let h = parts.1 in cc) in
    (append_cancel_right a b (32 ∷ []) parts.0, behind)

-- lists of m elements, as many entries, and a word, all of small numbers
pub record IsSmallForm (m d : ℕ) (x : FormData) (p : List ℕ) : Type 0 where
  pub few : 1 + m < 2 ^ 64
  pub first_long : length x.first ≡ m
  pub first : AllByRecursion IsSmall x.first
  pub torus_long : length x.torus ≡ d
  pub torus : AllByRecursion IsSmall x.torus
  pub word : AllByRecursion IsSmall p
  pub second_long : length x.second ≡ m
  pub second : AllByRecursion IsSmall x.second

-- two lists of elements with one text are equal
same_list : (m : ℕ) (u v : List ℕ) → 1 + m < 2 ^ 64 → length u ≡ m → length v ≡ m → AllByRecursion IsSmall u → AllByRecursion IsSmall v
    → letters_text (nonzero_letters u) ≡ letters_text (nonzero_letters v) → u ≡ v
same_list m u v few a b h k e =
    same_elements 1 u v (a ∙ sym b)
    (same_letters (nonzero_letters u) (nonzero_letters v) (small_letters 1 u (omega (arith, few, a)) h) (small_letters 1 v (omega (arith, few, b)) k) e)

list-avoids : (m : ℕ) (u : List ℕ) → 1 + m < 2 ^ 64 → length u ≡ m → AllByRecursion IsSmall u → Avoids 124 (letters_text (nonzero_letters u))
list-avoids m u few long h =
    let bar : IsOther 124 = (inr (omega arith), refl, refl, refl) in
    avoids-listed 124 refl refl (map root_letter_text (nonzero_letters u)) (letters-avoid 124 bar (nonzero_letters u) (small_letters 1 u (omega (arith, few, long)) h))

-- two forms with one text have the same lists, torus vector and word
pub text_tells : (m d : ℕ) (x y : FormData) (p q : List ℕ) → IsSmallForm m d x p → IsSmallForm m d y q → form_text x p ≡ form_text y q
    → (x.first ≡ y.first) × (x.torus ≡ y.torus) × (p ≡ q) × (x.second ≡ y.second)
text_tells m d x y p q a b e =
    let behind_word = λ (z : FormData) (r : List ℕ). indices_text r ++ (codes " | " ++ letters_text (nonzero_letters z.second)) in
    let behind_entries = λ (z : FormData) (r : List ℕ). entries_text z.torus ++ (codes " | " ++ behind_word z r) in
    let regroup : (z : FormData) (r : List ℕ) → form_text z r ≡ letters_text (nonzero_letters z.first) ++ (codes " | " ++ behind_entries z r) = λ z r. simp append_assoc in
    let bar : IsNoDigit 124 = inr (omega arith) in
    let one = at_bar (letters_text (nonzero_letters x.first)) (letters_text (nonzero_letters y.first)) (behind_entries x p) (behind_entries y q)
    (list-avoids m x.first a.few a.first_long a.first) (list-avoids m y.first b.few b.first_long b.first) (sym (regroup x p) ∙ e ∙ regroup y q) in
    let two = at_bar (entries_text x.torus) (entries_text y.torus) (behind_word x p) (behind_word y q)
    (avoids-join 124 refl (map decimal x.torus) (decimals-avoid 124 bar x.torus a.torus)) (avoids-join 124 refl (map decimal y.torus) (decimals-avoid 124 bar y.torus b.torus)) one.1 in
    let three = at_bar (indices_text p) (indices_text q) (letters_text (nonzero_letters x.second)) (letters_text (nonzero_letters y.second))
    (avoids-listed 124 refl refl (map decimal p) (decimals-avoid 124 bar p a.word)) (avoids-listed 124 refl refl (map decimal q) (decimals-avoid 124 bar q b.word)) two.1 in (
      same_list m x.first y.first a.few a.first_long b.first_long a.first b.first one.0,
      same_entries x.torus y.torus a.torus b.torus (a.torus_long ∙ sym b.torus_long) two.0,
      same_indices p q a.word b.word three.0,
      same_list m x.second y.second a.few a.second_long b.second_long a.second b.second three.1,
    )
