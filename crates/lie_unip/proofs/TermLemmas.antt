-- What the bodies that put the letters of terms on a list owe, over plain variables.
use Rattle.std.proofs.Common.{◌≡◌, ℕ, pos, negsuc, ◌<◌, ◌+◌, List, [], ◌∷◌, ◌++◌, length, reverse, map, take, drop, get_or, refl, sym, ap, ap₂, ◌∙◌, subst}
use Rattle.std.proofs.lemmas.List.{drop_more, take_more, get_or-map, length-map}
use Rattle.lie_const.specs.declared.term.Term.{Term}
use Rattle.lie_ring.specs.Rings.{RingOn, IsElem, IsRing}
use Rattle.lie_ring.specs.RingLemmas.{one_mul, neg_one_mul, int_neg}
use Rattle.lie_letters.specs.RingLetters.{RingLetter, CommutatorTerm, power, term_word, inverse_word}
use Rattle.lie_letters.specs.PositiveTerms.{positive_term}
use Rattle.lie_unip.proofs.PlacingLemmas.{reverse_push}

module _ {A : Type 0} (R : RingOn A) where
  -- the letter of a term
  abbrev letter_of : A → A → CommutatorTerm → RingLetter A
  letter_of t u c = (c.root, R.mul (R.of_int c.value) (R.mul (power R (R.neg t) c.i) (power R u c.j)))

  abbrev letters_of : List Term → A → A → List (RingLetter A)
  letters_of ts t u = term_word R (map positive_term ts) t u

  letters_long : (ts : List Term) (t u : A) (n : ℕ) → n < length ts → n < length (letters_of ts t u)
  letters_long ts t u n h = subst (λ l. n < l) (sym (length-map (map positive_term ts) (letter_of t u) ∙ length-map ts positive_term)) h

  letter_here : (ts : List Term) (t minus u : A) (n : ℕ) (d : Term) (e : RingLetter A) (r : ℕ) (y : A) → n < length ts → d ≡ get_or ts n d → minus ≡ R.neg t
      → r ≡ (positive_term d).root → y ≡ R.mul (R.of_int d.value) (R.mul (power R minus d.i) (power R u d.j))
      → get_or (letters_of ts t u) n e ≡ (r, y)
  letter_here ts t minus u n d e r y h at neg root value =
      let c = positive_term d in
      let inside : n < length (map positive_term ts) = subst (λ l. n < l) (sym (length-map ts positive_term)) h in
      let term : get_or (map positive_term ts) n (positive_term d) ≡ c = get_or-map positive_term ts n d (positive_term d) h ∙ ap positive_term (sym at) in
      let same : y ≡ (letter_of t u c).1 = value ∙ ap (λ a. R.mul (R.of_int c.value) (R.mul (power R a c.i) (power R u c.j))) neg in
      get_or-map (letter_of t u) (map positive_term ts) n (positive_term d) e inside ∙ ap (letter_of t u) term
      ∙ ap₂ (λ (q : ℕ) (z : A). (q, z)) (sym root) (sym same)

  -- the letters of the terms, one more from the back
  pub put_more : (ts : List Term) (t minus u : A) (k n : ℕ) (d : Term) (r : ℕ) (y : A) (w v z : List (RingLetter A)) → k ≡ n + 1 → n < length ts → d ≡ get_or ts n d → minus ≡ R.neg t
      → r ≡ (positive_term d).root → y ≡ R.mul (R.of_int d.value) (R.mul (power R minus d.i) (power R u d.j))
      → reverse w ≡ drop k (term_word R (map positive_term ts) t u) ++ v → z ≡ w ++ (r, y) ∷ [] → reverse z ≡ drop n (term_word R (map positive_term ts) t u) ++ v
  put_more ts t minus u k n d r y w v z e h at neg root value g i =
      let letters = letters_of ts t u in
      let here : drop n letters ≡ (r, y) ∷ drop (n + 1) letters =
      drop_more letters n (r, y) (letters_long ts t u n h) ∙ ap (λ x. x ∷ drop (n + 1) letters) (letter_here ts t minus u n d (r, y) r y h at neg root value) in
      ap reverse i ∙ reverse_push w (r, y) ∙ ap (λ l. (r, y) ∷ l) (g ∙ ap (λ j. drop j letters ++ v) e) ∙ ap (λ l. l ++ v) (sym here)

  -- the inverse letters of a word with one more letter at its end
  pub inverted_push : (w : List (RingLetter A)) (x : RingLetter A) → inverse_word R (w ++ x ∷ []) ≡ (x.0, R.neg x.1) ∷ inverse_word R w
  inverted_push [] x = refl
  inverted_push (y ∷ w) x = ap (λ l. l ++ (y.0, R.neg y.1) ∷ []) (inverted_push w x)

  -- the inverse letters, one more from the front
  pub put_inverse_more : (ts : List Term) (t minus u : A) (n : ℕ) (d : Term) (r : ℕ) (y b : A) (w v z : List (RingLetter A)) → n < length ts → d ≡ get_or ts n d → minus ≡ R.neg t
      → r ≡ (positive_term d).root → y ≡ R.mul (R.of_int d.value) (R.mul (power R minus d.i) (power R u d.j)) → b ≡ R.neg y
      → reverse w ≡ inverse_word R (take n (term_word R (map positive_term ts) t u)) ++ v → z ≡ w ++ (r, b) ∷ []
      → reverse z ≡ inverse_word R (take (n + 1) (term_word R (map positive_term ts) t u)) ++ v
  put_inverse_more ts t minus u n d r y b w v z h at neg root value inverse g i =
      let letters = letters_of ts t u in
      let more : take (n + 1) letters ≡ take n letters ++ (r, y) ∷ [] =
      take_more letters n (r, y) (letters_long ts t u n h) ∙ ap (λ x. take n letters ++ x ∷ []) (letter_here ts t minus u n d (r, y) r y h at neg root value) in
      let end : inverse_word R (take (n + 1) letters) ≡ (r, b) ∷ inverse_word R (take n letters) =
      ap (inverse_word R) more ∙ inverted_push (take n letters) (r, y) ∙ ap (λ (a : A). (r, a) ∷ inverse_word R (take n letters)) (sym inverse) in
      ap reverse i ∙ reverse_push w (r, b) ∙ ap (λ l. (r, b) ∷ l) g ∙ ap (λ l. l ++ v) (sym end)

  module _ (ring : IsRing R) where
    -- the first power
    pub first_power : (a : A) → IsElem R a → a ≡ power R a 1
    first_power a p = sym (one_mul R ring.laws a p)

    -- once an element, and minus once
    pub times_one : (a : A) → IsElem R a → a ≡ R.mul (R.of_int (pos 1)) a
    times_one a p = sym (ap (λ z. R.mul z a) ring.integers.int_one ∙ one_mul R ring.laws a p)

    -- minus once an element is its negative
    pub times_minus_one : (a : A) → IsElem R a → R.neg a ≡ R.mul (R.of_int (negsuc 0)) a
    times_minus_one a p = sym (ap (λ z. R.mul z a) (int_neg R ring (pos 1) ∙ ap R.neg ring.integers.int_one) ∙ neg_one_mul R ring.laws a p)
