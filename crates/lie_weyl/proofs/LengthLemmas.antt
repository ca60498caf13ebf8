-- Lengths of products of simple reflections: one letter more changes them by one, and every product has a word of its length.
use Rattle.std.proofs.Common.{◌≡◌, ℕ, zero, suc, ◌+◌, ◌≤◌, ℤ, pos, ◌+ℤ◌, List, [], ◌∷◌, ◌++◌, length, reverse, Bool, true, false, cond, refl, sym, ap, subst, ◌∙◌, arith, ◌⊎◌, inl, inr, ⊎_elim, length-append}
use Rattle.std.proofs.lemmas.Int.{ints}
use Rattle.std.proofs.lemmas.List.{length-reverse, reverse-reverse}
use Rattle.std.specs.List.{count_by}
use Rattle.std.proofs.lemmas.List.Sums.{count_by-le-length, sum_by-cons}
use Rattle.lie_datum.specs.declared.root_pair.Root.{Root}
use Rattle.lie_datum.specs.Vectors.{total}
use Rattle.lie_datum.specs.RootDatum.{rank, simple, reflected, IsSimpleIndex, IsRoot, is_simple, is_reflected, IsPositive}
use Rattle.lie_datum.specs.RootList.{RootDatum, IsLoaded}
use Rattle.lie_base.proofs.Members.{In, here, there, without, total-without, in_without, from_without, HasNoRepeats-without, total_permuted}
use Rattle.lie_datum.proofs.LoadedLaws.{positive_in, positive_only, stays, sorted_simple, positive_dec}
use Rattle.lie_weyl.specs.WeylElement.{moved, SameProduct, is_negative, word_length}
use Rattle.lie_weyl.proofs.Words.{IsWord, empty, letter, IsWord-append, one_letter, IsWord-reverse, reverse-cons, IsRoot-moved, moved-append, reverse_same, twice}
use Rattle.lie_weyl.proofs.Signs.{positive_test, negative_test, turned_negative, turned_positive, simple_up}
use Rattle.lie_weyl.proofs.ExchangeLemmas.{exchange, exchanged_length, exchanged_same}

-- 1 where the test holds
abbrev ones : {A : Type 0} → (A → Bool) → A → ℤ
ones p x = cond (p x) (pos 1) (pos 0)

count-cons : {A : Type 0} (p : A → Bool) (x : A) (xs : List A) → count_by p (x ∷ xs) ≡ cond (p x) 1 0 + count_by p xs
count-cons p x xs = sum_by-cons (λ y. cond (p y) 1 0) x xs

count-total : {A : Type 0} (p : A → Bool) (xs : List A) → pos (count_by p xs) ≡ total (ones p) xs
count-total p [] = refl
count-total p (x ∷ xs) = ap pos (count-cons p x xs) ∙ by (p x) (count-total p xs)
  where
    by : (b : Bool) → pos (count_by p xs) ≡ total (ones p) xs → pos (cond b 1 0 + count_by p xs) ≡ cond b (pos 1) (pos 0) +ℤ total (ones p) xs
    by true h = omega (arith, ints, h)
    by false h = omega (arith, ints, h)

count_same : {A : Type 0} (p q : A → Bool) (xs : List A) → ((x : A) → In x xs → p x ≡ q x) → count_by p xs ≡ count_by q xs
count_same p q [] h = refl
count_same p q (x ∷ xs) h =
    count-cons p x xs ∙ ap (λ (b : Bool). cond b 1 0 + count_by p xs) (h x (here refl)) ∙ ap (λ n. cond (q x) 1 0 + n) (count_same p q xs (λ y m. h y (there m))) ∙ sym (count-cons q x xs)

count_none : {A : Type 0} (p : A → Bool) (xs : List A) → ((x : A) → In x xs → p x ≡ false) → count_by p xs ≡ 0
count_none p [] h = refl
count_none p (x ∷ xs) h =
    let rest = count_none p xs (λ y m. h y (there m)) in
    count-cons p x xs ∙ ap (λ (b : Bool). cond b 1 0 + count_by p xs) (h x (here refl)) ∙ omega (arith, rest)

module _ (d : RootDatum) (loaded : IsLoaded d) where
  -- words of one product have one length
  pub length_same : (w v : List ℕ) → SameProduct d w v → word_length d w ≡ word_length d v
  length_same w v h =
      count_same (λ r. is_negative (moved d.base w r)) (λ r. is_negative (moved d.base v r)) d.positive
      (λ r m. ap is_negative (h r (positive_only d loaded r m).0))

  pub length_empty : word_length d [] ≡ 0
  length_empty = count_none is_negative d.positive (λ r m. positive_test r (positive_only d loaded r m).1)

  -- ---- one letter more, behind the word
  module _ (w : List ℕ) (i : ℕ) (h : IsWord d.base w) (s : IsSimpleIndex d.base i) where
    -- s_i permutes the positive roots other than a_i
    turned_away : (t : Root) → IsRoot d.base t → IsPositive t → ¬ (reflected d.base i t ≡ simple i)
    turned_away t p q e =
        turned_negative d loaded [] i empty s (simple_up d loaded i s)
        (subst IsPositive (sym (twice d loaded i t s p) ∙ ap (reflected d.base i) e) q)

    stays_in : (t : Root) → IsRoot d.base t → IsPositive t → ¬ (t ≡ simple i) → IsPositive (reflected d.base i t)
    stays_in t p q n = by i s n
      where
        by : (k : ℕ) → IsSimpleIndex d.base k → ¬ (t ≡ simple k) → IsPositive (reflected d.base k t)
        by zero s n = absurd (omega (arith, s.0))
        by (suc k) s n = stays d loaded k t s p q n

    g : Root → Bool
    g t = is_negative (moved d.base w t)

    f : Root → Bool
    f t = is_negative (moved d.base (w ++ i ∷ []) t)

    -- the two counts differ as the signs at a_i do
    difference : total (ones f) d.positive +ℤ ones g (simple i) ≡ total (ones g) d.positive +ℤ ones f (simple i)
    unfolding g f
    difference =
        let ps = d.positive in
        let once = sorted_simple ps loaded.listed.sorted in
        let p = positive_in d loaded (simple i) (is_simple i s) (simple_up d loaded i s) in
        let qs = without p in
        let a = HasNoRepeats-without ps p once in
        let root = λ (t : Root) (m : In t qs). positive_only d loaded t (from_without ps p t m) in
        let turn : total (ones f) qs ≡ total (λ t. ones g (reflected d.base i t)) qs = same_total qs in
        let permuted = total_permuted (reflected d.base i) (ones g) qs a.1
        (λ t m. ⊎_elim (λ e. absurd (turned_away t (root t m).0 (root t m).1 e)) (λ r. r)
        (in_without ps p (reflected d.base i t) (positive_in d loaded (reflected d.base i t) (is_reflected i t s (root t m).0)
        (stays_in t (root t m).0 (root t m).1 (λ e. a.0 (subst (λ v. In v qs) e m))))))
        (λ t m. twice d loaded i t s (root t m).0) in
        let x = total-without (ones f) (simple i) ps p in
        let y = total-without (ones g) (simple i) ps p in
        omega (arith, ints, x, y, turn, permuted)
      where
        same_total : (xs : List Root) → total (ones f) xs ≡ total (λ t. ones g (reflected d.base i t)) xs
        same_total [] = refl
        same_total (t ∷ xs) = ap (λ b. cond (is_negative b) (pos 1) (pos 0) +ℤ total (ones f) xs) (moved-append d.base w (i ∷ []) t) ∙ ap (λ n. ones g (reflected d.base i t) +ℤ n) (same_total xs)

    counts : (a b : ℤ) → ones f (simple i) ≡ a → ones g (simple i) ≡ b → pos (word_length d (w ++ i ∷ [])) +ℤ b ≡ pos (word_length d w) +ℤ a
    unfolding g f
    counts a b e k =
        ap (λ n. n +ℤ b) (count-total f d.positive) ∙ ap (λ n. total (ones f) d.positive +ℤ n) (sym k) ∙ difference
        ∙ ap (λ n. n +ℤ ones f (simple i)) (sym (count-total g d.positive)) ∙ ap (λ n. pos (word_length d w) +ℤ n) e

    -- a word that keeps a_i positive is one shorter
    pub longer : IsPositive (moved d.base w (simple i)) → word_length d (w ++ i ∷ []) ≡ suc (word_length d w)
    unfolding g f
    longer p =
        let e = counts (pos 1) (pos 0)
        (ap (λ b. cond (is_negative b) (pos 1) (pos 0)) (moved-append d.base w (i ∷ []) (simple i)) ∙ ap (λ (b : Bool). cond b (pos 1) (pos 0)) (negative_test (moved d.base w (reflected d.base i (simple i))) (turned_negative d loaded w i h s p)))
        (ap (λ (b : Bool). cond b (pos 1) (pos 0)) (positive_test (moved d.base w (simple i)) p)) in
        omega (arith, ints, e)

    -- and one that makes a_i negative is one longer
    pub shorter : ¬ IsPositive (moved d.base w (simple i)) → suc (word_length d (w ++ i ∷ [])) ≡ word_length d w
    unfolding g f
    shorter n =
        let e = counts (pos 0) (pos 1)
        (ap (λ b. cond (is_negative b) (pos 1) (pos 0)) (moved-append d.base w (i ∷ []) (simple i)) ∙ ap (λ (b : Bool). cond b (pos 1) (pos 0)) (positive_test (moved d.base w (reflected d.base i (simple i))) (turned_positive d loaded w i h s n)))
        (ap (λ (b : Bool). cond b (pos 1) (pos 0)) (negative_test (moved d.base w (simple i)) n)) in
        omega (arith, ints, e)

    pub sign_dec : IsPositive (moved d.base w (simple i)) ⊎ (¬ IsPositive (moved d.base w (simple i)))
    sign_dec = positive_dec d loaded (moved d.base w (simple i)) (IsRoot-moved d loaded w (simple i) h (is_simple i s))

    pub at_most_longer : word_length d (w ++ i ∷ []) ≤ suc (word_length d w)
    at_most_longer = ⊎_elim (λ p. (let e = longer p in omega (arith, e))) (λ n. (let e = shorter n in omega (arith, e))) sign_dec

  -- ---- words without descents
  -- a word that makes no simple root negative has the product 1
  trivial_by : (n : ℕ) (u : List ℕ) → length u ≤ n → IsWord d.base u → ((i : ℕ) → IsSimpleIndex d.base i → IsPositive (moved d.base (reverse u) (simple i))) → SameProduct d (reverse u) []
  trivial_by n [] l h up = λ r p. refl
  trivial_by zero (j ∷ u) l h up = absurd (omega (arith, l))
  trivial_by (suc n) (j ∷ u) l (letter s h) up =
      let v = reverse u in
      let k = IsWord-reverse d.base u h in
      let e = reverse-cons j u in
      ⊎_elim
      (λ q. absurd (turned_negative d loaded v j k s q (subst IsPositive (ap (λ x. moved d.base x (simple j)) e ∙ moved-append d.base v (j ∷ []) (simple j)) (up j s))))
      (λ m. (let x = exchange d loaded v j k s m in
      let y = x.before ++ x.after in
      let long = exchanged_length d loaded v j x in
      let same : SameProduct d (reverse (j ∷ u)) y = λ r p. ap (λ z. moved d.base z r) e ∙ exchanged_same d loaded v j s x r p in
      let back = reverse-reverse y in
      let rest = trivial_by n (reverse y) (let a = length-reverse y in let b = length-reverse u in omega (arith, a, b, l, long)) (IsWord-reverse d.base y x.word)
      (λ i t. subst IsPositive (same (simple i) (is_simple i t) ∙ ap (λ z. moved d.base z (simple i)) (sym back)) (up i t)) in
      λ r p. same r p ∙ ap (λ z. moved d.base z r) (sym back) ∙ rest r p))
      (sign_dec v j k s)

  pub trivial : (w : List ℕ) → IsWord d.base w → ((i : ℕ) → IsSimpleIndex d.base i → IsPositive (moved d.base w (simple i))) → SameProduct d w []
  trivial w h up =
      let e = reverse-reverse w in
      let rest = trivial_by (length (reverse w)) (reverse w) (omega arith) (IsWord-reverse d.base w h) (λ i s. subst (λ z. IsPositive (moved d.base z (simple i))) (sym e) (up i s)) in
      λ r p. ap (λ z. moved d.base z r) (sym e) ∙ rest r p

  -- a simple root that the word makes negative, or none below n
  search : (w : List ℕ) → IsWord d.base w → (n : ℕ) → n ≤ rank d.base →
      ((i : ℕ) × IsSimpleIndex d.base i × (¬ IsPositive (moved d.base w (simple i)))) ⊎ ((i : ℕ) → 1 ≤ i → i ≤ n → IsPositive (moved d.base w (simple i)))
  search w h zero l = inr (λ i a b. absurd (omega (arith, a, b)))
  search w h (suc n) l =
      ⊎_elim (λ f. inl f)
      (λ f. ⊎_elim (λ p. inr (λ i a b. ⊎_elim (λ m. f i a m) (λ m. subst (λ k. IsPositive (moved d.base w (simple k))) (sym m) p) (up_to i n b)))
      (λ m. inl (suc n, (omega arith, l), m)) (sign_dec w (suc n) h (omega arith, l)))
      (search w h n (omega (arith, l)))
    where
      up_to : (i n : ℕ) → i ≤ suc n → (i ≤ n) ⊎ (i ≡ suc n)
      up_to zero n b = inl (omega arith)
      up_to (suc i) zero b = inr (omega (arith, b))
      up_to (suc i) (suc n) b = ⊎_elim (λ m. inl (omega (arith, m))) (λ m. inr (omega (arith, m))) (up_to i n (omega (arith, b)))

  pub descent_or_trivial : (w : List ℕ) → IsWord d.base w → ((i : ℕ) × IsSimpleIndex d.base i × (¬ IsPositive (moved d.base w (simple i)))) ⊎ SameProduct d w []
  descent_or_trivial w h = ⊎_elim (λ f. inl f) (λ f. inr (trivial w h (λ i s. f i s.0 s.1))) (search w h (rank d.base) (omega arith))

  -- ---- words of least length
  pub record HasShortWord (w : List ℕ) (n : ℕ) : Type 0 where
    pub short_word : List ℕ
    pub word : IsWord d.base short_word
    pub same : SameProduct d w short_word
    pub size : length short_word ≡ n

  reduced_by : (n : ℕ) (w : List ℕ) → IsWord d.base w → word_length d w ≡ n → HasShortWord w n
  reduced_by zero w h e = ⊎_elim
      (λ f. absurd (let g = shorter w f.0 h f.1 f.2 in omega (arith, g, e)))
      (λ f. record { short_word = []; word = empty; same = f; size = refl })
      (descent_or_trivial w h)
  reduced_by (suc n) w h e = ⊎_elim
      (λ f. (let i = f.0 in
      let s = f.1 in
      let g = shorter w i h s f.2 in
      let v = w ++ i ∷ [] in
      let q = reduced_by n v (IsWord-append d.base w (i ∷ []) h (one_letter d.base i s)) (omega (arith, g, e)) in record {
        short_word = q.short_word ++ i ∷ [];
        word = IsWord-append d.base q.short_word (i ∷ []) q.word (one_letter d.base i s);
        same = λ r p.
            let t = reflected d.base i r in
            ap (moved d.base w) (sym (twice d loaded i r s p)) ∙ sym (moved-append d.base w (i ∷ []) t) ∙ q.same t (is_reflected i r s p) ∙ sym (moved-append d.base q.short_word (i ∷ []) r);
        size = length-append q.short_word (i ∷ []) ∙ (let z = q.size in omega (arith, z));
      }))
      (λ f. absurd (let a = length_same w [] f in let b = length_empty in omega (arith, a, b, e)))
      (descent_or_trivial w h)

  -- every product has a word of its length
  pub reduced : (w : List ℕ) → IsWord d.base w → HasShortWord w (word_length d w)
  reduced w h = reduced_by (word_length d w) w h refl

  length_le_by : (u : List ℕ) → IsWord d.base u → word_length d (reverse u) ≤ length u
  length_le_by [] h = omega (arith, length_empty)
  length_le_by (i ∷ u) (letter s h) =
      let rest = length_le_by u h in
      let more = at_most_longer (reverse u) i (IsWord-reverse d.base u h) s in
      subst (λ z. word_length d z ≤ suc (length u)) (sym (reverse-cons i u)) (omega (arith, rest, more))

  -- and none shorter
  pub length_le : (w : List ℕ) → IsWord d.base w → word_length d w ≤ length w
  length_le w h =
      let a = length_le_by (reverse w) (IsWord-reverse d.base w h) in
      let b = length-reverse w in
      subst (λ z. word_length d z ≤ length w) (reverse-reverse w) (omega (arith, a, b))

  half : (w : List ℕ) → IsWord d.base w → word_length d (reverse w) ≤ word_length d w
  half w h =
      let q = reduced w h in
      let a = length_same (reverse w) (reverse q.short_word) (reverse_same d loaded w q.short_word h q.word q.same) in
      let b = length_le (reverse q.short_word) (IsWord-reverse d.base q.short_word q.word) in
      let c = length-reverse q.short_word in
      let e = q.size in
      omega (arith, a, b, c, e)

  -- an element and its inverse have one length
  pub length_reverse : (w : List ℕ) → IsWord d.base w → word_length d (reverse w) ≡ word_length d w
  length_reverse w h =
      let a = half w h in
      let b = subst (λ z. word_length d z ≤ word_length d (reverse w)) (reverse-reverse w) (half (reverse w) (IsWord-reverse d.base w h)) in
      omega (arith, a, b)

  -- no more positive roots are made negative than there are
  pub length_all : (w : List ℕ) → word_length d w ≤ length d.positive
  length_all w = count_by-le-length (λ r. is_negative (moved d.base w r)) d.positive
