-- Full words, their inverses, and what the calls of `Unip` owe, over plain variables.
use Rattle.std.proofs.Common.{◌≡◌, Bool, ℕ, suc, zero, ◌<◌, ◌+◌, List, [], ◌∷◌, ◌++◌, length, reverse, take, replicate, get_or, refl, sym, ap, ◌∙◌, subst, arith}
use Rattle.std.proofs.lemmas.List.{length-take-le, take_more, length-replicate}
use Rattle.std.proofs.lemmas.List.FromFn.{length-range_with_len}
use Rattle.std.specs.Prelude.{nat_lt}
use Rattle.std.proofs.lemmas.List.Elements.{All-replicate}
use Rattle.std.specs.List.{range_with_len}
use Rattle.lie_ring.specs.Rings.{RingOn, Fits, IsRing}
use Rattle.lie_letters.specs.RingLetters.{RingLetter, CommutatorTerm, inverse_word, full_word, IsRingWord}
use Rattle.lie_unip.specs.Collection.{IsCollected, AreEntries, AreCollectable, elements}
use Rattle.lie_const.specs.ConstantTables.{ConstantTable}
use Rattle.lie_letters.specs.PositiveTerms.{positive_terms}
use Rattle.lie_unip.specs.Splitting.{kept_first, kept_at}
use Rattle.lie_unip.specs.Placing.{letters_at}
use Rattle.lie_unip.proofs.ElementLemmas.{inverse_word-elem}
use Rattle.lie_unip.proofs.BoundLemmas.{Within-inverse_word}
use Rattle.lie_unip.proofs.FullWordLemmas.{AreElements, AreZero, full_append, full_lawful, full_zero, elements_full, nat_lt_order}
use Rattle.lie_unip.proofs.OrderedLemmas.{letters_full}
use Rattle.lie_unip.proofs.MoveLemmas.{after_zeros}
use Rattle.lie_unip.proofs.TermLemmas.{inverted_push}
use Rattle.lie_unip.proofs.PlacingLemmas.{reverse_push, elements_of}

module _ {A : Type 0} (R : RingOn A) where
  -- the inverse letters, one more
  pub inverse_more : (u : List A) (k : ℕ) (a : A) (w z : List (RingLetter A)) → k < length u → a ≡ get_or u k R.zero
      → reverse w ≡ inverse_word R (full_word (take k u)) → z ≡ w ++ (k + 1, R.neg a) ∷ [] → reverse z ≡ inverse_word R (full_word (take (k + 1) u))
  inverse_more u k a w z h e f g =
      let p = take k u in
      let count : 1 + length p ≡ k + 1 = let l = length-take-le k u (omega (arith, h)) in omega (arith, l) in
      let more : full_word (take (k + 1) u) ≡ full_word p ++ (k + 1, a) ∷ [] =
      ap full_word (take_more u k R.zero h ∙ ap (λ b. p ++ b ∷ []) (sym e)) ∙ full_append 1 p (a ∷ [])
      ∙ ap (λ (n : ℕ). full_word p ++ (n, a) ∷ []) count in
      ap reverse g ∙ reverse_push w (k + 1, R.neg a) ∙ ap (λ l. (k + 1, R.neg a) ∷ l) f
      ∙ sym (inverted_push R (full_word p) (k + 1, a)) ∙ ap (inverse_word R) (sym more)

  -- zeros are 0
  pub zeros_are : (n : ℕ) → AreZero R (replicate n R.zero)
  zeros_are zero = tt
  zeros_are (suc n) = (refl, zeros_are n)

  -- the word at the numbers in order, and its elements
  pub word_in_order : (m : ℕ) (ks : List ℕ) (c : List A) → ks ≡ range_with_len 1 m → length c ≡ m → letters_at ks c ≡ full_word c
  word_in_order m ks c e h = ap (λ k. letters_at k c) (e ∙ ap (range_with_len 1) (sym h)) ∙ letters_full 1 c

  -- full words, and their inverses, are words of letters over the ring
  pub word_lawful : IsRing R → (m : ℕ) (c : List A) → AreEntries R m c → IsRingWord R m (full_word c)
  word_lawful ring m c e = full_lawful R m 1 c (omega arith) (let l = e.count in omega (arith, l)) (elements_of R ring c e.fit)

  -- the inverse letters of a full word are letters over the ring
  pub inverse_lawful : IsRing R → (m : ℕ) (c : List A) → AreEntries R m c → IsRingWord R m (inverse_word R (full_word c))
  inverse_lawful ring m c e = let l = word_lawful ring m c e in (inverse_word-elem R ring (full_word c) l.0, Within-inverse_word R m (full_word c) l.1)

  -- zeros are elements
  pub zero_elements : IsRing R → (n : ℕ) → AreElements R (replicate n R.zero)
  zero_elements ring zero = tt
  zero_elements ring (suc n) = (ring.laws.zero_elem, zero_elements ring n)

  -- zeros are elements that fit
  pub zero_entries : Fits R R.zero → (n : ℕ) → AreEntries R n (replicate n R.zero)
  zero_entries fits n = record { count = length-replicate n R.zero; fit = All-replicate (Fits R) n R.zero fits }

  module _ (ring : IsRing R) (m : ℕ) (terms : ℕ → ℕ → List CommutatorTerm) (collectable : AreCollectable m terms) where
    -- the elements of a full word are the list
    pub elements_in_order : (c : List A) → length c ≡ m → elements R m (full_word c) ≡ c
    elements_in_order c h = ap (λ n. elements R n (full_word c)) (sym h) ∙ elements_full R ring m terms collectable 1 c (full_word c) (λ r l. refl)

    -- a list that the collector answers in the order of the numbers, from a word in that order
    pub answered : (ks : List ℕ) (c e : List A) (w : List (RingLetter A)) → ks ≡ range_with_len 1 m → length c ≡ m → length e ≡ m
        → IsCollected R terms nat_lt m (letters_at ks c ++ w) (elements R m (letters_at ks e)) → IsCollected R terms nat_lt m (full_word c ++ w) e
    answered ks c e w k h l d =
        subst (λ u. IsCollected R terms nat_lt m (full_word c ++ w) u) (ap (elements R m) (word_in_order m ks e k l) ∙ elements_in_order e l)
        (subst (λ v. IsCollected R terms nat_lt m (v ++ w) (elements R m (letters_at ks e))) (word_in_order m ks c k h) d)

    -- the same from zeros
    pub answered_from_zeros : (c e : List A) (w : List (RingLetter A)) → c ≡ replicate m R.zero → IsRingWord R m w → IsCollected R terms nat_lt m (full_word c ++ w) e → IsCollected R terms nat_lt m w e
    answered_from_zeros c e w z l d =
        let zeros = replicate m R.zero in
        let n = length-replicate m R.zero in
        after_zeros R ring m terms collectable nat_lt nat_lt_order (full_word zeros) w e (full_zero R ring m terms collectable 1 zeros (zeros_are m))
        (full_lawful R m 1 zeros (omega arith) (omega (arith, n)) (zero_elements ring m)) l
        (subst (λ b. IsCollected R terms nat_lt m (full_word b ++ w) e) z d)

-- ---- what a collector for the order of the numbers owes and answers, over its own ring and table
module _ {A : Type 0} (R S : RingOn A) (same : S ≡ R) (m : ℕ) (ks : List ℕ) (numbers : ks ≡ range_with_len 1 m) where
  long : length ks ≡ m
  long = ap length numbers ∙ length-range_with_len 1 m

  -- the elements that it is handed
  pub handed_entries : (c : List A) → AreEntries R m c → AreEntries S (length ks) c
  handed_entries c e = subst (λ Q. AreEntries Q (length ks) c) (sym same) (subst (λ n. AreEntries R n c) (sym long) e)

  -- the letters that it is handed
  pub handed_word : (t s : ConstantTable) (w : List (RingLetter A)) → s ≡ t → t.positive ≡ m → IsRingWord R m w → IsRingWord S s.positive w
  handed_word t s w e h l = subst (λ Q. IsRingWord Q s.positive w) (sym same) (subst (λ n. IsRingWord R n w) (sym (ap (λ x. x.positive) e ∙ h)) l)

  -- the elements that it answers
  pub answered_entries : (e : List A) → AreEntries S (length ks) e → AreEntries R m e
  answered_entries e h = subst (λ Q. AreEntries Q m e) same (subst (λ n. AreEntries S n e) long h)

  -- the list that it answers
  pub answered_list : IsRing R → (t s : ConstantTable) (kept : List Bool) (c e : List A) (w : List (RingLetter A)) → AreCollectable t.positive (positive_terms t) → s ≡ t → t.positive ≡ m → kept ≡ []
      → length c ≡ m → length e ≡ m → IsCollected S (positive_terms s) (kept_first (kept_at kept)) s.positive (letters_at ks c ++ w) (elements S s.positive (letters_at ks e))
      → IsCollected R (positive_terms t) nat_lt m (full_word c ++ w) e
  answered_list ring t s kept c e w collectable table count none h l d =
      let collectable' = subst (λ n. AreCollectable n (positive_terms t)) count collectable in
      let d1 = subst (λ Q. IsCollected Q (positive_terms s) (kept_first (kept_at kept)) s.positive (letters_at ks c ++ w) (elements Q s.positive (letters_at ks e))) same d in
      let d2 = subst (λ x. IsCollected R (positive_terms x) (kept_first (kept_at kept)) x.positive (letters_at ks c ++ w) (elements R x.positive (letters_at ks e))) table d1 in
      let d3 = subst (λ n. IsCollected R (positive_terms t) (kept_first (kept_at kept)) n (letters_at ks c ++ w) (elements R n (letters_at ks e))) count d2 in
      let d4 = subst (λ k. IsCollected R (positive_terms t) (kept_first (kept_at k)) m (letters_at ks c ++ w) (elements R m (letters_at ks e))) none d3 in
      answered R ring m (positive_terms t) collectable' ks c e w numbers h l d4
