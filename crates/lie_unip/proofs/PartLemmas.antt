-- The parts of a list, and the bodies that make them.
use Rattle.std.proofs.Common.{◌≡◌, ℕ, zero, suc, ◌<◌, ◌≤◌, ◌+◌, ◌-◌, Bool, false, cond, not, List, [], ◌∷◌, ◌++◌, length, take, replicate, get_or, eqb, sym, ap, ap₂, ◌∙◌, subst, arith}
use Rattle.std.proofs.lemmas.List.{take_more, take_all}
use Rattle.std.proofs.lemmas.List.FromFn.{get_or-map-range_with_len, length-map-range_with_len}
use Rattle.std.specs.Map.{lookup}
use Rattle.std.specs.Option.{unwrap_or}
use Rattle.lie_ring.specs.Rings.{RingOn, IsRing}
use Rattle.lie_letters.specs.RingLetters.{full_word}
use Rattle.lie_letters.specs.PositiveTerms.{positive_terms}
use Rattle.lie_const.specs.ConstantTables.{ConstantTable}
use Rattle.lie_unip.specs.Collection.{elements, AreEntries, IsCollected}
use Rattle.lie_unip.specs.Splitting.{kept_first, kept_at, chosen, IsSplit}
use Rattle.lie_unip.specs.Placing.{letters_at, IsCollector}
use Rattle.lie_unip.proofs.SplitLemmas.{kept_first_order}
use Rattle.lie_unip.proofs.OrderedLemmas.{letters_lookup, letters_zero, letters_word}
use Rattle.lie_unip.proofs.JoinedLemmas.{length-chosen}
use Rattle.lie_unip.proofs.MoveLemmas.{after_zeros}
use Rattle.lie_unip.proofs.WordLemmas.{zeros_are, zero_elements, word_lawful}

module _ {A : Type 0} (choice : ℕ → Bool) (z : A) where
  -- the element of a part at a place
  pub chosen_at : (s k : ℕ) (u : List A) → k < length u → get_or (chosen choice z s u) k z ≡ cond (choice (s + k)) (get_or u k z) z
  chosen_at s k [] h = absurd (omega (arith, h))
  chosen_at s zero (a ∷ u) h = let e : s ≡ s + 0 = omega arith in ap (λ n. cond (choice n) a z) e
  chosen_at s (suc k) (a ∷ u) h = let e : s + 1 + k ≡ s + suc k = omega arith in chosen_at (s + 1) k u (omega (arith, h)) ∙ ap (λ n. cond (choice n) (get_or u k z) z) e

  -- one element more
  pub chosen_more : (s k : ℕ) (u : List A) → k < length u → take (k + 1) (chosen choice z s u) ≡ take k (chosen choice z s u) ++ cond (choice (s + k)) (get_or u k z) z ∷ []
  chosen_more s k u h =
      let long : k < length (chosen choice z s u) = subst (λ n. k < n) (sym (length-chosen choice z s u)) h in
      take_more (chosen choice z s u) k z long ∙ ap (λ x. take k (chosen choice z s u) ++ x ∷ []) (chosen_at s k u h)

module _ {A : Type 0} (R : RingOn A) (z : A) (t : ConstantTable) (kept : List Bool) (roots places : List ℕ) (lawful : IsCollector R z t kept roots places) (c : List A) (entries : AreEntries R (length roots) c) where
  abbrev whole : List A
  whole = elements R t.positive (letters_at roots c)

  -- the place of a root is in the sorted word
  pub place_within : (k : ℕ) → k < t.positive → get_or places k 0 < length c
  place_within k h =
      let known = lawful.placed (k + 1) (omega arith) (omega (arith, h)) in
      let back : k + 1 - 1 ≡ k = omega arith in
      let inside : get_or places k 0 < length roots = subst (λ n. get_or places n 0 < length roots) back known.0 in
      let e = entries.count in
      omega (arith, inside, e)

  -- the element at a root of the sorted word
  element_at : (k : ℕ) → k < t.positive → get_or whole k R.zero ≡ get_or c (get_or places k 0) R.zero
  element_at k h =
      let known = lawful.placed (k + 1) (omega arith) (omega (arith, h)) in
      let back : k + 1 - 1 ≡ k = omega arith in
      let inside : get_or places k 0 < length roots = subst (λ n. get_or places n 0 < length roots) back known.0 in
      let root : get_or roots (get_or places k 0) 0 ≡ k + 1 = ap (λ n. get_or roots (get_or places n 0) 0) (sym back) ∙ known.1 in
      get_or-map-range_with_len (λ r. unwrap_or (lookup (eqb r) (letters_at roots c)) R.zero) 1 t.positive k (k + 1) R.zero h (omega arith)
      ∙ ap (λ r. unwrap_or (lookup (eqb r) (letters_at roots c)) R.zero) (sym root)
      ∙ ap (λ o. unwrap_or o R.zero) (letters_lookup (kept_first (kept_at kept)) (kept_first_order (kept_at kept)) roots c (get_or places k 0) R.zero lawful.sorted inside (let e = entries.count in omega (arith, inside, e)))

  -- a part, one element more
  pub part_more : (first : Bool) (k : ℕ) (x : A) (old new : List A) → k < t.positive
      → x ≡ cond (cond first (get_or kept k false) (not (get_or kept k false))) (get_or c (get_or places k 0) R.zero) R.zero
      → old ≡ take k (chosen (λ r. cond first (kept_at kept r) (not (kept_at kept r))) R.zero 1 whole) → new ≡ old ++ x ∷ []
      → new ≡ take (k + 1) (chosen (λ r. cond first (kept_at kept r) (not (kept_at kept r))) R.zero 1 whole)
  part_more first k x old new h value e f =
      let choice : ℕ → Bool = λ r. cond first (kept_at kept r) (not (kept_at kept r)) in
      let long : k < length whole = let l = length-map-range_with_len (λ r. unwrap_or (lookup (eqb r) (letters_at roots c)) R.zero) 1 t.positive in omega (arith, h, l) in
      let back : 1 + k - 1 ≡ k = omega arith in
      let here : x ≡ cond (choice (1 + k)) (get_or whole k R.zero) R.zero =
      value ∙ ap₂ (λ (n : ℕ) (y : A). cond (cond first (get_or kept n false) (not (get_or kept n false))) y R.zero) (sym back) (sym (element_at k h)) in
      f ∙ ap₂ (λ (l : List A) (y : A). l ++ y ∷ []) e here ∙ sym (chosen_more choice R.zero 1 k whole long)

  -- a part is done where all its elements are
  pub part_all : (first : Bool) (k : ℕ) (new : List A) → t.positive ≤ k → new ≡ take k (chosen (λ r. cond first (kept_at kept r) (not (kept_at kept r))) R.zero 1 whole)
      → new ≡ chosen (λ r. cond first (kept_at kept r) (not (kept_at kept r))) R.zero 1 whole
  part_all first k new h e =
      let choice : ℕ → Bool = λ r. cond first (kept_at kept r) (not (kept_at kept r)) in
      let l = length-chosen choice R.zero 1 whole in
      let m = length-map-range_with_len (λ r. unwrap_or (lookup (eqb r) (letters_at roots c)) R.zero) 1 t.positive in
      e ∙ take_all k (chosen choice R.zero 1 whole) (omega (arith, h, l, m))

  -- a part has an element for each root
  pub length-part : (first : Bool) → length (chosen (λ r. cond first (kept_at kept r) (not (kept_at kept r))) R.zero 1 whole) ≡ t.positive
  length-part first =
      length-chosen (λ r. cond first (kept_at kept r) (not (kept_at kept r))) R.zero 1 whole ∙ length-map-range_with_len (λ r. unwrap_or (lookup (eqb r) (letters_at roots c)) R.zero) 1 t.positive

-- the two parts of what a collector answers to a full word
pub split_at : {A : Type 0} (R : RingOn A) → IsRing R → (z : A) (t : ConstantTable) (kept : List Bool) (roots places : List ℕ) → IsCollector R z t kept roots places
    → (c u e v w : List A) → c ≡ replicate (length roots) R.zero → AreEntries R t.positive u
    → IsCollected R (positive_terms t) (kept_first (kept_at kept)) t.positive (letters_at roots c ++ full_word u) (elements R t.positive (letters_at roots e))
    → v ≡ chosen (kept_at kept) R.zero 1 (elements R t.positive (letters_at roots e)) → w ≡ chosen (λ r. not (kept_at kept r)) R.zero 1 (elements R t.positive (letters_at roots e))
    → IsSplit R (positive_terms t) t.positive (kept_at kept) u v w
split_at R ring z t kept roots places lawful c u e v w zeros entries d f g = record {
  whole = elements R t.positive (letters_at roots e);
  collected =
      let n = length roots in
      let start = letters_at roots (replicate n R.zero) in
      after_zeros R ring t.positive (positive_terms t) lawful.collectable (kept_first (kept_at kept)) (kept_first_order (kept_at kept)) start (full_word u) (elements R t.positive (letters_at roots e))
      (letters_zero R t.positive roots (replicate n R.zero) (zeros_are R n)) (letters_word R t.positive roots (replicate n R.zero) lawful.within (zero_elements R ring n)) (word_lawful R ring t.positive u entries)
      (subst (λ x. IsCollected R (positive_terms t) (kept_first (kept_at kept)) t.positive (letters_at roots x ++ full_word u) (elements R t.positive (letters_at roots e))) zeros d);
  first = f;
  second = g;
}

-- the same where the ring, the table and the list of the roots that are kept are known under other names
pub split_renamed : {A : Type 0} (R S : RingOn A) (t s : ConstantTable) (m : ℕ) (kept known : List Bool) (u v w : List A) → S ≡ R → s ≡ t → t.positive ≡ m → kept ≡ known
    → IsSplit S (positive_terms s) s.positive (kept_at kept) u v w → IsSplit R (positive_terms t) m (kept_at known) u v w
split_renamed R S t s m kept known u v w ring table count list x =
    subst (λ k. IsSplit R (positive_terms t) m (kept_at k) u v w) list
    (subst (λ n. IsSplit R (positive_terms t) n (kept_at kept) u v w) count
    (subst (λ y. IsSplit R (positive_terms y) y.positive (kept_at kept) u v w) table
    (subst (λ Q. IsSplit Q (positive_terms s) s.positive (kept_at kept) u v w) ring x)))
