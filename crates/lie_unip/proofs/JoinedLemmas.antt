-- Words of positive root letters that are joined over a ring, and that a word is joined to the full word of its collected list.
-- Source: Steinberg's relations between root subgroups, on positive roots alone.
use Rattle.std.proofs.Common.{◌≡◌, ℕ, suc, zero, ◌<◌, ◌≤◌, ◌+◌, Bool, true, false, cond, not, List, [], ◌∷◌, ◌++◌, map, length, Option, None, Some, eqb, refl, sym, ap, ap₂, ◌∙◌, subst, arith, append_assoc}
use Rattle.std.proofs.lemmas.Bool.Decides.{nat_tests}
use Rattle.std.specs.Prelude.{nat_lt}
use Rattle.std.specs.Option.{option_map, unwrap_or}
use Rattle.std.specs.Map.{lookup}
use Rattle.std.specs.List.{range_with_len}
use Rattle.lie_letters.specs.RingRelations.{RingRelation, RingJoined, S0-root, S1, S2}
use Rattle.lie_ring.specs.Rings.{RingOn, IsElem, IsRing}
use Rattle.lie_letters.specs.RingLetters.{RingLetter, CommutatorTerm, term_word, inverse_word, OfElements, Within, full_from, full_word}
use Rattle.lie_unip.specs.Splitting.{kept_first, chosen, IsSplit}
use Rattle.lie_unip.proofs.SplitLemmas.{kept_first_order}
use Rattle.lie_unip.proofs.ZeroLemmas.{Dropped-append}
use Rattle.lie_unip.specs.Collection.{replacement, next_word, rewritten, Ends, at_end, by_step, elements, IsCollected, AreCollectable}
use Rattle.lie_unip.proofs.ElementLemmas.{rewritten-elem, term_word-elem, SomeOf}
use Rattle.lie_unip.proofs.BoundLemmas.{Within-append, Within-terms, rewritten-within, SomeWithin}
use Rattle.lie_unip.proofs.SortedLemmas.{bad, BeforeAll, Sorted, ends_sorted}
use Rattle.lie_unip.proofs.FullWordLemmas.{nat_lt_order}
use Rattle.lie_unip.specs.Dropping.{Dropped, nothing, kept, dropped}
use Rattle.lie_letters.specs.Chains.{forward, same}
use Rattle.lie_letters.proofs.ChainLemmas.{one_step, trans, flip, behind}
use Rattle.std.proofs.lemmas.List.FromFn.{length-map-range_with_len}

-- a part has as many elements as the list
pub length-chosen : {A : Type 0} (choice : ℕ → Bool) (z : A) (s : ℕ) (u : List A) → length (chosen choice z s u) ≡ length u
length-chosen choice z s [] = refl
length-chosen choice z s (a ∷ u) = ap suc (length-chosen choice z (s + 1) u)

module _ {A : Type 0} (R : RingOn A) (ring : IsRing R) (m : ℕ) (terms : ℕ → ℕ → List CommutatorTerm) where
  at_front : {l r : List (RingLetter A)} → RingRelation R m terms l r → (w : List (RingLetter A)) → RingJoined R m terms (l ++ w) (r ++ w)
  at_front e w = one_step (forward [] w e)

  inverse_cancel : (u w : List (RingLetter A)) → OfElements R u → Within m u → RingJoined R m terms (u ++ (inverse_word R u ++ w)) w
  inverse_cancel [] w p q = same
  inverse_cancel (x ∷ u) w p q =
      let minus : RingLetter A = (x.0, R.neg x.1) in
      let inner = behind (x ∷ []) (inverse_cancel u (minus ∷ w) p.1 q.2) in
      let whole = subst (λ v. RingJoined R m terms (x ∷ (u ++ v)) (x ∷ minus ∷ w)) (sym (append_assoc (inverse_word R u) (minus ∷ []) w)) inner in
      let sum = at_front (S1 x.0 x.1 (R.neg x.1) q.0 q.1 p.0 (ring.laws.neg_elem x.1 p.0)) w in
      let sum' = subst (λ a. RingJoined R m terms (x ∷ minus ∷ w) ((x.0, a) ∷ w)) (ring.laws.add_neg x.1 p.0) sum in
      trans whole (trans sum' (at_front (S0-root x.0 q.0 q.1) w))

  -- a word is joined to the word without some letters that are 0
  pub dropped_joined : {w v : List (RingLetter A)} → Dropped R w v → Within m w → RingJoined R m terms w v
  dropped_joined nothing q = same
  dropped_joined (kept x d) q = behind (x ∷ []) (dropped_joined d q.2)
  dropped_joined (dropped {w = w} r d) q = trans (at_front (S0-root r q.0 q.1) w) (dropped_joined d q.2)

  module _ (collectable : AreCollectable m terms) where
    -- two neighbours are joined to what takes their place
    pub replaced : (x y : RingLetter A) (w : List (RingLetter A)) → IsElem R x.1 → IsElem R y.1 → Within m (x ∷ y ∷ []) → RingJoined R m terms (x ∷ y ∷ w) (replacement R terms x y ++ w)
    replaced x y w p q h = go (eqb x.0 y.0) refl (nat_lt y.0 x.0) refl
      where
        go : (b : Bool) → eqb x.0 y.0 ≡ b → (c : Bool) → nat_lt y.0 x.0 ≡ c
            → RingJoined R m terms (x ∷ y ∷ w) (cond b ((x.0, R.add x.1 y.1) ∷ []) (cond c (y ∷ x ∷ term_word R (terms y.0 x.0) y.1 x.1) (y ∷ x ∷ inverse_word R (term_word R (terms x.0 y.0) x.1 y.1))) ++ w)
        go true e c f =
            let equal : x.0 ≡ y.0 = grind (arith, nat_tests) in
            subst (λ (r : ℕ). RingJoined R m terms (x ∷ (r, y.1) ∷ w) ((x.0, R.add x.1 y.1) ∷ w)) equal (at_front (S1 x.0 x.1 y.1 h.0 h.1 p q) w)
        go false e true f =
            let below : y.0 < x.0 = grind (arith, nat_tests) in
            at_front (S2 y.0 x.0 y.1 x.1 h.2.0 below h.1 q p) w
        go false e false f =
            let below : x.0 < y.0 = grind (arith, nat_tests) in
            let t = term_word R (terms x.0 y.0) x.1 y.1 in
            let lt = Within-terms R m y.0 (terms x.0 y.0) x.1 y.1 (collectable.later x.0 y.0 h.0 below h.2.1) in
            let insert = flip (behind (x ∷ y ∷ []) (inverse_cancel t w (term_word-elem R ring (terms x.0 y.0) x.1 y.1 p q) lt)) in
            trans insert (flip (at_front (S2 x.0 y.0 x.1 y.1 h.0 below h.2.1 p q) (inverse_word R t ++ w)))

    module _ (before : ℕ → ℕ → Bool) where
      next_joined : (x : RingLetter A) (w v : List (RingLetter A)) → next_word R terms before x w ≡ Some v → OfElements R (x ∷ w) → Within m (x ∷ w) → RingJoined R m terms (x ∷ w) v
      next_joined x [] v e p q = absurd (cc)
      next_joined x (y ∷ w) v e p q = go (bad before x y) refl (next_word R terms before y w) refl (λ u f. next_joined y w u f p.1 q.2) e
        where
          go : (b : Bool) → bad before x y ≡ b → (o : Option (List (RingLetter A))) → next_word R terms before y w ≡ o
              → ((u : List (RingLetter A)) → next_word R terms before y w ≡ Some u → RingJoined R m terms (y ∷ w) u)
              → cond b (Some (replacement R terms x y ++ w)) (option_map (λ v. x ∷ v) o) ≡ Some v → RingJoined R m terms (x ∷ y ∷ w) v
          go true f o g known e =
              let h : (replacement R terms x y ++ w) ≡ v = cc in
              subst (λ z. RingJoined R m terms (x ∷ y ∷ w) z) h (replaced x y w p.0 p.1.0 (q.0, q.1, (q.2.0, q.2.1, tt)))
          go false f None g known e = absurd (cc)
          go false f (Some u) g known e =
              let h : (x ∷ u) ≡ v = cc in
              subst (λ z. RingJoined R m terms (x ∷ y ∷ w) z) h (behind (x ∷ []) (known u g))

      rewritten_joined : (w v : List (RingLetter A)) → rewritten R terms before w ≡ Some v → OfElements R w → Within m w → RingJoined R m terms w v
      rewritten_joined [] v e p q = absurd (cc)
      rewritten_joined (x ∷ w) v e p q = next_joined x w v e p q

      -- a word is joined to what it is collected to
      pub ends_joined : {w z : List (RingLetter A)} → Ends R terms before w z → OfElements R w → Within m w → RingJoined R m terms w z × Within m z
      ends_joined (at_end e) p q = (same, q)
      ends_joined (by_step {w = w} {v = v} e r) p q =
          let known = ends_joined r (subst (SomeOf R) e (rewritten-elem R ring terms before w p)) (subst (SomeWithin m) e (rewritten-within R m terms before collectable w q)) in
          (trans (rewritten_joined w v e p q) known.0, known.1)

  -- ---- the full word of what remains
  lookup_after : (r : ℕ) (w : List (RingLetter A)) → BeforeAll nat_lt r w → lookup (eqb r) w ≡ None
  lookup_after r [] h = refl
  lookup_after r (x ∷ w) h = let b = h.0 in let other : eqb r x.0 ≡ false = grind (arith, nat_tests) in rw other (lookup_after r w h.1)

  later_all : (k : ℕ) (x : RingLetter A) (w : List (RingLetter A)) → k < x.0 → BeforeAll nat_lt x.0 w → BeforeAll nat_lt k w
  later_all k x [] h b = tt
  later_all k x (y ∷ w) h b = let c = b.0 in (grind (arith, nat_tests), later_all k x w h b.1)

  filled : (k n : ℕ) (f : ℕ → A) (z : List (RingLetter A)) → k + n ≡ m → Sorted nat_lt z → BeforeAll nat_lt k z → Within m z
      → ((r : ℕ) → k < r → f r ≡ unwrap_or (lookup (eqb r) z) R.zero) → Dropped R (full_from (k + 1) (map f (range_with_len (k + 1) n))) z
  filled k zero f [] e s b w h = nothing
  filled k zero f (x ∷ z) e s b w h = let c = b.0 in let top = w.1 in let low : k < x.0 = grind (arith, nat_tests) in absurd (omega (arith, e, top, low))
  filled k (suc n) f [] e s b w h =
      let rest = filled (k + 1) n f [] (omega (arith, e)) tt tt tt (λ r l. h r (omega (arith, l))) in
      subst (λ (a : A). Dropped R ((k + 1, a) ∷ full_from (k + 1 + 1) (map f (range_with_len (k + 1 + 1) n))) []) (sym (h (k + 1) (omega arith))) (dropped (k + 1) rest)
  filled k (suc n) f (x ∷ z) e s b w h =
      go (eqb (k + 1) x.0) refl
      (λ g c. filled (k + 1) n f z (omega (arith, e)) s.1 c w.2 (λ r l. h r (omega (arith, l)) ∙ skip r g l))
      (λ c. filled (k + 1) n f (x ∷ z) (omega (arith, e)) s c w (λ r l. h r (omega (arith, l))))
    where
      skip : (r : ℕ) → eqb (k + 1) x.0 ≡ true → k + 1 < r → unwrap_or (lookup (eqb r) (x ∷ z)) R.zero ≡ unwrap_or (lookup (eqb r) z) R.zero
      skip r g l = let other : eqb r x.0 ≡ false = grind (arith, nat_tests) in rw other refl

      go : (t : Bool) → eqb (k + 1) x.0 ≡ t
          → (eqb (k + 1) x.0 ≡ true → BeforeAll nat_lt (k + 1) z → Dropped R (full_from (k + 1 + 1) (map f (range_with_len (k + 1 + 1) n))) z)
          → (BeforeAll nat_lt (k + 1) (x ∷ z) → Dropped R (full_from (k + 1 + 1) (map f (range_with_len (k + 1 + 1) n))) (x ∷ z))
          → Dropped R ((k + 1, f (k + 1)) ∷ full_from (k + 1 + 1) (map f (range_with_len (k + 1 + 1) n))) (x ∷ z)
      go true g here there =
          let equal : k + 1 ≡ x.0 = grind (arith, nat_tests) in
          let value : f (k + 1) ≡ x.1 = h (k + 1) (omega arith) ∙ rw g refl in
          let letter : ◌≡◌ {A = RingLetter A} (k + 1, f (k + 1)) x = λ i. (equal i, value i) in
          let rest = here g (subst (λ (r : ℕ). BeforeAll nat_lt r z) (sym equal) s.0) in
          subst (λ (y : RingLetter A). Dropped R (y ∷ full_from (k + 1 + 1) (map f (range_with_len (k + 1 + 1) n))) (x ∷ z)) (sym letter) (kept x rest)
      go false g here there =
          let c = b.0 in
          let low : k + 1 < x.0 = grind (arith, nat_tests) in
          let after : BeforeAll nat_lt (k + 1) (x ∷ z) = (grind (arith, nat_tests), later_all (k + 1) x z low s.0) in
          let value : f (k + 1) ≡ R.zero = h (k + 1) (omega arith) ∙ ap (λ o. unwrap_or o R.zero) (lookup_after (k + 1) (x ∷ z) after) in
          subst (λ (a : A). Dropped R ((k + 1, a) ∷ full_from (k + 1 + 1) (map f (range_with_len (k + 1 + 1) n))) (x ∷ z)) (sym value) (dropped (k + 1) (there after))

  after_none : (z : List (RingLetter A)) → Within m z → BeforeAll nat_lt 0 z
  after_none [] w = tt
  after_none (x ∷ z) w = let l = w.0 in (grind (arith, nat_tests), after_none z w.2)

  -- a full word is at the first m roots
  pub full_within : (s : ℕ) (c : List A) → 1 ≤ s → s + length c ≤ suc m → Within m (full_from s c)
  full_within s [] a b = tt
  full_within s (x ∷ c) a b = (a, omega (arith, b), full_within (s + 1) c (omega (arith, a)) (omega (arith, b)))

  -- what a word is collected to is the full word of its collected list without the letters that are 0
  pub collected_full : (w : List (RingLetter A)) (u : List A) (c : IsCollected R terms nat_lt m w u) → Within m c.last → Dropped R (full_word u) c.last
  collected_full w u c within =
      let z = c.last in
      let sorted = ends_sorted nat_lt nat_lt_order R terms c.ends in
      let fill : Dropped R (full_word (elements R m z)) z = filled 0 m (λ r. unwrap_or (lookup (eqb r) z) R.zero) z (omega arith) sorted (after_none z within) within (λ r l. refl) in
      subst (λ v. Dropped R (full_word v) z) (sym c.list) fill

  -- a collected list has an element for each root
  pub collected_length : (w : List (RingLetter A)) (u : List A) → IsCollected R terms nat_lt m w u → length u ≡ m
  collected_length w u c = ap length c.list ∙ length-map-range_with_len (λ r. unwrap_or (lookup (eqb r) c.last) R.zero) 1 m

  -- a word is joined to the full word of its collected list
  pub collected_joined : AreCollectable m terms → (w : List (RingLetter A)) (u : List A) → OfElements R w → Within m w → IsCollected R terms nat_lt m w u → RingJoined R m terms w (full_word u)
  collected_joined collectable w u p q c =
      let known = ends_joined collectable nat_lt c.ends p q in
      let count = collected_length w u c in
      trans known.0 (flip (dropped_joined (collected_full w u c known.1) (full_within 1 u (omega arith) (omega (arith, count)))))

  -- ---- the full words of two parts
  -- the letters at the chosen roots
  picked : (ℕ → Bool) → List (RingLetter A) → List (RingLetter A)
  picked choice [] = []
  picked choice (x ∷ w) = cond (choice x.0) (x ∷ picked choice w) (picked choice w)

  module _ (choice : ℕ → Bool) where
    picked-within : (w : List (RingLetter A)) → Within m w → Within m (picked choice w)
    unfolding picked
    picked-within [] h = tt
    picked-within (x ∷ w) h = go (choice x.0) (picked-within w h.2)
      where
        go : (b : Bool) → Within m (picked choice w) → Within m (cond b (x ∷ picked choice w) (picked choice w))
        go true r = (h.0, h.1, r)
        go false r = r

    -- what stands at a root
    picked-lookup : (r : ℕ) (w : List (RingLetter A)) → unwrap_or (lookup (eqb r) (picked choice w)) R.zero ≡ cond (choice r) (unwrap_or (lookup (eqb r) w) R.zero) R.zero
    unfolding picked
    picked-lookup r [] = by (choice r)
      where
        by : (b : Bool) → R.zero ≡ cond b R.zero R.zero
        by true = refl
        by false = refl
    picked-lookup r (x ∷ w) = go (choice x.0) refl (eqb r x.0) refl (choice r) refl (picked-lookup r w)
      where
        go : (b : Bool) → choice x.0 ≡ b → (c : Bool) → eqb r x.0 ≡ c → (d : Bool) → choice r ≡ d
            → unwrap_or (lookup (eqb r) (picked choice w)) R.zero ≡ cond (choice r) (unwrap_or (lookup (eqb r) w) R.zero) R.zero
            → unwrap_or (lookup (eqb r) (cond b (x ∷ picked choice w) (picked choice w))) R.zero ≡ cond (choice r) (unwrap_or (cond (eqb r x.0) (Some x.1) (lookup (eqb r) w)) R.zero) R.zero
        go true e true f true g known = rw (f, g) refl
        go true e true f false g known = let same : r ≡ x.0 = grind (arith, nat_tests) in let h = ap choice same in absurd (cc)
        go true e false f d g known = rw f known
        go false e true f true g known = let same : r ≡ x.0 = grind (arith, nat_tests) in let h = ap choice same in absurd (cc)
        go false e true f false g known = known ∙ rw (f, g) refl
        go false e false f d g known = known ∙ rw f refl

    chosen-range : (f : ℕ → A) (s n : ℕ) → chosen choice R.zero s (map f (range_with_len s n)) ≡ map (λ r. cond (choice r) (f r) R.zero) (range_with_len s n)
    chosen-range f s zero = refl
    chosen-range f s (suc n) = ap (λ l. cond (choice s) (f s) R.zero ∷ l) (chosen-range f (s + 1) n)

    module _ (before : ℕ → ℕ → Bool) (rising : (r s : ℕ) → choice r ≡ true → choice s ≡ true → before r s ≡ true → nat_lt r s ≡ true) where
      picked-before : (r : ℕ) (w : List (RingLetter A)) → choice r ≡ true → BeforeAll before r w → BeforeAll nat_lt r (picked choice w)
      unfolding picked
      picked-before r [] e h = tt
      picked-before r (x ∷ w) e h = go (choice x.0) refl (picked-before r w e h.1)
        where
          go : (b : Bool) → choice x.0 ≡ b → BeforeAll nat_lt r (picked choice w) → BeforeAll nat_lt r (cond b (x ∷ picked choice w) (picked choice w))
          go true f known = (rising r x.0 e f h.0, known)
          go false f known = known

      picked-sorted : (w : List (RingLetter A)) → Sorted before w → Sorted nat_lt (picked choice w)
      unfolding picked
      picked-sorted [] h = tt
      picked-sorted (x ∷ w) h = go (choice x.0) refl (picked-sorted w h.1) (λ e. picked-before x.0 w e h.0)
        where
          go : (b : Bool) → choice x.0 ≡ b → Sorted nat_lt (picked choice w) → (choice x.0 ≡ true → BeforeAll nat_lt x.0 (picked choice w)) → Sorted nat_lt (cond b (x ∷ picked choice w) (picked choice w))
          go true f known front = (front f, known)
          go false f known front = known

      -- the full word of the chosen elements of a sorted word
      part_full : (z : List (RingLetter A)) → Sorted before z → Within m z → Dropped R (full_word (chosen choice R.zero 1 (elements R m z))) (picked choice z)
      part_full z s w =
          let f : ℕ → A = λ r. unwrap_or (lookup (eqb r) z) R.zero in
          subst (λ l. Dropped R (full_word l) (picked choice z)) (sym (chosen-range f 1 m))
          (filled 0 m (λ r. cond (choice r) (f r) R.zero) (picked choice z) (omega arith) (picked-sorted z s) (after_none (picked choice z) (picked-within z w)) (picked-within z w)
          (λ r l. sym (picked-lookup r z)))

  -- a word whose roots that are kept come first has its letters at them, and then the others
  none_kept : (stays : ℕ → Bool) (r : ℕ) (w : List (RingLetter A)) → stays r ≡ false → BeforeAll (kept_first stays) r w → (picked stays w ≡ []) × (picked (λ s. not (stays s)) w ≡ w)
  unfolding picked
  none_kept stays r [] e h = (refl, refl)
  none_kept stays r (x ∷ w) e h = go (stays r) (stays x.0) refl e h.0 (none_kept stays r w e h.1)
    where
      go : (a b : Bool) → stays x.0 ≡ b → a ≡ false → cond a (cond b (nat_lt r x.0) true) (cond b false (nat_lt r x.0)) ≡ true → (picked stays w ≡ []) × (picked (λ s. not (stays s)) w ≡ w)
          → (cond (stays x.0) (x ∷ picked stays w) (picked stays w) ≡ []) × (cond (not (stays x.0)) (x ∷ picked (λ s. not (stays s)) w) (picked (λ s. not (stays s)) w) ≡ x ∷ w)
      go true b g e h known = absurd (cc)
      go false true g e h known = absurd (cc)
      go false false g e h known = (rw g known.0, rw g (ap (λ l. x ∷ l) known.1))

  both_picked : (stays : ℕ → Bool) (w : List (RingLetter A)) → Sorted (kept_first stays) w → picked stays w ++ picked (λ s. not (stays s)) w ≡ w
  unfolding picked
  both_picked stays [] h = refl
  both_picked stays (x ∷ w) h = go (stays x.0) refl (both_picked stays w h.1) (λ e. none_kept stays x.0 w e h.0)
    where
      go : (b : Bool) → stays x.0 ≡ b → picked stays w ++ picked (λ s. not (stays s)) w ≡ w → (stays x.0 ≡ false → (picked stays w ≡ []) × (picked (λ s. not (stays s)) w ≡ w))
          → cond (stays x.0) (x ∷ picked stays w) (picked stays w) ++ cond (not (stays x.0)) (x ∷ picked (λ s. not (stays s)) w) (picked (λ s. not (stays s)) w) ≡ x ∷ w
      go true e known rest = rw e (ap (λ l. x ∷ l) known)
      go false e known rest = let k = rest e in rw e (ap₂ (λ p q. p ++ x ∷ q) k.0 k.1)

  rising_kept : (stays : ℕ → Bool) (r s : ℕ) → stays r ≡ true → stays s ≡ true → kept_first stays r s ≡ true → nat_lt r s ≡ true
  rising_kept stays r s e f h = rw (e, f) at h

  rising_others : (stays : ℕ → Bool) (r s : ℕ) → not (stays r) ≡ true → not (stays s) ≡ true → kept_first stays r s ≡ true → nat_lt r s ≡ true
  rising_others stays r s e f h = go (stays r) (stays s) e f h
    where
      go : (a b : Bool) → not a ≡ true → not b ≡ true → cond a (cond b (nat_lt r s) true) (cond b false (nat_lt r s)) ≡ true → nat_lt r s ≡ true
      go true b e f h = absurd (cc)
      go false true e f h = absurd (cc)
      go false false e f h = h

  -- a full word is joined to the full words of its two parts
  pub split_joined : AreCollectable m terms → (stays : ℕ → Bool) (u v w : List A) → OfElements R (full_word u) → Within m (full_word u) → IsSplit R terms m stays u v w
      → RingJoined R m terms (full_word u) (full_word v ++ full_word w)
  split_joined collectable stays u v w p q s =
      let c = s.collected in
      let z = c.last in
      let known = ends_joined collectable (kept_first stays) c.ends p q in
      let sorted = ends_sorted (kept_first stays) (kept_first_order stays) R terms c.ends in
      let first : Dropped R (full_word v) (picked stays z) =
      subst (λ l. Dropped R (full_word l) (picked stays z)) (sym (s.first ∙ ap (chosen stays R.zero 1) c.list)) (part_full stays (kept_first stays) (rising_kept stays) z sorted known.1) in
      let second : Dropped R (full_word w) (picked (λ r. not (stays r)) z) =
      subst (λ l. Dropped R (full_word l) (picked (λ r. not (stays r)) z)) (sym (s.second ∙ ap (chosen (λ r. not (stays r)) R.zero 1) c.list))
      (part_full (λ r. not (stays r)) (kept_first stays) (rising_others stays) z sorted known.1) in
      let both : Dropped R (full_word v ++ full_word w) z = subst (λ l. Dropped R (full_word v ++ full_word w) l) (both_picked stays z sorted) (Dropped-append R first second) in
      let long = length-map-range_with_len (λ r. unwrap_or (lookup (eqb r) z) R.zero) 1 m in
      let count = ap length c.list ∙ long in
      let lv = ap length s.first ∙ length-chosen stays R.zero 1 s.whole ∙ count in
      let lw = ap length s.second ∙ length-chosen (λ r. not (stays r)) R.zero 1 s.whole ∙ count in
      let within = Within-append R m (full_word v) (full_word w) (full_within 1 v (omega arith) (omega (arith, lv))) (full_within 1 w (omega arith) (omega (arith, lw))) in
      trans known.0 (flip (dropped_joined both within))
