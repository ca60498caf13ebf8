-- Letters whose element is 0 may be dropped from a word, and its collected list stays.
use Rattle.std.proofs.Common.{◌≡◌, ℕ, suc, zero, ◌<◌, ◌≤◌, ◌+◌, ◌⊎◌, inl, inr, Bool, true, false, cond, List, [], ◌∷◌, ◌++◌, map, Option, None, Some, eqb, refl, sym, ap, ap₂, ◌∙◌, subst, arith}
use Rattle.std.proofs.lemmas.Bool.Decides.{nat_tests}
use Rattle.std.specs.Prelude.{nat_lt}
use Rattle.std.specs.Option.{option_map, unwrap_or}
use Rattle.std.specs.Map.{lookup}
use Rattle.std.specs.List.{range_with_len}
use Rattle.lie_unip.specs.Dropping.{Dropped, nothing, kept, dropped}
use Rattle.lie_ring.specs.Rings.{RingOn, IsElem, IsRing}
use Rattle.lie_ring.specs.RingLemmas.{zero_add, mul_zero, zero_mul, neg_zero as neg_zero_of}
use Rattle.lie_letters.specs.RingLetters.{RingLetter, CommutatorTerm, power, term_word, inverse_word, OfElements, Within}
use Rattle.lie_unip.specs.Collection.{replacement, next_word, rewritten, Ends, at_end, by_step, IsCollected, ComeAfter, IsStrictOrder, AreCollectable}
use Rattle.lie_unip.proofs.ElementLemmas.{rewritten-elem, power-elem, SomeOf}
use Rattle.lie_unip.proofs.BoundLemmas.{rewritten-within, SomeWithin}
use Rattle.lie_unip.proofs.SortedLemmas.{bad, BeforeAll, Sorted, good_before, before_good, before_other, none_sorted, sorted_none, ends_sorted}

module _ {A : Type 0} (R : RingOn A) where
  -- no letter is dropped
  pub Dropped-refl : (w : List (RingLetter A)) → Dropped R w w
  Dropped-refl [] = nothing
  Dropped-refl (x ∷ w) = kept x (Dropped-refl w)

  -- letters are dropped in both of two words
  pub Dropped-append : {p q w v : List (RingLetter A)} → Dropped R p q → Dropped R w v → Dropped R (p ++ w) (q ++ v)
  Dropped-append nothing e = e
  Dropped-append (kept x d) e = kept x (Dropped-append d e)
  Dropped-append (dropped r d) e = dropped r (Dropped-append d e)

  -- letters are dropped after others
  Dropped-trans : {w v u : List (RingLetter A)} → Dropped R w v → Dropped R v u → Dropped R w u
  Dropped-trans nothing e = e
  Dropped-trans (kept x d) (kept y e) = kept x (Dropped-trans d e)
  Dropped-trans (kept x d) (dropped r e) = dropped r (Dropped-trans d e)
  Dropped-trans (dropped r d) e = dropped r (Dropped-trans d e)

  Dropped-before : (before : ℕ → ℕ → Bool) (r : ℕ) {w v : List (RingLetter A)} → Dropped R w v → BeforeAll before r w → BeforeAll before r v
  Dropped-before before r nothing h = tt
  Dropped-before before r (kept x d) h = (h.0, Dropped-before before r d h.1)
  Dropped-before before r (dropped s d) h = Dropped-before before r d h.1

  Dropped-sorted : (before : ℕ → ℕ → Bool) {w v : List (RingLetter A)} → Dropped R w v → Sorted before w → Sorted before v
  Dropped-sorted before nothing h = tt
  Dropped-sorted before (kept x d) h = (Dropped-before before x.0 d h.0, Dropped-sorted before d h.1)
  Dropped-sorted before (dropped s d) h = Dropped-sorted before d h.1

  module _ (ring : IsRing R) where
    neg_zero : R.neg R.zero ≡ R.zero
    neg_zero = neg_zero_of R ring.laws

    zero_power : (n : ℕ) → 1 ≤ n → power R R.zero n ≡ R.zero
    zero_power zero h = absurd (omega (arith, h))
    zero_power (suc n) h = mul_zero R ring.laws (power R R.zero n) (power-elem R ring R.zero n ring.laws.zero_elem)

    -- the term letters at 0
    pub zero_first : (m s : ℕ) (cs : List CommutatorTerm) (u : A) → IsElem R u → ComeAfter m s cs → Dropped R (term_word R cs R.zero u) []
    zero_first m s [] u p h = nothing
    zero_first m s (c ∷ cs) u p h =
        let up = power R u c.j in
        let value : R.mul (R.of_int c.value) (R.mul (power R (R.neg R.zero) c.i) up) ≡ R.zero =
        ap (λ z. R.mul (R.of_int c.value) (R.mul z up)) (ap (λ z. power R z c.i) neg_zero ∙ zero_power c.i h.2)
        ∙ ap (R.mul (R.of_int c.value)) (zero_mul R ring.laws up (power-elem R ring u c.j p))
        ∙ mul_zero R ring.laws (R.of_int c.value) (ring.integers.int_elem c.value) in
        subst (λ (z : A). Dropped R ((c.root, z) ∷ term_word R cs R.zero u) []) (sym value) (dropped c.root (zero_first m s cs u p h.4))

    -- the letters of terms at an element and 0 may be dropped
    pub zero_second : (m s : ℕ) (cs : List CommutatorTerm) (t : A) → IsElem R t → ComeAfter m s cs → Dropped R (term_word R cs t R.zero) []
    zero_second m s [] t p h = nothing
    zero_second m s (c ∷ cs) t p h =
        let tp = power R (R.neg t) c.i in
        let value : R.mul (R.of_int c.value) (R.mul tp (power R R.zero c.j)) ≡ R.zero =
        ap (λ z. R.mul (R.of_int c.value) (R.mul tp z)) (zero_power c.j h.3)
        ∙ ap (R.mul (R.of_int c.value)) (mul_zero R ring.laws tp (power-elem R ring (R.neg t) c.i (ring.laws.neg_elem t p)))
        ∙ mul_zero R ring.laws (R.of_int c.value) (ring.integers.int_elem c.value) in
        subst (λ (z : A). Dropped R ((c.root, z) ∷ term_word R cs t R.zero) []) (sym value) (dropped c.root (zero_second m s cs t p h.4))

    -- the inverse letters of a word that may be dropped
    pub zero_inverted : {w v : List (RingLetter A)} → Dropped R w v → v ≡ [] → Dropped R (inverse_word R w) []
    zero_inverted nothing e = nothing
    zero_inverted (kept x d) e = absurd (cc)
    zero_inverted (dropped {w = w} r d) e =
        let last : Dropped R ((r, R.neg R.zero) ∷ []) [] = subst (λ (z : A). Dropped R ((r, z) ∷ []) []) (sym neg_zero) (dropped r nothing) in
        Dropped-append (zero_inverted d e) last

    module _ (m : ℕ) (terms : ℕ → ℕ → List CommutatorTerm) (collectable : AreCollectable m terms) where
      -- a pair with a 0 is replaced by its other letter, and letters with 0
      replaced_first : (r : ℕ) (y : RingLetter A) → 1 ≤ r → r ≤ m → 1 ≤ y.0 → y.0 ≤ m → IsElem R y.1 → Dropped R (replacement R terms (r, R.zero) y) (y ∷ [])
      replaced_first r y a b c d p = go (eqb r y.0) refl (nat_lt y.0 r) refl
        where
          go : (f : Bool) → eqb r y.0 ≡ f → (g : Bool) → nat_lt y.0 r ≡ g
              → Dropped R (cond f ((r, R.add R.zero y.1) ∷ []) (cond g (y ∷ (r, R.zero) ∷ term_word R (terms y.0 r) y.1 R.zero) (y ∷ (r, R.zero) ∷ inverse_word R (term_word R (terms r y.0) R.zero y.1)))) (y ∷ [])
          go true e g f =
              let same : r ≡ y.0 = grind (arith, nat_tests) in
              let letter : ◌≡◌ {A = RingLetter A} (r, R.add R.zero y.1) y = ap₂ (λ (q : ℕ) (z : A). (q, z)) same (zero_add R ring.laws y.1 p) in
              subst (λ (x : RingLetter A). Dropped R (x ∷ []) (y ∷ [])) (sym letter) (kept y nothing)
          go false e true f =
              let below : y.0 < r = grind (arith, nat_tests) in
              kept y (dropped r (zero_second m r (terms y.0 r) y.1 p (collectable.later y.0 r c below b)))
          go false e false f =
              let below : r < y.0 = grind (arith, nat_tests) in
              kept y (dropped r (zero_inverted (zero_first m y.0 (terms r y.0) y.1 p (collectable.later r y.0 a below d)) refl))

      replaced_second : (x : RingLetter A) (s : ℕ) → 1 ≤ x.0 → x.0 ≤ m → 1 ≤ s → s ≤ m → IsElem R x.1 → Dropped R (replacement R terms x (s, R.zero)) (x ∷ [])
      replaced_second x s a b c d p = go (eqb x.0 s) refl (nat_lt s x.0) refl
        where
          go : (f : Bool) → eqb x.0 s ≡ f → (g : Bool) → nat_lt s x.0 ≡ g
              → Dropped R (cond f ((x.0, R.add x.1 R.zero) ∷ []) (cond g ((s, R.zero) ∷ x ∷ term_word R (terms s x.0) R.zero x.1) ((s, R.zero) ∷ x ∷ inverse_word R (term_word R (terms x.0 s) x.1 R.zero)))) (x ∷ [])
          go true e g f =
              let letter : ◌≡◌ {A = RingLetter A} (x.0, R.add x.1 R.zero) x = ap (λ (z : A). (x.0, z)) (ring.laws.add_zero x.1 p) in
              subst (λ (z : RingLetter A). Dropped R (z ∷ []) (x ∷ [])) (sym letter) (kept x nothing)
          go false e true f =
              let below : s < x.0 = grind (arith, nat_tests) in
              dropped s (kept x (zero_first m x.0 (terms s x.0) x.1 p (collectable.later s x.0 c below b)))
          go false e false f =
              let below : x.0 < s = grind (arith, nat_tests) in
              dropped s (kept x (zero_inverted (zero_second m s (terms x.0 s) x.1 p (collectable.later x.0 s a below d)) refl))

      module _ (before : ℕ → ℕ → Bool) (order : IsStrictOrder before) where
        -- the first letter is at r or comes after r
        abbrev Starts : ℕ → List (RingLetter A) → Type 0
        Starts r [] = ⊥
        Starts r (h ∷ v) = (h.0 ≡ r) ⊎ (before r h.0 ≡ true)

        -- v makes the same step as a word from r on that became w
        record Follows (r : ℕ) (w v : List (RingLetter A)) : Type 0 where
          pub next : List (RingLetter A)
          pub step : rewritten R terms before v ≡ Some next
          pub still : Dropped R w next
          pub starts : Starts r v

        starts_trans : (r s : ℕ) (v : List (RingLetter A)) → before r s ≡ true → Starts s v → Starts r v
        starts_trans r s [] e h = h
        starts_trans r s (h ∷ v) e (inl f) = inr (subst (λ q. before r q ≡ true) (sym f) e)
        starts_trans r s (h ∷ v) e (inr f) = inr (order.trans r s h.0 e f)

        -- a letter in front of a word that makes a step
        behind : (x : RingLetter A) (s : ℕ) (v u : List (RingLetter A)) → before x.0 s ≡ true → Starts s v → rewritten R terms before v ≡ Some u
            → rewritten R terms before (x ∷ v) ≡ Some (x ∷ u)
        behind x s [] u e h f = absurd h
        behind x s (y ∷ v) u e h f =
            let after : before x.0 y.0 ≡ true = first h in
            rw (before_good before order x y after, f) refl
          where
            first : (y.0 ≡ s) ⊎ (before s y.0 ≡ true) → before x.0 y.0 ≡ true
            first (inl g) = subst (λ q. before x.0 q ≡ true) (sym g) e
            first (inr g) = order.trans x.0 s y.0 e g

        at_pair : (x y : RingLetter A) (w v : List (RingLetter A)) → bad before x y ≡ true → Dropped R (x ∷ y ∷ w) v → OfElements R (x ∷ y ∷ w) → Within m (x ∷ y ∷ w)
            → Dropped R (replacement R terms x y ++ w) v ⊎ Follows x.0 (replacement R terms x y ++ w) v
        at_pair x y w v e (kept _ (kept {v = v'} _ d)) p q = inr (record {
          next = replacement R terms x y ++ v';
          step = rw e refl;
          still = Dropped-append (Dropped-refl (replacement R terms x y)) d;
          starts = inl refl;
        })
        at_pair x y w v e (kept _ (dropped s d)) p q = inl (Dropped-append (replaced_second x s q.0 q.1 q.2.0 q.2.1 p.0) d)
        at_pair x y w v e (dropped r (kept _ d)) p q = inl (Dropped-append (replaced_first r y q.0 q.1 q.2.0 q.2.1 p.1.0) d)
        at_pair x y w v e (dropped r (dropped s d)) p q =
            inl (Dropped-append (Dropped-trans (replaced_first r (s, R.zero) q.0 q.1 q.2.0 q.2.1 p.1.0) (dropped s nothing)) d)

        further : (x y : RingLetter A) (w t v : List (RingLetter A)) → bad before x y ≡ false → Dropped R (x ∷ y ∷ w) v
            → ((u : List (RingLetter A)) → Dropped R (y ∷ w) u → Dropped R t u ⊎ Follows y.0 t u)
            → Dropped R (x ∷ t) v ⊎ Follows x.0 (x ∷ t) v
        further x y w t v e (kept {v = u} _ d) known = go (known u d)
          where
            go : Dropped R t u ⊎ Follows y.0 t u → Dropped R (x ∷ t) (x ∷ u) ⊎ Follows x.0 (x ∷ t) (x ∷ u)
            go (inl k) = inl (kept x k)
            go (inr f) = inr (record {
              next = x ∷ f.next;
              step = behind x y.0 u f.next (good_before before order x y e) f.starts f.step;
              still = kept x f.still;
              starts = inl refl;
            })
        further x y w t v e (dropped r d) known = go (known v d)
          where
            go : Dropped R t v ⊎ Follows y.0 t v → Dropped R ((r, R.zero) ∷ t) v ⊎ Follows r ((r, R.zero) ∷ t) v
            go (inl k) = inl (dropped r k)
            go (inr f) = inr (record {
              next = f.next;
              step = f.step;
              still = dropped r f.still;
              starts = starts_trans r y.0 v (good_before before order (r, R.zero) y e) f.starts;
            })

        next_dropped : (x : RingLetter A) (w u v : List (RingLetter A)) → next_word R terms before x w ≡ Some u → Dropped R (x ∷ w) v → OfElements R (x ∷ w) → Within m (x ∷ w)
            → Dropped R u v ⊎ Follows x.0 u v
        next_dropped x [] u v e d p q = absurd (cc)
        next_dropped x (y ∷ w) u v e d p q =
            go (bad before x y) refl (next_word R terms before y w) refl (λ t z f c. next_dropped y w t z f c p.1 q.2) e
          where
            go : (b : Bool) → bad before x y ≡ b → (o : Option (List (RingLetter A))) → next_word R terms before y w ≡ o
                → ((t z : List (RingLetter A)) → next_word R terms before y w ≡ Some t → Dropped R (y ∷ w) z → Dropped R t z ⊎ Follows y.0 t z)
                → cond b (Some (replacement R terms x y ++ w)) (option_map (λ v. x ∷ v) o) ≡ Some u
                → Dropped R u v ⊎ Follows x.0 u v
            go true f o g known e =
                let same : (replacement R terms x y ++ w) ≡ u = cc in
                subst (λ z. Dropped R z v ⊎ Follows x.0 z v) same (at_pair x y w v f d p q)
            go false f None g known e = absurd (cc)
            go false f (Some t) g known e =
                let same : (x ∷ t) ≡ u = cc in
                subst (λ z. Dropped R z v ⊎ Follows x.0 z v) same (further x y w t v f d (λ z c. known t z g c))

        rewritten_dropped : (w u v : List (RingLetter A)) → rewritten R terms before w ≡ Some u → Dropped R w v → OfElements R w → Within m w
            → Dropped R u v ⊎ ((t : List (RingLetter A)) × (rewritten R terms before v ≡ Some t) × Dropped R u t)
        rewritten_dropped [] u v e d p q = absurd (cc)
        rewritten_dropped (x ∷ w) u v e d p q = go (next_dropped x w u v e d p q)
          where
            go : Dropped R u v ⊎ Follows x.0 u v → Dropped R u v ⊎ ((t : List (RingLetter A)) × (rewritten R terms before v ≡ Some t) × Dropped R u t)
            go (inl k) = inl k
            go (inr f) = inr (f.next, f.step, f.still)

        -- the word without the letters ends in the end without the letters
        ends_dropped : {w z : List (RingLetter A)} (v : List (RingLetter A)) → Ends R terms before w z → Dropped R w v → OfElements R w → Within m w
            → (y : List (RingLetter A)) × Ends R terms before v y × Dropped R z y
        ends_dropped v (at_end {w = w} e) d p q =
            (v, at_end (sorted_none before order R terms v (Dropped-sorted before d (none_sorted before order R terms w e))), d)
        ends_dropped v (by_step {w = w} {v = u} {z = z} e r) d p q =
            let p' : OfElements R u = subst (SomeOf R) e (rewritten-elem R ring terms before w p) in
            let q' : Within m u = subst (SomeWithin m) e (rewritten-within R m terms before collectable w q) in
            go (rewritten_dropped w u v e d p q) (λ t c. ends_dropped t r c p' q')
          where
            go : Dropped R u v ⊎ ((t : List (RingLetter A)) × (rewritten R terms before v ≡ Some t) × Dropped R u t)
                → ((t : List (RingLetter A)) → Dropped R u t → (y : List (RingLetter A)) × Ends R terms before t y × Dropped R z y)
                → (y : List (RingLetter A)) × Ends R terms before v y × Dropped R z y
            go (inl k) known = known v k
            go (inr s) known = let f = known s.0 s.2 in (f.0, by_step s.1 f.1, f.2)

        lookup_later : (r s : ℕ) (w : List (RingLetter A)) → eqb r s ≡ true → BeforeAll before s w → lookup (eqb r) w ≡ None
        lookup_later r s [] e h = refl
        lookup_later r s (x ∷ w) e h =
            let same : r ≡ s = grind (arith, nat_tests) in
            let other : eqb r x.0 ≡ false = subst (λ q. eqb q x.0 ≡ false) (sym same) (before_other before order s x.0 h.0) in
            rw other (lookup_later r s w e h.1)

        lookup_dropped : (r : ℕ) {z y : List (RingLetter A)} → Sorted before z → Dropped R z y → unwrap_or (lookup (eqb r) z) R.zero ≡ unwrap_or (lookup (eqb r) y) R.zero
        lookup_dropped r s nothing = refl
        lookup_dropped r s (kept {w = z} {v = y} x d) =
            let rest = lookup_dropped r s.1 d in
            elim (eqb r x.0) as (λ b. unwrap_or (cond b (Some x.1) (lookup (eqb r) z)) R.zero ≡ unwrap_or (cond b (Some x.1) (lookup (eqb r) y)) R.zero) [
              | true ↦ refl
              | false ↦ rest
            ]
        lookup_dropped r s (dropped {w = z} {v = y} q d) = go (eqb r q) refl (lookup_dropped r s.1 d)
          where
            go : (b : Bool) → eqb r q ≡ b → unwrap_or (lookup (eqb r) z) R.zero ≡ unwrap_or (lookup (eqb r) y) R.zero
                → unwrap_or (cond b (Some R.zero) (lookup (eqb r) z)) R.zero ≡ unwrap_or (lookup (eqb r) y) R.zero
            go true e rest = ap (λ o. unwrap_or o R.zero) (sym (lookup_later r q y e (Dropped-before before q d s.0)))
            go false e rest = rest

        elements_dropped : (a n : ℕ) {z y : List (RingLetter A)} → Sorted before z → Dropped R z y
            → map (λ r. unwrap_or (lookup (eqb r) z) R.zero) (range_with_len a n) ≡ map (λ r. unwrap_or (lookup (eqb r) y) R.zero) (range_with_len a n)
        elements_dropped a zero s d = refl
        elements_dropped a (suc n) s d = ap₂ ◌∷◌ (lookup_dropped a s d) (elements_dropped (a + 1) n s d)

        -- a word without some letters that are 0 has the collected list of the word
        pub IsCollected-dropped : (w v : List (RingLetter A)) (u : List A) → Dropped R w v → OfElements R w → Within m w → IsCollected R terms before m w u → IsCollected R terms before m v u
        IsCollected-dropped w v u d p q c =
            let f = ends_dropped v c.ends d p q in
            record {
              last = f.0;
              ends = f.1;
              list = c.list ∙ elements_dropped 1 m (ends_sorted before order R terms c.ends) f.2;
            }
