-- What the bodies that place a letter owe, over plain variables.
use Rattle.std.proofs.Common.{◌≡◌, ◌≢◌, ℕ, suc, zero, ◌<◌, ◌≤◌, ◌+◌, ◌*◌, ◌-◌, ◌^◌, ◌⊎◌, inl, inr, Bool, true, false, cond, List, [], ◌∷◌, ◌++◌, length, reverse, set, take, drop, get_or, refl, sym, ap, ap₂, ◌∙◌, subst, arith}
use Rattle.std.proofs.lemmas.Bool.Decides.{nat_tests}
use Rattle.std.proofs.lemmas.List.{reverse-append, length-append, length-set, get_or-set_same, get_or-set_other, get_or-drop}
use Rattle.std.proofs.lemmas.List.Elements.{All-set}
use Rattle.std.proofs.Math.Nat.{suc-mul, mul-le-mul_right, pow-le-pow_right, one-le-pow, pow-succ'}
use Rattle.std.specs.Prelude.{nat_lt}
use Rattle.std.specs.List.{All}
use Rattle.lie_ring.specs.Rings.{RingOn, IsElem, Fits, IsRing}
use Rattle.lie_letters.specs.RingLetters.{RingLetter, CommutatorTerm, term_word, inverse_word, IsRingWord}
use Rattle.lie_unip.specs.Collection.{ComeAfter, AreCollectable, AreEntries, IsCollected}
use Rattle.lie_unip.specs.Splitting.{kept_first}
use Rattle.lie_unip.specs.Placing.{Leads, crossing, BeforeRoots, letters_at, AreSorted, AreRoots, NoneKept, StayApart, terms_between, rank_of, weight, IdleBetween, ZeroFrom, IsLifted, AreLifted, IsPlaced}
use Rattle.lie_unip.proofs.FullWordLemmas.{AreElements, AreZero, lawful_append}
use Rattle.lie_unip.proofs.SplitLemmas.{kept_first_order}
use Rattle.lie_unip.proofs.SortedLemmas.{before_other, Sorted}
use Rattle.lie_unip.proofs.MoveLemmas.{idle_still, passed, settled, skipped, crossing_lawful}
use Rattle.lie_unip.proofs.OrderedLemmas.{letters_cut, letters_set, letters_sorted, letters_word, letters_zero, sorted_at, sorted_behind, roots_at, roots_behind, rank_falls, kept_after}

-- a list with one more at its end, reversed
pub reverse_push : {X : Type 0} (w : List X) (x : X) → reverse (w ++ x ∷ []) ≡ x ∷ reverse w
reverse_push w x = reverse-append w (x ∷ [])

-- each letter is at a root of rank e or below
abbrev pub HaveRank : {A : Type 0} → ℕ → (ℕ → Bool) → ℕ → List (RingLetter A) → Type 0
HaveRank m kept e [] = Unit {0}
HaveRank m kept e (x ∷ w) = (rank_of m kept x.0 ≤ e) × HaveRank m kept e w

module _ {A : Type 0} (R : RingOn A) where
  -- letters of low rank count little
  pub weight_low : (n m : ℕ) (kept : ℕ → Bool) (e : ℕ) (w v : List (RingLetter A)) → HaveRank m kept e w
      → weight n m kept (w ++ v) ≤ length w * (8 * n + 2) ^ e + weight n m kept v
  weight_low n m kept e [] v h = let z : 0 * (8 * n + 2) ^ e ≡ 0 = omega arith in omega (arith, z)
  weight_low n m kept e (x ∷ w) v h =
      let known = weight_low n m kept e w v h.1 in
      let less = pow-le-pow_right {n = 8 * n + 2} (omega arith) h.0 in
      let more = suc-mul (length w) ((8 * n + 2) ^ e) in
      omega (arith, known, less, more)

  rank_terms : (m : ℕ) (kept : ℕ → Bool) (r s : ℕ) (cs : List CommutatorTerm) (t u : A) → r ≤ m → r ≤ s → ComeAfter m s cs → (kept r ≡ false → NoneKept kept cs)
      → HaveRank m kept (rank_of m kept r - 1) (term_word R cs t u)
  rank_terms m kept r s [] t u low at h apart = tt
  rank_terms m kept r s (c ∷ cs) t u low at h apart =
      let after = h.0 in (
        rank_falls m kept r c.root low h.1 (λ e. omega (arith, after, at)) (λ e. (apart e).0),
        rank_terms m kept r s cs t u low at h.4 (λ e. (apart e).1),
      )

  rank_append : (m : ℕ) (kept : ℕ → Bool) (e : ℕ) (v w : List (RingLetter A)) → HaveRank m kept e v → HaveRank m kept e w → HaveRank m kept e (v ++ w)
  rank_append m kept e [] w p q = q
  rank_append m kept e (x ∷ v) w p q = (p.0, rank_append m kept e v w p.1 q)

  rank_inverted : (m : ℕ) (kept : ℕ → Bool) (e : ℕ) (w : List (RingLetter A)) → HaveRank m kept e w → HaveRank m kept e (inverse_word R w)
  rank_inverted m kept e [] p = tt
  rank_inverted m kept e (x ∷ w) p = rank_append m kept e (inverse_word R w) ((x.0, R.neg x.1) ∷ []) (rank_inverted m kept e w p.1) (p.0, tt)

  length-term_word : (cs : List CommutatorTerm) (t u : A) → length (term_word R cs t u) ≡ length cs
  length-term_word [] t u = refl
  length-term_word (c ∷ cs) t u = ap suc (length-term_word cs t u)

  length-inverse_word : (w : List (RingLetter A)) → length (inverse_word R w) ≡ length w
  length-inverse_word [] = refl
  length-inverse_word (x ∷ w) = length-append (inverse_word R w) ((x.0, R.neg x.1) ∷ []) ∙ omega (arith, length-inverse_word w)

  module _ (m : ℕ) (terms : ℕ → ℕ → List CommutatorTerm) (collectable : AreCollectable m terms) (kept : ℕ → Bool) (apart : StayApart m terms kept) where
    -- where a letter passes another, few letters arise, and of lower rank
    crossing_low : (r k : ℕ) (a x : A) → 1 ≤ r → r ≤ m → 1 ≤ k → k ≤ m → kept_first kept r k ≡ true
        → HaveRank m kept (rank_of m kept r - 1) (crossing R terms r a (k, x)) × (length (crossing R terms r a (k, x)) ≤ 7)
    crossing_low r k a x rl rh kl kh h = go (nat_lt r k) refl
      where
        kinds : (kept r ≡ kept k → r < k) × (kept r ≡ false → kept k ≡ false)
        kinds = kept_after kept r k h

        go : (b : Bool) → nat_lt r k ≡ b
            → HaveRank m kept (rank_of m kept r - 1) (cond b (term_word R (terms r k) a x) (inverse_word R (term_word R (terms k r) x a)))
            × (length (cond b (term_word R (terms r k) a x) (inverse_word R (term_word R (terms k r) x a))) ≤ 7)
        go true e =
            let below : r < k = grind (arith, nat_tests) in
            let few = collectable.few r k rl below kh in
            let long = length-term_word (terms r k) a x in (
              rank_terms m kept r k (terms r k) a x rh (omega (arith, below)) (collectable.later r k rl below kh) (λ f. apart r k rl below kh f (kinds.1 f)),
              omega (arith, few, long),
            )
        go false e =
            let o = before_other (kept_first kept) (kept_first_order kept) r k h in
            let below : k < r = grind (arith, nat_tests) in
            let few = collectable.few k r kl below rh in
            let t = term_word R (terms k r) x a in
            let long = length-inverse_word t ∙ length-term_word (terms k r) x a in (
              rank_inverted m kept (rank_of m kept r - 1) t
                  (rank_terms m kept r r (terms k r) x a rh (omega arith) (collectable.later k r kl below rh) (λ f. apart k r kl below rh (kinds.1 f) f)),
              omega (arith, few, long),
            )

module _ {A : Type 0} (R : RingOn A) (ring : IsRing R) where
  -- the members of a list that fits are elements
  pub elements_of : (c : List A) → All (Fits R) c → AreElements R c
  elements_of [] h = tt
  elements_of (x ∷ c) h = ((h 0 x (omega arith)).0, elements_of c (λ k d l. h (suc k) d (omega (arith, l))))

  zero_rest : (c : List A) (i : ℕ) → ((j : ℕ) → i ≤ j → get_or c j R.zero ≡ R.zero) → AreZero R (drop i c)
  zero_rest [] zero h = tt
  zero_rest [] (suc i) h = tt
  zero_rest (x ∷ c) zero h = (h 0 (omega arith), zero_rest c zero (λ j l. h (suc j) (omega arith)))
  zero_rest (x ∷ c) (suc i) h = zero_rest c i (λ j l. h (suc j) (omega (arith, l)))

  elements_rest : (c : List A) (i : ℕ) → AreElements R c → AreElements R (drop i c)
  elements_rest [] zero h = tt
  elements_rest [] (suc i) h = tt
  elements_rest (x ∷ c) zero h = h
  elements_rest (x ∷ c) (suc i) h = elements_rest c i h.1

  module _ (m : ℕ) (terms : ℕ → ℕ → List CommutatorTerm) (collectable : AreCollectable m terms) (kept : ℕ → Bool) (apart : StayApart m terms kept)
      (ks : List ℕ) (sorted : AreSorted (kept_first kept) ks) (roots : AreRoots m ks) where
    abbrev before : ℕ → ℕ → Bool
    before = kept_first kept

    join : (v w : List (RingLetter A)) → IsRingWord R m v → IsRingWord R m w → IsRingWord R m (v ++ w)
    join = lawful_append R ring m terms collectable before (kept_first_order kept)

    -- a letter passes the last letter that is not 0, which joins those still to be placed
    pub lifted_one : (r i p : ℕ) (a x : A) (c : List A) (w y z : List (RingLetter A)) → r ≡ get_or ks p 0 → p < i → i < length ks → AreEntries R (length ks) c → IsRingWord R m (reverse w)
        → ZeroFrom R (i + 1) c → IsElem R a → x ≡ get_or c i R.zero → reverse y ≡ crossing R terms r a (get_or ks i 0, x) ++ reverse w → z ≡ y ++ (get_or ks i 0, x) ∷ []
        → IsLifted R terms m kept ks r a i c (set c i R.zero) w z
    lifted_one r i p a x c w y z at later within entries lw zeros pa e f g =
        let k = get_or ks i 0 in
        let P = letters_at (take i ks) (take i c) in
        let Q = letters_at (drop (suc i) ks) (drop (suc i) c) in
        let inside : i < length c = omega (arith, within, entries.count) in
        let T = crossing R terms r a (k, x) in
        let whole : letters_at ks c ≡ P ++ (k, x) ∷ Q = letters_cut ks c i R.zero within inside ∙ ap (λ (b : A). P ++ (k, b) ∷ Q) (sym e) in
        let cleared : letters_at ks (set c i R.zero) ≡ P ++ (k, R.zero) ∷ Q = letters_set ks c i R.zero within inside in
        let elem = elements_of c entries.fit in
        let px : IsElem R x = subst (IsElem R) (sym e) (entries.fit i R.zero inside).0 in
        let rest : reverse z ≡ (k, x) ∷ (T ++ reverse w) = ap reverse g ∙ reverse_push y (k, x) ∙ ap (λ l. (k, x) ∷ l) f in
        let gone = letters_zero R m (drop (suc i) ks) (drop (suc i) c) (zero_rest c (suc i) (λ j l. zeros j (omega (arith, l)))) in
        let kb = roots_at m ks i roots within in
        let rb = subst (λ (q : ℕ). (1 ≤ q) × (q ≤ m)) (sym at) (roots_at m ks p roots (omega (arith, later, within))) in
        let comes : before r k ≡ true = subst (λ (q : ℕ). before q k ≡ true) (sym at) (sorted_at before ks p i sorted later within) in
        let la : IsRingWord R m ((r, a) ∷ []) = ((pa, tt), (rb.0, rb.1, tt)) in
        let lx : IsRingWord R m ((k, x) ∷ []) = ((px, tt), (kb.0, kb.1, tt)) in
        let ls : IsRingWord R m (P ++ (k, x) ∷ Q) = subst (IsRingWord R m) whole (letters_word R m ks c roots elem) in
        let order = kept_first_order kept in
        let moved = passed R ring m terms collectable before order P Q k x r a (reverse w) (subst (Sorted before) whole (letters_sorted before ks c sorted)) comes gone ls la lw in
        let low = crossing_low R m terms collectable kept apart r k a x rb.0 rb.1 kb.0 kb.1 comes in
        let e = rank_of m kept r - 1 in
        let kinds = kept_after kept r k comes in
        let heavy = weight_low R (length ks) m kept e ((k, x) ∷ T) (reverse w) (rank_falls m kept r k rb.1 kb.1 kinds.0 kinds.1, low.0) in
        let few : suc (length T) ≤ 8 = let l = low.1 in omega (arith, l) in
        let bound = mul-le-mul_right {m = suc (length T)} {n = 8} ((8 * length ks + 2) ^ e) few in
        record {
          entries = refl;
          lawful = subst (IsRingWord R m) (sym rest) (join ((k, x) ∷ []) (T ++ reverse w) lx (join T (reverse w) (crossing_lawful R ring m terms collectable before order r a (k, x) comes la lx) lw));
          leads = λ u d.
              let d1 = subst (λ l. IsCollected R terms before m (letters_at ks (set c i R.zero) ++ (r, a) ∷ l) u) rest d in
              let d2 = subst (λ l. IsCollected R terms before m (l ++ (r, a) ∷ (k, x) ∷ (T ++ reverse w)) u) cleared d1 in
              subst (λ l. IsCollected R terms before m (l ++ (r, a) ∷ reverse w) u) (sym whole) (moved u d2);
          lighter = subst (λ l. weight (length ks) m kept l ≤ weight (length ks) m kept (reverse w) + 8 * (8 * length ks + 2) ^ e) (sym rest) (omega (arith, heavy, bound));
        }

    -- a letter that has passed all places behind one passes that one
    pub lifted_more : (r i k : ℕ) (a : A) (c d e : List A) (w v z : List (RingLetter A)) → Fits R R.zero → k ≡ i + 1 → i < length ks → AreLifted R terms m kept ks r a k c d w v
        → IsLifted R terms m kept ks r a i d e v z → AreLifted R terms m kept ks r a i c e w z
    lifted_more r i k a c d e w v z pz h within f g =
        let V = (8 * length ks + 2) ^ (rank_of m kept r - 1) in
        let lighter_f = f.lighter in
        let lighter_g = g.lighter in
        let count : 8 * (length ks - i) ≡ 8 * (length ks - k) + 8 = omega (arith, h, within) in
        let total : (8 * (length ks - i)) * V ≡ (8 * (length ks - k)) * V + 8 * V = ap (λ n. n * V) count ∙ add_times (8 * (length ks - k)) 8 V in
        record {
          entries = record {
            count = ap length g.entries ∙ length-set d i R.zero ∙ f.entries.count;
            fit = subst (All (Fits R)) (sym g.entries) (All-set (Fits R) d i R.zero pz f.entries.fit);
          };
          before = λ j l.
              let other : j ≢ i = λ s. absurd (omega (arith, l, s)) in
              ap (λ b. get_or b j R.zero) g.entries ∙ get_or-set_other d i j R.zero R.zero other ∙ f.before j (omega (arith, l, h));
          after = λ j l. after_at j l (side j l);
          lawful = g.lawful;
          leads = λ u t. f.leads u (g.leads u t);
          lighter = omega (arith, total, lighter_f, lighter_g);
        }
      where
        add_times : (p q v : ℕ) → (p + q) * v ≡ p * v + q * v
        add_times p q v = omega arith

        side : (j : ℕ) → i ≤ j → (j ≡ i) ⊎ (i < j)
        side j l = grind (arith, l)

        after_at : (j : ℕ) → i ≤ j → (j ≡ i) ⊎ (i < j) → get_or e j R.zero ≡ R.zero
        after_at j l (inl s) =
            let inside : i < length d = omega (arith, within, f.entries.count) in
            ap₂ (λ (b : List A) (n : ℕ). get_or b n R.zero) g.entries s ∙ get_or-set_same d i R.zero R.zero inside
        after_at j l (inr s) =
            let other : j ≢ i = λ t. absurd (omega (arith, s, t)) in
            ap (λ b. get_or b j R.zero) g.entries ∙ get_or-set_other d i j R.zero R.zero other ∙ f.after j (omega (arith, s, h))

    -- a letter that has passed all that it meets is added at its root
    pub placed : (r p f : ℕ) (a b sum : A) (c d : List A) (w v : List (RingLetter A)) → r ≡ get_or ks p 0 → p < length ks → p < f → f ≤ length ks → IdleBetween R terms r ks (p + 1) f c
        → AreLifted R terms m kept ks r a f c d w v → IsElem R a → b ≡ get_or d p R.zero → sum ≡ R.add b a → Fits R sum
        → IsPlaced R terms m kept ks r a c (set d p sum) w v
    placed r p f a b sum c d w v at place after within idle lifted pa e s fits =
        let P = letters_at (take p ks) (take p d) in
        let Q = letters_at (drop (suc p) ks) (drop (suc p) d) in
        let inside : p < length d = omega (arith, place, lifted.entries.count) in
        let root = sym at in
        let whole : letters_at ks d ≡ P ++ (r, b) ∷ Q = letters_cut ks d p R.zero place inside ∙ ap₂ (λ (q : ℕ) (x : A). P ++ (q, x) ∷ Q) root (sym e) in
        let added : letters_at ks (set d p sum) ≡ P ++ (r, R.add b a) ∷ Q = letters_set ks d p sum place inside ∙ ap₂ (λ (q : ℕ) (x : A). P ++ (q, x) ∷ Q) root s in
        let elem = elements_of d lifted.entries.fit in
        let rb = subst (λ (q : ℕ). (1 ≤ q) × (q ≤ m)) (sym at) (roots_at m ks p roots place) in
        let la : IsRingWord R m ((r, a) ∷ []) = ((pa, tt), (rb.0, rb.1, tt)) in
        let ls : IsRingWord R m (P ++ (r, b) ∷ Q) = subst (IsRingWord R m) whole (letters_word R m ks d roots elem) in
        let order = kept_first_order kept in
        let behind = subst (λ (q : ℕ). BeforeRoots before q (drop (suc p) ks)) (sym at) (sorted_behind before ks p sorted place) in
        let still = idle_still R ring m terms collectable before order (drop (suc p) ks) (drop (suc p) d) r a behind (roots_behind m ks (suc p) roots) (elements_rest d (suc p) elem) la
        (λ j. later j (suc p + j) refl) in
        let moved = settled R ring m terms collectable before order P Q r b a (reverse v) (subst (Sorted before) whole (letters_sorted before ks d sorted)) still ls la lifted.lawful in
        record {
          entries = record {
            count = length-set d p sum ∙ lifted.entries.count;
            fit = All-set (Fits R) d p sum fits lifted.entries.fit;
          };
          lawful = lifted.lawful;
          leads = λ u t.
              let t1 = subst (λ l. IsCollected R terms before m (l ++ reverse v) u) added t in
              lifted.leads u (subst (λ l. IsCollected R terms before m (l ++ (r, a) ∷ reverse v) u) (sym whole) (moved u t1));
          lighter = lighter (rank_of m kept r) (some_rank rb.1) lifted.lighter;
        }
      where
        some_rank : r ≤ m → 1 ≤ rank_of m kept r
        some_rank h = go (kept r)
          where
            go : (b : Bool) → 1 ≤ cond b (2 * m + 2 - r) (m + 1 - r)
            go true = omega (arith, h)
            go false = omega (arith, h)

        sum_times : (n v : ℕ) → (n + 2) * v ≡ n * v + 2 * v
        sum_times n v = omega arith

        lighter : (g : ℕ) → 1 ≤ g → weight (length ks) m kept (reverse v) ≤ weight (length ks) m kept (reverse w) + (8 * (length ks - f)) * (8 * length ks + 2) ^ (g - 1)
            → weight (length ks) m kept (reverse v) + 1 ≤ weight (length ks) m kept (reverse w) + (8 * length ks + 2) ^ g
        lighter g h l =
            let V = (8 * length ks + 2) ^ (g - 1) in
            let one = one-le-pow (g - 1) (8 * length ks + 2) (omega arith) in
            let up : g ≡ suc (g - 1) = omega (arith, h) in
            let power : (8 * length ks + 2) ^ g ≡ (8 * length ks + 2) * V = ap (λ n. (8 * length ks + 2) ^ n) up ∙ pow-succ' (8 * length ks + 2) (g - 1) in
            let few = mul-le-mul_right {m = 8 * (length ks - f)} {n = 8 * length ks} V (omega arith) in
            let total = sum_times (8 * length ks) V in
            omega (arith, l, one, power, few, total)

        by_place : (n : ℕ) → p + 1 ≤ n → (n < f) ⊎ (f ≤ n) → (get_or d n R.zero ≡ R.zero) ⊎ (terms_between terms r (get_or ks n 0) ≡ [])
        by_place n l (inr h) = inl (lifted.after n h)
        by_place n l (inl h) = from (idle n l h)
          where
            from : (get_or c n R.zero ≡ R.zero) ⊎ (terms_between terms r (get_or ks n 0) ≡ []) → (get_or d n R.zero ≡ R.zero) ⊎ (terms_between terms r (get_or ks n 0) ≡ [])
            from (inl z) = inl (lifted.before n h ∙ z)
            from (inr z) = inr z

        later : (j n : ℕ) → suc p + j ≡ n → (get_or (drop (suc p) d) j R.zero ≡ R.zero) ⊎ (terms_between terms r (get_or (drop (suc p) ks) j 0) ≡ [])
        later j n g =
            let two : (n < f) ⊎ (f ≤ n) = grind arith in
            let read : get_or (drop (suc p) d) j R.zero ≡ get_or d n R.zero = get_or-drop (suc p) d j R.zero ∙ ap (λ l. get_or d l R.zero) g in
            let root : get_or (drop (suc p) ks) j 0 ≡ get_or ks n 0 = get_or-drop (suc p) ks j 0 ∙ ap (λ l. get_or ks l 0) g in
            rw (read, root) (by_place n (omega (arith, g)) two)

    -- a letter that is 0 is left out
    pub placed_zero : (r p : ℕ) (a : A) (c : List A) (w : List (RingLetter A)) → 1 ≤ r → r ≤ m → a ≡ R.zero → AreEntries R (length ks) c → IsRingWord R m (reverse w)
        → IsPlaced R terms m kept ks r a c c w w
    placed_zero r p a c w low high e entries lw =
        let one = one-le-pow (rank_of m kept r) (8 * length ks + 2) (omega arith) in
        record {
          entries = entries;
          lawful = lw;
          leads = subst (λ x. Leads R terms before m (letters_at ks c ++ (r, x) ∷ reverse w) (letters_at ks c ++ reverse w)) (sym e)
              (skipped R ring m terms collectable before (kept_first_order kept) (letters_at ks c) r (reverse w) low high (letters_word R m ks c roots (elements_of c entries.fit)) lw);
          lighter = omega (arith, one);
        }

-- a letter has passed all places from one on where these have 0
pub lifted_none : {A : Type 0} (R : RingOn A) (m : ℕ) (terms : ℕ → ℕ → List CommutatorTerm) (kept : ℕ → Bool) (ks : List ℕ) (r i : ℕ) (a : A) (c : List A) (w : List (RingLetter A))
    → AreEntries R (length ks) c → ZeroFrom R i c → IsRingWord R m (reverse w) → AreLifted R terms m kept ks r a i c c w w
lifted_none R m terms kept ks r i a c w entries zeros lw = record {
  entries = entries;
  before = λ j l. refl;
  after = zeros;
  lawful = lw;
  leads = λ u d. d;
  lighter = omega arith;
}

-- a place in front of those that have 0 is changed, and these still have 0
pub zeros_behind : {A : Type 0} (R : RingOn A) (c : List A) (p i : ℕ) (x : A) → p < i → ZeroFrom R i c → ZeroFrom R i (set c p x)
zeros_behind R c p i x h zeros j l =
    let other : j ≢ p = λ s. absurd (omega (arith, l, h, s)) in
    get_or-set_other c p j x R.zero other ∙ zeros j l

-- one more place has 0
pub zeros_more : {A : Type 0} (R : RingOn A) (c : List A) (k i : ℕ) → k ≡ i + 1 → get_or c i R.zero ≡ R.zero → ZeroFrom R k c → ZeroFrom R i c
zeros_more R c k i h here zeros j l = go (side j l)
  where
    side : (j : ℕ) → i ≤ j → (j ≡ i) ⊎ (i < j)
    side j l = grind (arith, l)

    go : (j ≡ i) ⊎ (i < j) → get_or c j R.zero ≡ R.zero
    go (inl e) = ap (λ n. get_or c n R.zero) e ∙ here
    go (inr s) = zeros j (omega (arith, s, h))

-- one more place without a trace
pub idle_more : {A : Type 0} (R : RingOn A) (terms : ℕ → ℕ → List CommutatorTerm) (r : ℕ) (ks : List ℕ) (i k : ℕ) (c : List A) → IdleBetween R terms r ks i k c
    → (get_or c k R.zero ≡ R.zero) ⊎ (terms_between terms r (get_or ks k 0) ≡ []) → IdleBetween R terms r ks i (k + 1) c
idle_more R terms r ks i k c h here j l b = go (side j b)
  where
    side : (j : ℕ) → j < k + 1 → (j ≡ k) ⊎ (j < k)
    side j b = grind (arith, b)

    go : (j ≡ k) ⊎ (j < k) → (get_or c j R.zero ≡ R.zero) ⊎ (terms_between terms r (get_or ks j 0) ≡ [])
    go (inl e) = subst (λ n. (get_or c n R.zero ≡ R.zero) ⊎ (terms_between terms r (get_or ks n 0) ≡ [])) (sym e) here
    go (inr h') = h j l h'

-- what the last letter of a list leads to, the list leads to
pub leads_on : {A : Type 0} (R : RingOn A) (terms : ℕ → ℕ → List CommutatorTerm) (before : ℕ → ℕ → Bool) (m : ℕ) (start S T w' v w : List (RingLetter A)) (x : RingLetter A) → w ≡ w' ++ x ∷ []
    → Leads R terms before m start (S ++ reverse w) → Leads R terms before m (S ++ x ∷ reverse w') (T ++ reverse v) → Leads R terms before m start (T ++ reverse v)
leads_on R terms before m start S T w' v w x e f g u t = f u (subst (λ z. IsCollected R terms before m (S ++ z) u) (sym (ap reverse e ∙ reverse_push w' x)) (g u t))
