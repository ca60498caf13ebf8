-- Collecting ends: each replacement lowers the number of letters, or of pairs out of order, up to some root.
use Rattle.std.proofs.Common.{◌≡◌, ℕ, suc, zero, ◌+◌, ◌<◌, ◌≤◌, max, List, [], ◌∷◌, ◌++◌, Option, Some, None, Bool, true, false, refl, sym, ◌∙◌, ap, subst, arith, ◌⊎◌, inl, inr, length, eqb, cond}
use Rattle.std.specs.Prelude.{nat_lt}
use Rattle.std.specs.Option.{option_map}
use Rattle.std.proofs.lemmas.Bool.Decides.{nat_tests}
use Rattle.lie_ring.specs.Rings.{RingOn}
use Rattle.lie_letters.specs.RingLetters.{RingLetter, CommutatorTerm, term_word, inverse_word, Within}
use Rattle.lie_unip.specs.Collection.{replacement, next_word, rewritten, Ends, at_end, by_step, ComeAfter, IsStrictOrder, AreCollectable}
use Rattle.lie_unip.proofs.BoundLemmas.{rewritten-within, SomeWithin}
use Rattle.lie_unip.proofs.SortedLemmas.{bad}

-- Induction along steps that lower, lexicographically, one of the measures m 0 .. m (levels - 1).
module _ (A : Type 0) (R : A → A → Type 0) (m : ℕ → A → ℕ) (levels : ℕ) where
  abbrev LessBelow : ℕ → A → A → Type 0
  LessBelow top v w = (k : ℕ) × (k < top) × ((h : ℕ) → h < k → m h v ≡ m h w) × (m k v < m k w)

  module _ (lowers : (w v : A) → R w v → LessBelow levels v w) (P : A → Type 0)
      (step : (w : A) → ((v : A) → R w v → P v) → P w) where
    inner : (top : ℕ) (w : A) → ((v : A) → LessBelow top v w → P v)
        → ((w' : A) → ((v : A) → LessBelow (suc top) v w' → P v) → P w')
        → (n : ℕ) (w' : A) → ((h : ℕ) → h < top → m h w' ≡ m h w) → m top w' < n → P w'
    inner top w known deeper zero w' alike below = absurd (omega arith)
    inner top w known deeper (suc n) w' alike below = deeper w' (λ v less.
        let (k, in_range, alike', down) = less in
        let side : (k < top) ⊎ (top ≤ k) = grind arith in
        elim side [
          | inl low ↦ known v (k, low, (λ h here. alike' h here ∙ alike h (omega arith)), omega (arith, alike k low))
          | inr high ↦
              let e : k ≡ top = omega arith in
              let down' : m top v < m top w' = subst (λ j. m j v < m j w') e down in
              inner top w known deeper n v (λ h here. alike' h (omega arith) ∙ alike h here) (omega arith)
        ])

    by_level : (left top : ℕ) → left + top ≡ levels → (w : A) → ((v : A) → LessBelow top v w → P v) → P w
    by_level zero top e w known = step w (λ v r. known v (subst (λ n. LessBelow n v w) (omega arith) (lowers w v r)))
    by_level (suc left) top e w known =
        inner top w known (λ w' known'. by_level left (suc top) (omega arith) w' known') (suc (m top w)) w (λ h _. refl) (omega arith)

    pub along_steps : (w : A) → P w
    along_steps w = by_level levels zero (omega arith) w (λ v less. absurd (omega (arith, less.1)))

module _ {A : Type 0} where
  abbrev kept : ℕ → RingLetter A → Bool
  kept h a = nat_lt a.0 (suc h)

  -- the letters at roots up to h
  abbrev keep : ℕ → List (RingLetter A) → List (RingLetter A)
  keep h [] = []
  keep h (a ∷ w) = cond (kept h a) (a ∷ keep h w) (keep h w)

  module _ (before : ℕ → ℕ → Bool) where
    -- the letters of w that belong before r
    abbrev earlier : ℕ → List (RingLetter A) → ℕ
    earlier r [] = 0
    earlier r (a ∷ w) = cond (before a.0 r) 1 0 + earlier r w

    -- the pairs of letters that are out of order
    abbrev inversions : List (RingLetter A) → ℕ
    inversions [] = 0
    inversions (a ∷ w) = earlier a.0 w + inversions w

    abbrev measure : ℕ → List (RingLetter A) → ℕ
    measure h w = length (keep h w) + inversions (keep h w)

    pub record Falls (k : ℕ) (v w : List (RingLetter A)) : Type 0 where
      pub below : (h : ℕ) → h < k → keep h v ≡ keep h w
      pub no_earlier : (r : ℕ) → earlier r (keep k v) ≤ earlier r (keep k w)
      pub falls : measure k v < measure k w

    falls_behind : (a : RingLetter A) (k : ℕ) (v w : List (RingLetter A)) → Falls k v w → Falls k (a ∷ v) (a ∷ w)
    falls_behind a k v w f = record {
      below = λ h low. ap (λ u. cond (kept h a) (a ∷ u) u) (f.below h low);
      no_earlier = λ r. step_earlier (kept k a) r;
      falls = step_falls (kept k a);
    }
      where
        step_earlier : (b : Bool) (r : ℕ) → earlier r (cond b (a ∷ keep k v) (keep k v)) ≤ earlier r (cond b (a ∷ keep k w) (keep k w))
        step_earlier true r = omega (arith, f.no_earlier r)
        step_earlier false r = f.no_earlier r

        step_falls : (b : Bool) → length (cond b (a ∷ keep k v) (keep k v)) + inversions (cond b (a ∷ keep k v) (keep k v))
            < length (cond b (a ∷ keep k w) (keep k w)) + inversions (cond b (a ∷ keep k w) (keep k w))
        step_falls true = omega (arith, f.no_earlier a.0, f.falls)
        step_falls false = f.falls

    -- the letters are at roots after h
    abbrev High : ℕ → List (RingLetter A) → Type 0
    High h [] = Unit {0}
    High h (a ∷ w) = (h < a.0) × High h w

    keep_high : (h k : ℕ) (t w : List (RingLetter A)) → h ≤ k → High k t → keep h (t ++ w) ≡ keep h w
    keep_high h k [] w low high = refl
    keep_high h k (a ∷ t) w low high =
        let e : kept h a ≡ false = grind (arith, nat_tests) in
        rw e (keep_high h k t w low high.1)

    kept_same : (h : ℕ) (a b : RingLetter A) → b.0 ≡ a.0 → kept h b ≡ kept h a
    kept_same h a b e = ap (λ r. nat_lt (r) (suc h)) e

    falls_merge : (a b c : RingLetter A) (w : List (RingLetter A)) → b.0 ≡ a.0 → c.0 ≡ a.0 → Falls a.0 (c ∷ w) (a ∷ b ∷ w)
    falls_merge a b c w e f =
        let k = a.0 in
        let yes : kept k a ≡ true = grind (arith, nat_tests) in
        let yes_b : kept k b ≡ true = kept_same k a b e ∙ yes in
        let yes_c : kept k c ≡ true = kept_same k a c f ∙ yes in
        record {
          below = λ h low.
              let no : kept h a ≡ false = grind (arith, nat_tests) in
              let no_b : kept h b ≡ false = kept_same h a b e ∙ no in
              let no_c : kept h c ≡ false = kept_same h a c f ∙ no in
              rw (no, no_b, no_c);
          no_earlier = λ r. rw (yes, yes_b, yes_c, ap (λ s. before s r) f) (omega arith);
          falls = rw (yes, yes_b, yes_c, ap (λ s. earlier s (keep k w)) f) (omega arith);
        }

    falls_swap : (a b : RingLetter A) (t w : List (RingLetter A)) → before b.0 a.0 ≡ true → before a.0 b.0 ≡ false
        → High (max a.0 b.0) t
        → Falls (max a.0 b.0) (b ∷ a ∷ (t ++ w)) (a ∷ b ∷ w)
    falls_swap a b t w e f high =
        let k = max a.0 b.0 in
        let yes : kept k a ≡ true = grind (arith, nat_tests) in
        let yes_b : kept k b ≡ true = grind (arith, nat_tests) in
        let rest : keep k (t ++ w) ≡ keep k w = keep_high k k t w (omega arith) high in
        record {
          below = λ h low.
              let rest' : keep h (t ++ w) ≡ keep h w = keep_high h k t w (omega arith) high in
              let side : (h < a.0) ⊎ (h < b.0) = grind arith in
              elim side [
                | inl s ↦ let no : kept h a ≡ false = grind (arith, nat_tests) in rw (no, rest')
                | inr s ↦ let no : kept h b ≡ false = grind (arith, nat_tests) in rw (no, rest')
              ];
          no_earlier = λ r. rw (yes, yes_b, rest) (omega arith);
          falls = rw (yes, yes_b, rest, e, f) (omega arith);
        }

module _ {A : Type 0} (R : RingOn A) (m : ℕ) (terms : ℕ → ℕ → List CommutatorTerm) (collectable : AreCollectable m terms) (before : ℕ → ℕ → Bool) (order : IsStrictOrder before) where
  high_terms : (h s : ℕ) (cs : List CommutatorTerm) (t u : A) → h ≤ s → ComeAfter m s cs → High before h (term_word R cs t u)
  high_terms h s [] t u low c = tt
  high_terms h s (c ∷ cs) t u low g = (omega (arith, g.0), high_terms h s cs t u low g.4)

  high_append : (h : ℕ) (v w : List (RingLetter A)) → High before h v → High before h w → High before h (v ++ w)
  high_append h [] w hv hw = hw
  high_append h (a ∷ v) w hv hw = (hv.0, high_append h v w hv.1 hw)

  high_inverted : (h : ℕ) (w : List (RingLetter A)) → High before h w → High before h (inverse_word R w)
  high_inverted h [] high = tt
  high_inverted h (a ∷ w) high = high_append h (inverse_word R w) ((a.0, R.neg a.1) ∷ []) (high_inverted h w high.1) (high.0, tt)

  -- at some root up to m, v is lower than w
  abbrev Lower : List (RingLetter A) → List (RingLetter A) → Type 0
  Lower v w = (k : ℕ) × (k < suc m) × Falls before k v w

  lower_replacement : (x y : RingLetter A) (w : List (RingLetter A)) → Within m (x ∷ y ∷ w) → bad before x y ≡ true → Lower (replacement R terms x y ++ w) (x ∷ y ∷ w)
  lower_replacement x y w within e = go (eqb x.0 y.0) refl (nat_lt y.0 x.0) refl e
    where
      swapped : before y.0 x.0 ≡ true → (t : List (RingLetter A)) → High before (max x.0 y.0) t → Lower (y ∷ x ∷ (t ++ w)) (x ∷ y ∷ w)
      swapped f t high =
          let a = within.1 in
          let b = within.2.1 in
          (max x.0 y.0, omega (arith, a, b), falls_swap before x y t w f (order.one_way y.0 x.0 f) high)

      go : (b : Bool) → eqb x.0 y.0 ≡ b → (c : Bool) → nat_lt y.0 x.0 ≡ c → cond b true (before y.0 x.0) ≡ true
          → Lower (cond b ((x.0, R.add x.1 y.1) ∷ []) (cond c (y ∷ x ∷ term_word R (terms y.0 x.0) y.1 x.1) (y ∷ x ∷ inverse_word R (term_word R (terms x.0 y.0) x.1 y.1))) ++ w) (x ∷ y ∷ w)
      go true f c g h =
          let same : x.0 ≡ y.0 = grind (arith, nat_tests) in
          let a = within.1 in
          (x.0, omega (arith, a), falls_merge before x y (x.0, R.add x.1 y.1) w (sym same) refl)
      go false f true g h =
          let below : y.0 < x.0 = grind (arith, nat_tests) in
          swapped h (term_word R (terms y.0 x.0) y.1 x.1)
          (high_terms (max x.0 y.0) x.0 (terms y.0 x.0) y.1 x.1 (omega (arith, below)) (collectable.later y.0 x.0 within.2.0 below within.1))
      go false f false g h =
          let below : x.0 < y.0 = grind (arith, nat_tests) in
          swapped h (inverse_word R (term_word R (terms x.0 y.0) x.1 y.1))
          (high_inverted (max x.0 y.0) (term_word R (terms x.0 y.0) x.1 y.1)
          (high_terms (max x.0 y.0) y.0 (terms x.0 y.0) x.1 y.1 (omega (arith, below)) (collectable.later x.0 y.0 within.0 below within.2.1)))

  next_lowers : (x : RingLetter A) (w v : List (RingLetter A)) → Within m (x ∷ w) → next_word R terms before x w ≡ Some v → Lower v (x ∷ w)
  next_lowers x [] v within e = absurd (cc)
  next_lowers x (y ∷ w) v within e =
      go (bad before x y) refl (next_word R terms before y w) refl (next_lowers y w) e
    where
      go : (b : Bool) → bad before x y ≡ b → (o : Option (List (RingLetter A))) → next_word R terms before y w ≡ o
          → ((u : List (RingLetter A)) → Within m (y ∷ w) → next_word R terms before y w ≡ Some u → Lower u (y ∷ w))
          → cond b (Some (replacement R terms x y ++ w)) (option_map (λ v. x ∷ v) o) ≡ Some v → Lower v (x ∷ y ∷ w)
      go true f o g known e =
          let same : (replacement R terms x y ++ w) ≡ v = cc in
          subst (λ z. Lower z (x ∷ y ∷ w)) same (lower_replacement x y w within f)
      go false f None g known e = absurd (cc)
      go false f (Some u) g known e =
          let same : (x ∷ u) ≡ v = cc in
          let k = known u within.2 g in
          subst (λ z. Lower z (x ∷ y ∷ w)) same (k.0, k.1, falls_behind before x k.0 u (y ∷ w) k.2)

  -- each replacement lowers the word
  pub rewritten_lowers : (w v : List (RingLetter A)) → Within m w → rewritten R terms before w ≡ Some v → Lower v w
  rewritten_lowers [] v within e = absurd (cc)
  rewritten_lowers (x ∷ w) v within e = next_lowers x w v within e

  -- collecting a word ends
  pub ends : (w : List (RingLetter A)) → Within m w → (z : List (RingLetter A)) × Ends R terms before w z
  ends w within =
      along_steps (List (RingLetter A)) (λ w v. Within m w × (rewritten R terms before w ≡ Some v)) (measure before) (suc m)
      (λ w v e. let k = rewritten_lowers w v e.0 e.1 in
      (k.0, k.1, (λ h low. ap (λ u. length u + inversions before u) (k.2.below h low)), k.2.falls))
      (λ w. Within m w → (z : List (RingLetter A)) × Ends R terms before w z)
      (λ w known within. choose w (rewritten R terms before w) refl within known) w within
    where
      choose : (w : List (RingLetter A)) (o : Option (List (RingLetter A))) → rewritten R terms before w ≡ o → Within m w
          → ((v : List (RingLetter A)) → Within m w × (rewritten R terms before w ≡ Some v) → Within m v → (z : List (RingLetter A)) × Ends R terms before v z)
          → (z : List (RingLetter A)) × Ends R terms before w z
      choose w None e within known = (w, at_end e)
      choose w (Some v) e within known =
          let k = known v (within, e) (subst (SomeWithin m) e (rewritten-within R m terms before collectable w within)) in
          (k.0, by_step e k.1)
