-- How the orbit of a weight grows.
use Rattle.std.proofs.Common.{◌≡◌, ℕ, zero, suc, ◌+◌, ◌*◌, ◌<◌, ◌≤◌, ◌^◌, pos, neg_ℤ, ◌+ℤ◌, ◌*ℤ◌, List, [], ◌∷◌, ◌++◌, length, get_or, refl, sym, ap, subst, ◌∙◌, arith, ◌⊎◌, inl, inr, length-append, append_assoc, ⊎_elim, unsigned_abs, Bool}
use Rattle.std.specs.List.{Contains}
use Rattle.std.proofs.lemmas.List.{get_or_append_left, get_or-append-add, get_or_default}
use Rattle.lie_datum.specs.Vectors.{Vector, pairing, times, entry}
use Rattle.lie_datum.specs.RootDatum.{IsSimpleIndex, IsWithin, simple_root, simple_coroot, covector}
use Rattle.lie_datum.specs.RootList.{RootDatum, IsLoaded}
use Rattle.lie_datum.proofs.Entries.{within_or_past, entry-plus, entry-times}
use Rattle.lie_datum.proofs.VectorLemmas.{entry_within, abs_add, abs_mul, abs_neg}
use Rattle.lie_datum.proofs.ClosureLemmas.{in_from_contains, contains_from_in, in_one, in_at, in_last}
use Rattle.indexmap.specs.IndexSet.{insert_key}
use Rattle.lie_base.proofs.Members.{In, here, there}
use Rattle.lie_orbit.specs.Weights.{IsMinuscule}
use Rattle.lie_orbit.specs.Orbits.{IsReached, start, next, reflected_weight, AreDistinct, IsNear}
use Rattle.lie_orbit.specs.Growth.{IsGrowing, HasImage, HasImages, StartsWith, first_weight}
use Rattle.lie_orbit.proofs.WeightLemmas.{from_entries, reached_minuscule, pairing-simple, simple_small, simple_some, simple_is}

-- ---- one member more
split_last : (ws : List Vector) (y x : Vector) → In x (ws ++ y ∷ []) → In x ws ⊎ (x ≡ y)
split_last ws y x p = ⊎_elim (λ a. inl a) (λ a. inr (only a)) (in_one ws (y ∷ []) x p)
  where
    only : In x (y ∷ []) → x ≡ y
    only (here e) = e
    only (there q) = elim q [ ]

pub members_push : (P : Vector → Type 0) (ws : List Vector) (y : Vector) → ((x : Vector) → Contains ws x → P x) → P y → (x : Vector) → Contains (ws ++ y ∷ []) x → P x
members_push P ws y h p x m = ⊎_elim (λ q. h x (contains_from_in ws x q)) (λ e. subst P (sym e) p) (split_last ws y x (in_from_contains (ws ++ y ∷ []) x m))

-- a place of a list with one member more is a place of the list, or the last
pub place_push : (ws : List Vector) (y : Vector) (P : ℕ → Vector → Type 0) → ((k : ℕ) (z : Vector) → k < length ws → P k (get_or ws k z)) → P (length ws) y → (k : ℕ) (z : Vector) → k < length (ws ++ y ∷ []) → P k (get_or (ws ++ y ∷ []) k z)
place_push ws y P h p k z l =
    ⊎_elim (λ m. subst (P k) (sym (get_or_append_left ws (y ∷ []) z k m)) (h k z m))
    (λ m. (let last : k ≡ length ws = omega (arith, m, l, length-append ws (y ∷ [])) in
    let at : k ≡ length ws + 0 = omega (arith, last) in
    let read = ap (λ t. get_or (ws ++ y ∷ []) t z) at ∙ get_or-append-add ws (y ∷ []) 0 z in
    subst (P k) (sym read) (subst (λ t. P t y) (sym last) p))) (within_or_past k (length ws))

pub distinct_push : (ws : List Vector) (y : Vector) → AreDistinct ws → ¬ Contains ws y → AreDistinct (ws ++ y ∷ [])
distinct_push ws y h n j k z lt inside e =
    ⊎_elim (λ m. h j k z lt m (sym (get_or_append_left ws (y ∷ []) z j (omega (arith, lt, m))) ∙ e ∙ get_or_append_left ws (y ∷ []) z k m))
    (λ m. (let last : k ≡ length ws + 0 = omega (arith, m, inside, length-append ws (y ∷ [])) in
    let low : j < length ws = omega (arith, lt, last) in
    let here' = ap (λ t. get_or (ws ++ y ∷ []) t z) last ∙ get_or-append-add ws (y ∷ []) 0 z in
    let there' = get_or_append_left ws (y ∷ []) z j low in
    n (contains_from_in ws y (subst (λ v. In v ws) (sym there' ∙ e ∙ here') (in_at ws j z low))))) (within_or_past k (length ws))

pub first_push : (ws : List Vector) (y : Vector) → 1 ≤ length ws → first_weight (ws ++ y ∷ []) ≡ first_weight ws
first_push ws y l = get_or_append_left ws (y ∷ []) [] 0 l

pub IsGrowing-push : (d : RootDatum) (ws : List Vector) (y : Vector) → IsGrowing d ws → IsReached d (first_weight ws) y → IsNear (first_weight ws) (100 * length ws) y → ¬ Contains ws y → length ws < 1025 → IsGrowing d (ws ++ y ∷ [])
IsGrowing-push d ws y g r w n l =
    let first = sym (first_push ws y g.some) in
    record {
      some = let a = g.some in omega (arith, a, length-append ws (y ∷ []));
      minuscule = subst (IsMinuscule d) first g.minuscule;
      small = subst (IsWithin (2 * 10 ^ 32)) first g.small;
      reached = members_push (λ x. IsReached d (first_weight (ws ++ y ∷ [])) x) ws y (λ x c. subst (λ t. IsReached d t x) first (g.reached x c)) (subst (λ t. IsReached d t y) first r);
      near = place_push ws y (λ k x. IsNear (first_weight (ws ++ y ∷ [])) (100 * k) x) (λ k z l'. subst (λ t. IsNear t (100 * k) (get_or ws k z)) first (g.near k z l')) (subst (λ t. IsNear t (100 * length ws) y) first w);
      distinct = distinct_push ws y g.distinct n;
      short = omega (arith, l, length-append ws (y ∷ []));
    }

-- ---- images
module _ (d : RootDatum) (loaded : IsLoaded d) where
  -- the image of a minuscule weight is not far from it
  pub image_near : (i : ℕ) (x : Vector) → IsSimpleIndex d.base i → IsMinuscule d x → IsNear x 100 (reflected_weight d i x)
  image_near i x s minuscule k =
      let n = pairing x (simple_coroot d.base i) in
      let a = simple_root d.base i in
      let one : unsigned_abs n ≤ 1 = let h = minuscule (pos i) (simple_some d loaded i s) in let e = ap (λ r. pairing x (covector d.base r)) (simple_is d loaded i s) ∙ pairing-simple d loaded i x s in subst (λ t. unsigned_abs t ≤ 1) e h in
      let s1 = abs_add (entry x k) (neg_ℤ n *ℤ entry a k) in
      let s2 = abs_mul (neg_ℤ n) (entry a k) 1 100 (let e = abs_neg n in omega (arith, e, one)) (entry_within 100 a k (simple_small d loaded i s)) in
      let e = entry-plus x (times (neg_ℤ n) a) k ∙ ap (λ t. entry x k +ℤ t) (entry-times (neg_ℤ n) a k) in
      subst (λ t. unsigned_abs t ≤ unsigned_abs (entry x k) + 100) (sym e) (omega (arith, s1, s2))

  pub member_minuscule : (ws : List Vector) (k : ℕ) (z : Vector) → IsGrowing d ws → k < length ws → IsMinuscule d (get_or ws k z)
  member_minuscule ws k z g l = reached_minuscule d loaded (first_weight ws) g.minuscule (get_or ws k z) (g.reached (get_or ws k z) (contains_from_in ws (get_or ws k z) (in_at ws k z l)))

  -- a member is near the first weight
  pub member_near : (ws : List Vector) (k : ℕ) (z : Vector) → IsGrowing d ws → k < length ws → IsNear (first_weight ws) 102400 (get_or ws k z)
  member_near ws k z g l j = let a = g.near k z l j in let s = g.short in omega (arith, a, s, l)

  pub member_within : (ws : List Vector) (k : ℕ) (z : Vector) → IsGrowing d ws → k < length ws → IsWithin (25 * 10 ^ 31) (get_or ws k z)
  member_within ws k z g l = from_entries (25 * 10 ^ 31) (get_or ws k z) (λ j. (let a = member_near ws k z g l j in let b = entry_within (2 * 10 ^ 32) (first_weight ws) j g.small in omega (arith, a, b)))

  -- the image of a member, if it is new, is a member more
  pub IsGrowing-image : (ws : List Vector) (at i : ℕ) (y z : Vector) → IsGrowing d ws → at < length ws → IsSimpleIndex d.base i → y ≡ reflected_weight d i (get_or ws at z) → ¬ Contains ws y → length ws < 1025 → IsGrowing d (ws ++ y ∷ [])
  IsGrowing-image ws at i y z g l s e n room =
      let x = get_or ws at z in
      let r : IsReached d (first_weight ws) y = subst (IsReached d (first_weight ws)) (sym e) (next i x s (g.reached x (contains_from_in ws x (in_at ws at z l)))) in
      let near : IsNear (first_weight ws) (100 * length ws) y = subst (IsNear (first_weight ws) (100 * length ws)) (sym e) (λ j. (let a = image_near i x s (member_minuscule ws at z g l) j in let b = g.near at z l j in omega (arith, a, b, l))) in
      IsGrowing-push d ws y g r near n room

pub HasImage-append : (d : RootDatum) (ws zs : List Vector) (k i : ℕ) → k < length ws → HasImage d ws k i → HasImage d (ws ++ zs) k i
HasImage-append d ws zs k i l h z = subst (λ t. Contains (ws ++ zs) (reflected_weight d i t)) (sym (get_or_append_left ws zs z k l)) (contains_from_in (ws ++ zs) (reflected_weight d i (get_or ws k z)) (in_front ws zs (reflected_weight d i (get_or ws k z)) (in_from_contains ws (reflected_weight d i (get_or ws k z)) (h z))))
  where
    in_front : (ws zs : List Vector) (x : Vector) → In x ws → In x (ws ++ zs)
    in_front [] zs x p = elim p [ ]
    in_front (y ∷ ws) zs x (here e) = here e
    in_front (y ∷ ws) zs x (there p) = there (in_front ws zs x p)

pub HasImage-kept : (d : RootDatum) (ws ys : List Vector) (k i : ℕ) → k < length ws → StartsWith ys ws → HasImage d ws k i → HasImage d ys k i
HasImage-kept d ws ys k i l s h = subst (λ t. HasImage d t k i) (sym s.1) (HasImage-append d ws s.0 k i l h)

-- the image was there, or is pushed
pub HasImage_there : (d : RootDatum) (ws : List Vector) (k i : ℕ) (y z : Vector) → k < length ws → y ≡ reflected_weight d i (get_or ws k z) → Contains ws y → HasImage d ws k i
HasImage_there d ws k i y z l e c z' = subst (Contains ws) (e ∙ ap (reflected_weight d i) (get_or_default ws k z z' l)) c

pub HasImage_pushed : (d : RootDatum) (ws : List Vector) (k i : ℕ) (y z : Vector) → k < length ws → y ≡ reflected_weight d i (get_or ws k z) → HasImage d (ws ++ y ∷ []) k i
HasImage_pushed d ws k i y z l e z' =
    subst (Contains (ws ++ y ∷ [])) (e ∙ ap (reflected_weight d i) (get_or_default ws k z z' l ∙ sym (get_or_append_left ws (y ∷ []) z' k l))) (contains_from_in (ws ++ y ∷ []) y (in_last ws y))

pub StartsWith-trans : (xs ys zs : List Vector) → StartsWith ys xs → StartsWith zs ys → StartsWith zs xs
StartsWith-trans xs ys zs a b = (a.0 ++ b.0, b.1 ∙ ap (λ l. l ++ b.0) a.1 ∙ append_assoc xs a.0 b.0)

pub StartsWith-length : (xs ys : List Vector) → StartsWith ys xs → length xs ≤ length ys
StartsWith-length xs ys a = let e = ap length a.1 in omega (arith, e, length-append xs a.0)

pub StartsWith-first : (xs ys : List Vector) → 1 ≤ length xs → StartsWith ys xs → first_weight ys ≡ first_weight xs
StartsWith-first xs ys l a = ap first_weight a.1 ∙ get_or_append_left xs a.0 [] 0 l

up_to : (j i : ℕ) → j ≤ i + 1 → (j ≤ i) ⊎ (j ≡ i + 1)
up_to zero i l = inl (omega arith)
up_to (suc zero) zero l = inr (omega arith)
up_to (suc (suc j)) zero l = absurd (omega arith)
up_to (suc j) (suc i) l = ⊎_elim (λ h. inl (omega (arith, h))) (λ h. inr (omega (arith, h))) (up_to j i (omega (arith, l)))

-- the images of one weight under one reflection more
pub next_image : (d : RootDatum) (ws ys : List Vector) (at i : ℕ) → at < length ws → StartsWith ys ws → (length ws < 1025 → (j : ℕ) → 1 ≤ j → j ≤ i → HasImage d ws at j) → (length ys < 1025 → HasImage d ys at (i + 1)) → length ys < 1025 → (j : ℕ) → 1 ≤ j → j ≤ i + 1 → HasImage d ys at j
next_image d ws ys at i l s h k room j one le =
    let long = StartsWith-length ws ys s in
    ⊎_elim (λ m. HasImage-kept d ws ys at j l s (h (omega (arith, room, long)) j one m)) (λ e. subst (λ t. HasImage d ys at t) (sym e) (k room)) (up_to j i le)

-- the images of one weight more
pub next_weight : (d : RootDatum) (ws ys : List Vector) (at : ℕ) → at < length ws → StartsWith ys ws → (length ws < 1025 → (k : ℕ) → k < at → HasImages d ws k) → (length ys < 1025 → HasImages d ys at) → length ys < 1025 → (k : ℕ) → k < at + 1 → HasImages d ys k
next_weight d ws ys at l s h n room k lt =
    let long = StartsWith-length ws ys s in
    ⊎_elim (λ m i p. HasImage-kept d ws ys k i (omega (arith, m, l)) s (h (omega (arith, room, long)) k m i p)) (λ e. subst (λ t. HasImages d ys t) (sym e) (n room)) (up_below k at lt)
  where
    up_below : (k at : ℕ) → k < at + 1 → (k < at) ⊎ (k ≡ at)
    up_below zero zero l = inr refl
    up_below (suc k) zero l = absurd (omega (arith, l))
    up_below zero (suc at) l = inl (omega arith)
    up_below (suc k) (suc at) l = ⊎_elim (λ h. inl (omega (arith, h))) (λ h. inr (omega (arith, h))) (up_below k at (omega (arith, l)))

-- a list that holds the images of its members holds the orbit
pub grown_whole : (d : RootDatum) (ws : List Vector) → IsGrowing d ws → ((k : ℕ) → k < length ws → HasImages d ws k) → (x : Vector) → IsReached d (first_weight ws) x → Contains ws x
grown_whole d ws g h _ start = (0, g.some, get_or_default ws 0 (first_weight ws) [] g.some)
grown_whole d ws g h _ (next i x s p) =
    let k = grown_whole d ws g h x p in
    subst (λ t. Contains ws (reflected_weight d i t)) k.2 (h k.0 k.1 i s x)

-- ---- the start
pub first_inserted : (test : Vector → Vector → Bool) (ks : List Vector) (w : Vector) → length ks ≡ 0 → insert_key test ks w ≡ w ∷ []
first_inserted test [] w e = refl
first_inserted test (k ∷ ks) w e = absurd (omega (arith, e))

pub grown_start : (d : RootDatum) (w : Vector) → IsMinuscule d w → IsWithin (2 * 10 ^ 32) w → IsGrowing d (w ∷ [])
grown_start d w minuscule small = record {
  some = omega arith;
  minuscule = minuscule;
  small = small;
  reached = λ x c. subst (IsReached d w) (sym (only x (in_from_contains (w ∷ []) x c))) start;
  near = near;
  distinct = λ j k z l m. absurd (omega (arith, l, m));
  short = omega arith;
}
  where
    only : (x : Vector) → In x (w ∷ []) → x ≡ w
    only x (here e) = e
    only x (there q) = elim q [ ]

    near : (k : ℕ) (z : Vector) → k < 1 → IsNear w (100 * k) (get_or (w ∷ []) k z)
    near zero z l j = omega arith
    near (suc k) z l j = absurd (omega (arith, l))
