-- Sorted words that are given by the roots of a list and the elements there.
use Rattle.std.proofs.Common.{◌≡◌, ◌≢◌, ℕ, suc, zero, ◌<◌, ◌≤◌, ◌+◌, ◌*◌, ◌-◌, Bool, true, false, cond, List, [], ◌∷◌, ◌++◌, length, take, drop, set, get_or, Some, eqb, refl, sym, ap, ◌∙◌, subst, arith}
use Rattle.std.proofs.lemmas.Bool.Decides.{nat_tests}
use Rattle.std.specs.Prelude.{nat_lt}
use Rattle.std.specs.Map.{lookup}
use Rattle.std.specs.List.{range_with_len}
use Rattle.lie_ring.specs.Rings.{RingOn}
use Rattle.lie_letters.specs.RingLetters.{RingLetter, full_from, IsRingWord}
use Rattle.lie_unip.specs.Dropping.{Dropped, nothing, dropped}
use Rattle.lie_unip.specs.Collection.{IsStrictOrder}
use Rattle.lie_unip.specs.Splitting.{kept_first}
use Rattle.lie_unip.specs.Placing.{letters_at, BeforeRoots, AreSorted, AreRoots, rank_of}
use Rattle.lie_unip.proofs.SortedLemmas.{BeforeAll, Sorted, before_other}
use Rattle.lie_unip.proofs.FullWordLemmas.{AreElements, AreZero}
use Rattle.lie_unip.proofs.SplitLemmas.{kept_first_order}

module _ {A : Type 0} where
  -- the word in front of a place, the letter there, and the word behind it
  pub letters_cut : (ks : List ℕ) (c : List A) (i : ℕ) (d : A) → i < length ks → i < length c
      → letters_at ks c ≡ letters_at (take i ks) (take i c) ++ (get_or ks i 0, get_or c i d) ∷ letters_at (drop (suc i) ks) (drop (suc i) c)
  letters_cut [] c i d h l = absurd (omega (arith, h))
  letters_cut (k ∷ ks) [] i d h l = absurd (omega (arith, l))
  letters_cut (k ∷ ks) (a ∷ c) zero d h l = refl
  letters_cut (k ∷ ks) (a ∷ c) (suc i) d h l = ap (λ (w : List (RingLetter A)). (k, a) ∷ w) (letters_cut ks c i d (omega (arith, h)) (omega (arith, l)))

  -- the same where another element is put at the place
  pub letters_set : (ks : List ℕ) (c : List A) (i : ℕ) (z : A) → i < length ks → i < length c
      → letters_at ks (set c i z) ≡ letters_at (take i ks) (take i c) ++ (get_or ks i 0, z) ∷ letters_at (drop (suc i) ks) (drop (suc i) c)
  letters_set [] c i z h l = absurd (omega (arith, h))
  letters_set (k ∷ ks) [] i z h l = absurd (omega (arith, l))
  letters_set (k ∷ ks) (a ∷ c) zero z h l = refl
  letters_set (k ∷ ks) (a ∷ c) (suc i) z h l = ap (λ (w : List (RingLetter A)). (k, a) ∷ w) (letters_set ks c i z (omega (arith, h)) (omega (arith, l)))

  letters_before : (before : ℕ → ℕ → Bool) (r : ℕ) (ks : List ℕ) (c : List A) → BeforeRoots before r ks → BeforeAll before r (letters_at ks c)
  letters_before before r [] c b = tt
  letters_before before r (k ∷ ks) [] b = tt
  letters_before before r (k ∷ ks) (a ∷ c) b = (b.0, letters_before before r ks c b.1)

  -- the word is sorted where the roots are
  pub letters_sorted : (before : ℕ → ℕ → Bool) (ks : List ℕ) (c : List A) → AreSorted before ks → Sorted before (letters_at ks c)
  letters_sorted before [] c s = tt
  letters_sorted before (k ∷ ks) [] s = tt
  letters_sorted before (k ∷ ks) (a ∷ c) s = (letters_before before k ks c s.0, letters_sorted before ks c s.1)

  -- the numbers from s on give the full word
  pub letters_full : (s : ℕ) (c : List A) → letters_at (range_with_len s (length c)) c ≡ full_from s c
  letters_full s [] = refl
  letters_full s (a ∷ c) = ap (λ (w : List (RingLetter A)). (s, a) ∷ w) (letters_full (s + 1) c)

  module _ (R : RingOn A) (m : ℕ) where
    -- a sorted word is one of letters over the ring
    pub letters_word : (ks : List ℕ) (c : List A) → AreRoots m ks → AreElements R c → IsRingWord R m (letters_at ks c)
    letters_word [] c q e = (tt, tt)
    letters_word (k ∷ ks) [] q e = (tt, tt)
    letters_word (k ∷ ks) (a ∷ c) q e = let rest = letters_word ks c q.2 e.1 in ((e.0, rest.0), (q.0, q.1, rest.1))

    -- a sorted word of zeros may be dropped
    pub letters_zero : (ks : List ℕ) (c : List A) → AreZero R c → Dropped R (letters_at ks c) []
    letters_zero [] c z = nothing
    letters_zero (k ∷ ks) [] z = nothing
    letters_zero (k ∷ ks) (a ∷ c) z = subst (λ (y : A). Dropped R ((k, y) ∷ letters_at ks c) []) (sym z.0) (dropped k (letters_zero ks c z.1))

-- a root is before each later one
before_at : (before : ℕ → ℕ → Bool) (r : ℕ) (ks : List ℕ) (i : ℕ) → BeforeRoots before r ks → i < length ks → before r (get_or ks i 0) ≡ true
before_at before r [] i b h = absurd (omega (arith, h))
before_at before r (k ∷ ks) zero b h = b.0
before_at before r (k ∷ ks) (suc i) b h = before_at before r ks i b.1 (omega (arith, h))

-- the root at a place comes before that at a later place
pub sorted_at : (before : ℕ → ℕ → Bool) (ks : List ℕ) (j i : ℕ) → AreSorted before ks → j < i → i < length ks → before (get_or ks j 0) (get_or ks i 0) ≡ true
sorted_at before [] j i s l h = absurd (omega (arith, h))
sorted_at before (k ∷ ks) j zero s l h = absurd (omega (arith, l))
sorted_at before (k ∷ ks) zero (suc i) s l h = before_at before k ks i s.0 (omega (arith, h))
sorted_at before (k ∷ ks) (suc j) (suc i) s l h = sorted_at before ks j i s.1 (omega (arith, l)) (omega (arith, h))

-- the roots behind a place come after the root there
pub sorted_behind : (before : ℕ → ℕ → Bool) (ks : List ℕ) (i : ℕ) → AreSorted before ks → i < length ks → BeforeRoots before (get_or ks i 0) (drop (suc i) ks)
sorted_behind before [] i s h = absurd (omega (arith, h))
sorted_behind before (k ∷ ks) zero s h = s.0
sorted_behind before (k ∷ ks) (suc i) s h = sorted_behind before ks i s.1 (omega (arith, h))

-- the root at a place is among the first m
pub roots_at : (m : ℕ) (ks : List ℕ) (i : ℕ) → AreRoots m ks → i < length ks → (1 ≤ get_or ks i 0) × (get_or ks i 0 ≤ m)
roots_at m [] i q h = absurd (omega (arith, h))
roots_at m (k ∷ ks) zero q h = (q.0, q.1)
roots_at m (k ∷ ks) (suc i) q h = roots_at m ks i q.2 (omega (arith, h))

-- the roots behind a place are among the first m
pub roots_behind : (m : ℕ) (ks : List ℕ) (i : ℕ) → AreRoots m ks → AreRoots m (drop i ks)
roots_behind m [] zero q = tt
roots_behind m [] (suc i) q = tt
roots_behind m (k ∷ ks) zero q = q
roots_behind m (k ∷ ks) (suc i) q = roots_behind m ks i q.2

-- the element at a root of the list
pub letters_lookup : {A : Type 0} (before : ℕ → ℕ → Bool) (order : IsStrictOrder before) (ks : List ℕ) (c : List A) (p : ℕ) (d : A) → AreSorted before ks → p < length ks → p < length c
    → lookup (eqb (get_or ks p 0)) (letters_at ks c) ≡ Some (get_or c p d)
letters_lookup before order [] c p d s h l = absurd (omega (arith, h))
letters_lookup before order (k ∷ ks) [] p d s h l = absurd (omega (arith, l))
letters_lookup before order (k ∷ ks) (a ∷ c) zero d s h l = let same : eqb k k ≡ true = grind (arith, nat_tests) in rw same refl
letters_lookup before order (k ∷ ks) (a ∷ c) (suc p) d s h l =
    let o = before_other before order k (get_or ks p 0) (before_at before k ks p s.0 (omega (arith, h))) in
    let other : eqb (get_or ks p 0) k ≡ false = grind (arith, nat_tests) in
    rw other (letters_lookup before order ks c p d s.1 (omega (arith, h)) (omega (arith, l)))

-- ranks fall: where both roots are of one kind, with the number of the root
pub rank_falls : (m : ℕ) (kept : ℕ → Bool) (r k : ℕ) → r ≤ m → k ≤ m → (kept r ≡ kept k → r < k) → (kept r ≡ false → kept k ≡ false) → rank_of m kept k ≤ rank_of m kept r - 1
rank_falls m kept r k low high same apart = go (kept r) (kept k) refl refl
  where
    go : (b c : Bool) → kept r ≡ b → kept k ≡ c → cond c (2 * m + 2 - k) (m + 1 - k) ≤ cond b (2 * m + 2 - r) (m + 1 - r) - 1
    go true true e f = let l = same (e ∙ sym f) in omega (arith, l, low, high)
    go true false e f = omega (arith, low, high)
    go false true e f = absurd (cc (apart e))
    go false false e f = let l = same (e ∙ sym f) in omega (arith, l, low, high)

-- a root that comes after another of its kind has the greater number, and none that is kept comes after one that isn't
pub kept_after : (kept : ℕ → Bool) (r k : ℕ) → kept_first kept r k ≡ true → (kept r ≡ kept k → r < k) × (kept r ≡ false → kept k ≡ false)
kept_after kept r k e = go (kept r) (kept k) refl refl e
  where
    go : (b c : Bool) → kept r ≡ b → kept k ≡ c → cond b (cond c (nat_lt r k) true) (cond c false (nat_lt r k)) ≡ true → (kept r ≡ kept k → r < k) × (kept r ≡ false → kept k ≡ false)
    go true true f g e = (λ h. grind (arith, nat_tests), λ h. absurd (cc))
    go true false f g e = (λ h. absurd (cc), λ h. g)
    go false true f g e = absurd (cc)
    go false false f g e = (λ h. grind (arith, nat_tests), λ h. g)

-- roots at different places are different
pub different_at : (kept : ℕ → Bool) (ks : List ℕ) (j i : ℕ) → AreSorted (kept_first kept) ks → j < i → i < length ks → get_or ks j 0 ≢ get_or ks i 0
different_at kept ks j i s l h =
    let o = before_other (kept_first kept) (kept_first_order kept) (get_or ks j 0) (get_or ks i 0) (sorted_at (kept_first kept) ks j i s l h) in
    λ e. absurd (grind (arith, nat_tests))
