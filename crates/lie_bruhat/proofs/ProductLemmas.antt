-- Products of simple reflections, their inverses, and two descents.
use Rattle.std.proofs.Common.{◌≡◌, ℕ, suc, zero, ◌<◌, List, [], ◌∷◌, ◌++◌, refl, sym, ◌∙◌, ap, subst, arith, ◌⊎◌, inl, inr}
use Rattle.std.proofs.lemmas.Int.{ints}
use Rattle.std.proofs.Math.IntN.{ℤ, pos, negsuc, ◌+ℤ◌, neg_ℤ}
use Rattle.lie_letters.specs.RootSystems.{RootSystem, RootLaws, times, IsSum, IsNegative}
use Rattle.lie_bruhat.proofs.InTurn.{along, backwards, IsDescent}
use Rattle.lie_bruhat.proofs.InTurn.{alternating, last_in_turn, Lowers}
use Rattle.lie_bruhat.proofs.RankTwoLemmas.{times_one, times_zero, sum_along, sum_negative, turned_root, IsTurn}
use Rattle.lie_bruhat.proofs.BraidLemmas.{alternating-last}

module _ (D : RootSystem) (laws : RootLaws D) where
  pub along_append : (p q : List D.Index) (r : D.Root) → along D (p ++ q) r ≡ along D p (along D q r)
  along_append [] q r = refl
  along_append (i ∷ p) q r = ap (D.reflect i) (along_append p q r)

  pub along_back : (p : List D.Index) (r : D.Root) → along D p (along D (backwards p) r) ≡ r
  along_back [] r = refl
  along_back (i ∷ p) r =
      ap (λ s. D.reflect i (along D p s)) (along_append (backwards p) (i ∷ []) r)
      ∙ ap (D.reflect i) (along_back p (D.reflect i r)) ∙ laws.reflect_twice i r

  pub back_along : (p : List D.Index) (r : D.Root) → along D (backwards p) (along D p r) ≡ r
  back_along [] r = refl
  back_along (i ∷ p) r =
      along_append (backwards p) (i ∷ []) (D.reflect i (along D p r))
      ∙ ap (along D (backwards p)) (laws.reflect_twice i (along D p r)) ∙ back_along p r

  pub pairing_along : (p : List D.Index) (r s : D.Root) → D.pairing (along D p r) (along D p s) ≡ D.pairing r s
  pairing_along [] r s = refl
  pairing_along (i ∷ p) r s = laws.pairing_reflect i (along D p r) (along D p s) ∙ pairing_along p r s

  -- a reflection takes n times the simple root away, or adds it
  reflect_takes : (i : D.Index) (r : D.Root) (n : ℕ) → D.pairing r (D.simple i) ≡ pos n → IsSum D r 1 (D.reflect i r) n (D.simple i)
  reflect_takes i r n e k = elim (laws.same_index k i) [
    | inl h ↦ subst (λ j. D.coefficient r j ≡ (times 1 (D.coefficient (D.reflect i r) j) +ℤ times n (D.coefficient (D.simple i) j))) (sym h)
        (rw (laws.reflect_here i r, laws.simple_here i, times_one n, e) (omega (arith, ints)))
    | inr h ↦ rw (laws.reflect_other i k r h, laws.simple_other i k h, times_zero n) (omega (arith, ints))
  ]

  reflect_adds : (i : D.Index) (r : D.Root) (n : ℕ) → D.pairing r (D.simple i) ≡ neg_ℤ (pos n) → IsSum D (D.reflect i r) 1 r n (D.simple i)
  reflect_adds i r n e k = elim (laws.same_index k i) [
    | inl h ↦ subst (λ j. D.coefficient (D.reflect i r) j ≡ (times 1 (D.coefficient r j) +ℤ times n (D.coefficient (D.simple i) j))) (sym h)
        (rw (laws.reflect_here i r, laws.simple_here i, times_one n, e) (omega (arith, ints)))
    | inr h ↦ rw (laws.reflect_other i k r h, laws.simple_other i k h, times_zero n) (omega (arith, ints))
  ]

  sign_of : (z : ℤ) → ((n : ℕ) × (z ≡ pos n)) ⊎ ((n : ℕ) × (z ≡ neg_ℤ (pos n)))
  sign_of (pos n) = inl (n, refl)
  sign_of (negsuc n) = inr (suc n, refl)

  -- p s_l = s_j p, where p sends the root of l to the root of j
  pub conjugated : (p : List D.Index) (l j : D.Index) (r : D.Root) → along D p (D.simple l) ≡ D.simple j
      → along D p (D.reflect l r) ≡ D.reflect j (along D p r)
  conjugated p l j r e =
      let pairs : D.pairing (along D p r) (D.simple j) ≡ D.pairing r (D.simple l) =
      ap (D.pairing (along D p r)) (sym e) ∙ pairing_along p r (D.simple l) in
      elim (sign_of (D.pairing r (D.simple l))) [
        | inl (n, f) ↦
            let a = sum_along D laws p r (D.reflect l r) (D.simple l) 1 n (reflect_takes l r n f) in
            let b = reflect_takes j (along D p r) n (pairs ∙ f) in
            laws.determined (along D p (D.reflect l r)) (D.reflect j (along D p r)) (λ k.
            let a' = rw e at (a k) in omega (arith, ints, b k))
        | inr (n, f) ↦
            let a = sum_along D laws p (D.reflect l r) r (D.simple l) 1 n (reflect_adds l r n f) in
            let b = reflect_adds j (along D p r) n (pairs ∙ f) in
            laws.determined (along D p (D.reflect l r)) (D.reflect j (along D p r)) (λ k.
            let a' = rw e at (a k) in omega (arith, ints, b k))
      ]

  -- both words of m + 1 letters in turn have one product
  pub turns_agree : (m : ℕ) (i j : D.Index) → IsTurn D laws m i j → (r : D.Root)
      → along D (alternating (suc m) i j) r ≡ along D (alternating (suc m) j i) r
  turns_agree m i j turn r =
      ap (λ p. along D p r) (alternating-last m i j)
      ∙ along_append (alternating m i j) (last_in_turn m i j ∷ []) r
      ∙ conjugated (alternating m i j) (last_in_turn m i j) j r turn.ends

  abbrev left : D.Index → List D.Index → List D.Index
  left i p = i ∷ p

  lowers_from : (m : ℕ) (i j : D.Index) (w : List D.Index)
      → ((t : ℕ) → t < m → IsNegative D (along D (backwards w) (turned_root D laws t i j)))
      → Lowers left (IsDescent D) m i j w
  lowers_from zero i j w h = tt
  lowers_from (suc m) i j w h = (
    h 0 (omega arith),
    lowers_from m j i (i ∷ w) (λ t low.
        subst (IsNegative D) (sym (along_append (backwards w) (i ∷ []) (turned_root D laws t j i))) (h (suc t) (omega arith))),
  )

  -- two descents lower in turn
  pub lowers_in_turn : (m : ℕ) (i j : D.Index) (w : List D.Index) → IsTurn D laws m i j → IsDescent D i w → IsDescent D j w
      → Lowers left (IsDescent D) (suc m) i j w
  lowers_in_turn m i j w turn di dj = lowers_from (suc m) i j w (λ t low.
      let (x, y, s) = turn.sums t (omega arith) in
      sum_negative D laws (along D (backwards w) (turned_root D laws t i j)) (along D (backwards w) (D.simple i))
      (along D (backwards w) (D.simple j)) x y
      (sum_along D laws (backwards w) (turned_root D laws t i j) (D.simple i) (D.simple j) x y s) di dj)
