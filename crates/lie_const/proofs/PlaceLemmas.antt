-- Places in the order of determination: an order in which one descends only finitely often, and the pair of each place.
use Rattle.std.proofs.Common.{◌≡◌, ℕ, zero, suc, ◌<◌, ◌≤◌, ℤ, pos, negsuc, neg_ℤ, ◌≤ℤ◌, ◌<ℤ◌, refl, sym, ap, subst, ◌∙◌, arith, ◌⊎◌, inl, inr, ⊎_elim, unsigned_abs}
use Rattle.std.proofs.lemmas.Int.{ints}
use Rattle.lie_datum.specs.RootList.{RootDatum, IsLoaded, root_of}
use Rattle.lie_datum.proofs.SignedRoots.{root_is, same_number, same_coeffs}
use Rattle.lie_datum.proofs.Entries.{within_or_past}
use Rattle.lie_const.specs.StructureConstants.{Place, Precedes, at_part, IsSum, IsSpecial}
use Rattle.lie_const.specs.Filling.{IsPairAt, own_pair, right_pair, left_pair}
use Rattle.lie_const.proofs.SumLemmas.{neg_neg, sum_swap, sum_turn, sum_neg, right_before, compare_numbers}

pub place_eq : (a b : Place) → a.sum ≡ b.sum → a.first ≡ b.first → a.part ≡ b.part → a ≡ b
place_eq a b p q r = ap (λ t. at_part t a.first a.part) p ∙ ap (λ t. at_part b.sum t a.part) q ∙ ap (λ t. at_part b.sum b.first t) r

pub Precedes-trans : (a b c : Place) → Precedes a b → Precedes b c → Precedes a c
Precedes-trans a b c (inl l) (inl m) = inl (omega (arith, ints, l, m))
Precedes-trans a b c (inl l) (inr (inl m)) = inl (let e = m.0 in omega (arith, ints, l, e))
Precedes-trans a b c (inl l) (inr (inr m)) = inl (let e = m.0 in omega (arith, ints, l, e))
Precedes-trans a b c (inr (inl l)) (inl m) = inl (let e = l.0 in omega (arith, ints, m, e))
Precedes-trans a b c (inr (inr l)) (inl m) = inl (let e = l.0 in omega (arith, ints, m, e))
Precedes-trans a b c (inr (inl l)) (inr (inl m)) = inr (inl (l.0 ∙ m.0, let e = l.1 in let f = m.1 in omega (arith, ints, e, f)))
Precedes-trans a b c (inr (inl l)) (inr (inr m)) = inr (inl (l.0 ∙ m.0, let e = l.1 in let f = m.1 in omega (arith, ints, e, f)))
Precedes-trans a b c (inr (inr l)) (inr (inl m)) = inr (inl (l.0 ∙ m.0, let e = l.1 in let f = m.1 in omega (arith, ints, e, f)))
Precedes-trans a b c (inr (inr l)) (inr (inr m)) = inr (inr (l.0 ∙ m.0, l.1 ∙ m.1, let e = l.2 in let f = m.2 in omega (arith, e, f)))

pub not_before_itself : (a : Place) → ¬ Precedes a a
not_before_itself a (inl l) = absurd (omega (arith, ints, l))
not_before_itself a (inr (inl l)) = let e = l.1 in absurd (omega (arith, ints, e))
not_before_itself a (inr (inr l)) = let e = l.2 in absurd (omega (arith, e))

pub compare_places : (a b : Place) → Precedes a b ⊎ (Precedes b a ⊎ (a ≡ b))
compare_places a b =
    ⊎_elim (λ l. inl (inl l)) (λ f. ⊎_elim (λ l. inr (inl (inl l))) (λ e.
    ⊎_elim (λ l. inl (inr (inl (e, l)))) (λ g. ⊎_elim (λ l. inr (inl (inr (inl (sym e, l))))) (λ h.
    ⊎_elim (λ l. ⊎_elim (λ m. inr (inr (place_eq a b e h (omega (arith, l, m))))) (λ m. inl (inr (inr (e, h, less a.part b.part l m)))) (same_or_less a.part b.part l))
    (λ l. inr (inl (inr (inr (sym e, sym h, l))))) (at_most a.part b.part)) g) (compare_numbers a.first b.first)) f) (compare_numbers a.sum b.sum)
  where
    at_most : (m n : ℕ) → (m ≤ n) ⊎ (n < m)
    at_most m n = ⊎_elim (λ l. inr l) (λ l. inl l) (within_or_past n m)

    same_or_less : (m n : ℕ) → m ≤ n → (n ≤ m) ⊎ (m < n)
    same_or_less m n l = ⊎_elim (λ k. inr k) (λ k. inl k) (within_or_past m n)

    less : (m n : ℕ) → m ≤ n → m < n → m < n
    less m n l k = k

-- what holds where it holds at all places before holds at all places
module _ (P : Place → Type 0) (none : (a : Place) → (a.sum ≤ℤ pos 0) ⊎ (a.first ≤ℤ pos 0) → P a) (step : (a : Place) → ((b : Place) → Precedes b a → P b) → P a) where
  by_part : (k r : ℤ) → ((b : Place) → b.sum <ℤ k → P b) → ((b : Place) → b.sum ≡ k → b.first <ℤ r → P b) → (w : ℕ) (a : Place) → a.sum ≡ k → a.first ≡ r → a.part < w → P a
  by_part k r sums firsts zero a e f l = absurd (omega (arith, l))
  by_part k r sums firsts (suc w) a e f l = step a (before (λ b g h m. by_part k r sums firsts w b g h m))
    where
      before : ((b : Place) → b.sum ≡ k → b.first ≡ r → b.part < w → P b) → (b : Place) → Precedes b a → P b
      before parts b (inl m) = sums b (omega (arith, ints, m, e))
      before parts b (inr (inl m)) = firsts b (m.0 ∙ e) (let h = m.1 in omega (arith, ints, h, f))
      before parts b (inr (inr m)) = parts b (m.0 ∙ e) (m.1 ∙ f) (let h = m.2 in omega (arith, h, l))

  by_first : (k : ℤ) → ((b : Place) → b.sum <ℤ k → P b) → (u : ℕ) (a : Place) → a.sum ≡ k → a.first <ℤ pos (suc u) → P a
  by_first k sums zero a e l = none a (inr (omega (arith, ints, l)))
  by_first k sums (suc u) a e l = by_part k a.first sums (λ b f m. by_first k sums u b f (omega (arith, ints, l, m))) (suc a.part) a e refl (omega arith)

  by_sum : (t : ℕ) (a : Place) → a.sum <ℤ pos (suc t) → P a
  by_sum zero a l = none a (inl (omega (arith, ints, l)))
  by_sum (suc t) a l = by_first a.sum (λ b m. by_sum t b (omega (arith, ints, l, m))) (unsigned_abs a.first) a refl (above a.first)
    where
      above : (z : ℤ) → z <ℤ pos (suc (unsigned_abs z))
      above (pos n) = omega (arith, ints)
      above (negsuc n) = omega (arith, ints)

  pub place_induction : (a : Place) → P a
  place_induction a = by_sum (unsigned_abs a.sum) a (above a.sum)
    where
      above : (z : ℤ) → z <ℤ pos (suc (unsigned_abs z))
      above (pos n) = omega (arith, ints)
      above (negsuc n) = omega (arith, ints)

-- ---- the pair of a place
-- the absolute values of a pair and of its sum tell its place
pub data IsShape (at : Place) : ℕ → ℕ → ℕ → Type 0 where
  own_shape : (a b c : ℕ) → at.sum ≡ pos c → at.first ≡ pos a → at.part ≡ 0 → a < b → b < c → IsShape at a b c
  right_shape : (a b c : ℕ) → at.sum ≡ pos b → at.first ≡ pos c → at.part ≡ 1 → c < a → a < b → IsShape at a b c
  left_shape : (a b c : ℕ) → at.sum ≡ pos a → at.first ≡ pos b → at.part ≡ 2 → b < c → c < a → IsShape at a b c

pub same_shape : (s t : Place) (a b c : ℕ) → IsShape s a b c → IsShape t a b c → s ≡ t
same_shape s t a b c (own_shape _ _ _ k r p l m) (own_shape _ _ _ k' r' p' l' m') = place_eq s t (k ∙ sym k') (r ∙ sym r') (p ∙ sym p')
same_shape s t a b c (right_shape _ _ _ k r p l m) (right_shape _ _ _ k' r' p' l' m') = place_eq s t (k ∙ sym k') (r ∙ sym r') (p ∙ sym p')
same_shape s t a b c (left_shape _ _ _ k r p l m) (left_shape _ _ _ k' r' p' l' m') = place_eq s t (k ∙ sym k') (r ∙ sym r') (p ∙ sym p')
same_shape s t a b c (own_shape _ _ _ k r p l m) (right_shape _ _ _ k' r' p' l' m') = absurd (omega (arith, l, m, l', m'))
same_shape s t a b c (own_shape _ _ _ k r p l m) (left_shape _ _ _ k' r' p' l' m') = absurd (omega (arith, l, m, l', m'))
same_shape s t a b c (right_shape _ _ _ k r p l m) (own_shape _ _ _ k' r' p' l' m') = absurd (omega (arith, l, m, l', m'))
same_shape s t a b c (right_shape _ _ _ k r p l m) (left_shape _ _ _ k' r' p' l' m') = absurd (omega (arith, l, m, l', m'))
same_shape s t a b c (left_shape _ _ _ k r p l m) (own_shape _ _ _ k' r' p' l' m') = absurd (omega (arith, l, m, l', m'))
same_shape s t a b c (left_shape _ _ _ k r p l m) (right_shape _ _ _ k' r' p' l' m') = absurd (omega (arith, l, m, l', m'))

-- in a shape the three numbers stand in one of two cyclic orders
cyclic : (s : Place) (a b c : ℕ) → IsShape s a b c → ((a < b) × (b < c)) ⊎ (((c < a) × (a < b)) ⊎ ((b < c) × (c < a)))
cyclic s a b c (own_shape _ _ _ k r p l m) = inl (l, m)
cyclic s a b c (right_shape _ _ _ k r p l m) = inr (inl (l, m))
cyclic s a b c (left_shape _ _ _ k r p l m) = inr (inr (l, m))

pub not_swapped_shape : (s t : Place) (a b c : ℕ) → IsShape s a b c → IsShape t b a c → ⊥
not_swapped_shape s t a b c p q = by (cyclic s a b c p) (cyclic t b a c q)
  where
    by : ((a < b) × (b < c)) ⊎ (((c < a) × (a < b)) ⊎ ((b < c) × (c < a))) → ((b < a) × (a < c)) ⊎ (((c < b) × (b < a)) ⊎ ((a < c) × (c < b))) → ⊥
    by (inl l) (inl m) = let l0 = l.0 in let l1 = l.1 in let m0 = m.0 in let m1 = m.1 in omega (arith, l0, l1, m0, m1)
    by (inl l) (inr (inl m)) = let l0 = l.0 in let l1 = l.1 in let m0 = m.0 in let m1 = m.1 in omega (arith, l0, l1, m0, m1)
    by (inl l) (inr (inr m)) = let l0 = l.0 in let l1 = l.1 in let m0 = m.0 in let m1 = m.1 in omega (arith, l0, l1, m0, m1)
    by (inr (inl l)) (inl m) = let l0 = l.0 in let l1 = l.1 in let m0 = m.0 in let m1 = m.1 in omega (arith, l0, l1, m0, m1)
    by (inr (inl l)) (inr (inl m)) = let l0 = l.0 in let l1 = l.1 in let m0 = m.0 in let m1 = m.1 in omega (arith, l0, l1, m0, m1)
    by (inr (inl l)) (inr (inr m)) = let l0 = l.0 in let l1 = l.1 in let m0 = m.0 in let m1 = m.1 in omega (arith, l0, l1, m0, m1)
    by (inr (inr l)) (inl m) = let l0 = l.0 in let l1 = l.1 in let m0 = m.0 in let m1 = m.1 in omega (arith, l0, l1, m0, m1)
    by (inr (inr l)) (inr (inl m)) = let l0 = l.0 in let l1 = l.1 in let m0 = m.0 in let m1 = m.1 in omega (arith, l0, l1, m0, m1)
    by (inr (inr l)) (inr (inr m)) = let l0 = l.0 in let l1 = l.1 in let m0 = m.0 in let m1 = m.1 in omega (arith, l0, l1, m0, m1)

pub abs_neg : (z : ℤ) → unsigned_abs (neg_ℤ z) ≡ unsigned_abs z
abs_neg (pos zero) = refl
abs_neg (pos (suc n)) = refl
abs_neg (negsuc n) = refl

from_positive : (z : ℤ) → pos 0 <ℤ z → z ≡ pos (unsigned_abs z)
from_positive (pos n) l = refl
from_positive (negsuc n) l = absurd (omega (arith, ints, l))

abs_less : (x y : ℤ) → pos 0 <ℤ x → x <ℤ y → unsigned_abs x < unsigned_abs y
abs_less (pos a) (pos b) p l = omega (arith, ints, l)
abs_less (pos a) (negsuc b) p l = absurd (omega (arith, ints, l))
abs_less (negsuc a) y p l = absurd (omega (arith, ints, p))

-- (p, q) is (x, y), (y, x), (-x, -y) or (-y, -x)
abbrev pub IsTurned : ℤ → ℤ → ℤ → ℤ → Type 0
IsTurned p q x y = ((x ≡ p) × (y ≡ q)) ⊎ (((x ≡ q) × (y ≡ p)) ⊎ (((x ≡ neg_ℤ p) × (y ≡ neg_ℤ q)) ⊎ ((x ≡ neg_ℤ q) × (y ≡ neg_ℤ p))))

module _ (d : RootDatum) (loaded : IsLoaded d) where
  -- a pair has one sum
  pub one_sum : (r s j k : ℤ) → IsSum d r s j → IsSum d r s k → j ≡ k
  one_sum r s j k h g = same_number d loaded j k h.number g.number (same_coeffs d loaded (root_of d j) (root_of d k) (root_is d loaded j h.number) (root_is d loaded k g.number) (h.is ∙ sym g.is))

  pub special_positive : (r s k : ℤ) → IsSpecial d r s k → pos 0 <ℤ s
  special_positive r s k h = let a = h.positive in let b = h.before in omega (arith, ints, a, b)

  pub second_before : (r s k : ℤ) → IsSpecial d r s k → s <ℤ k
  second_before r s k h = right_before d loaded r s k h.sum h.positive (special_positive r s k h)

  -- a pair of a place, its sum and its shape
  pub pair_sum : (at : Place) (p q : ℤ) → IsPairAt d at p q → (z : ℤ) × IsSum d p q z × IsShape at (unsigned_abs p) (unsigned_abs q) (unsigned_abs z)
  pair_sum _ _ _ (own_pair r s k h) = (k, h.sum, own_shape (unsigned_abs r) (unsigned_abs s) (unsigned_abs k) (from_positive k (positive r s k h)) (from_positive r h.positive) refl (abs_less r s h.positive h.before) (abs_less s k (special_positive r s k h) (second_before r s k h)))
    where
      positive : (r s k : ℤ) → IsSpecial d r s k → pos 0 <ℤ k
      positive r s k h = let a = special_positive r s k h in let b = second_before r s k h in omega (arith, ints, a, b)
  pair_sum _ _ _ (right_pair r s k h) = (
    neg_ℤ r,
    sum_turned r s k h.sum,
    right_shape (unsigned_abs s) (unsigned_abs (neg_ℤ k)) (unsigned_abs (neg_ℤ r)) (from_positive k (positive r s k h) ∙ ap pos (sym (abs_neg k))) (from_positive r h.positive ∙ ap pos (sym (abs_neg r))) refl
        (subst (λ t. t < unsigned_abs s) (sym (abs_neg r)) (abs_less r s h.positive h.before)) (subst (λ t. unsigned_abs s < t) (sym (abs_neg k)) (abs_less s k (special_positive r s k h) (second_before r s k h))),
  )
    where
      positive : (r s k : ℤ) → IsSpecial d r s k → pos 0 <ℤ k
      positive r s k h = let a = special_positive r s k h in let b = second_before r s k h in omega (arith, ints, a, b)

      -- s - k = -r
      sum_turned : (r s k : ℤ) → IsSum d r s k → IsSum d s (neg_ℤ k) (neg_ℤ r)
      sum_turned r s k h = subst (λ t. IsSum d t (neg_ℤ k) (neg_ℤ r)) (neg_neg s) (sum_swap d loaded (neg_ℤ k) (neg_ℤ (neg_ℤ s)) (neg_ℤ r) (sum_turn_neg r s k h))
        where
          sum_turn_neg : (r s k : ℤ) → IsSum d r s k → IsSum d (neg_ℤ k) (neg_ℤ (neg_ℤ s)) (neg_ℤ r)
          sum_turn_neg r s k h = sum_neg d loaded k (neg_ℤ s) r (sum_turn d loaded r s k h)
  pair_sum _ _ _ (left_pair r s k h) = (
    neg_ℤ s,
    sum_turned r s k h.sum,
    left_shape (unsigned_abs (neg_ℤ k)) (unsigned_abs r) (unsigned_abs (neg_ℤ s)) (from_positive k (positive r s k h) ∙ ap pos (sym (abs_neg k))) (from_positive r h.positive) refl
        (subst (λ t. unsigned_abs r < t) (sym (abs_neg s)) (abs_less r s h.positive h.before)) (subst (λ t. t < unsigned_abs (neg_ℤ k)) (sym (abs_neg s)) (subst (λ t. unsigned_abs s < t) (sym (abs_neg k)) (abs_less s k (special_positive r s k h) (second_before r s k h)))),
  )
    where
      positive : (r s k : ℤ) → IsSpecial d r s k → pos 0 <ℤ k
      positive r s k h = let a = special_positive r s k h in let b = second_before r s k h in omega (arith, ints, a, b)

      -- -k + r = -s
      sum_turned : (r s k : ℤ) → IsSum d r s k → IsSum d (neg_ℤ k) r (neg_ℤ s)
      sum_turned r s k h = subst (λ t. IsSum d (neg_ℤ k) t (neg_ℤ s)) (neg_neg r) (sum_neg d loaded k (neg_ℤ r) s (sum_turn d loaded s r k (sum_swap d loaded r s k h)))

  -- a pair belongs to one place, up to the two sign rules
  pub one_place_of : (at b : Place) (p q x y : ℤ) → IsPairAt d at p q → IsPairAt d b x y → IsTurned p q x y → b ≡ at
  one_place_of at b p q x y h g t = by (pair_sum at p q h) (pair_sum b x y g) t
    where
      by : ((z : ℤ) × IsSum d p q z × IsShape at (unsigned_abs p) (unsigned_abs q) (unsigned_abs z)) → ((w : ℤ) × IsSum d x y w × IsShape b (unsigned_abs x) (unsigned_abs y) (unsigned_abs w)) → IsTurned p q x y → b ≡ at
      by (z, u, v) (w, m, n) (inl e) =
          let f = one_sum p q w z (subst (λ t. IsSum d p t w) e.1 (subst (λ t. IsSum d t y w) e.0 m)) u in
          same_shape b at (unsigned_abs p) (unsigned_abs q) (unsigned_abs z)
          (subst (λ t. IsShape b (unsigned_abs p) (unsigned_abs q) (unsigned_abs t)) f (subst (λ t. IsShape b (unsigned_abs p) (unsigned_abs t) (unsigned_abs w)) e.1 (subst (λ t. IsShape b (unsigned_abs t) (unsigned_abs y) (unsigned_abs w)) e.0 n))) v
      by (z, u, v) (w, m, n) (inr (inl e)) =
          let f = one_sum p q w z (sum_swap d loaded q p w (subst (λ t. IsSum d q t w) e.1 (subst (λ t. IsSum d t y w) e.0 m))) u in
          absurd (not_swapped_shape at b (unsigned_abs p) (unsigned_abs q) (unsigned_abs z) v
          (subst (λ t. IsShape b (unsigned_abs q) (unsigned_abs p) (unsigned_abs t)) f (subst (λ t. IsShape b (unsigned_abs q) (unsigned_abs t) (unsigned_abs w)) e.1 (subst (λ t. IsShape b (unsigned_abs t) (unsigned_abs y) (unsigned_abs w)) e.0 n))))
      by (z, u, v) (w, m, n) (inr (inr (inl e))) =
          let f = one_sum (neg_ℤ p) (neg_ℤ q) w (neg_ℤ z) (subst (λ t. IsSum d (neg_ℤ p) t w) e.1 (subst (λ t. IsSum d t y w) e.0 m)) (sum_neg d loaded p q z u) in
          same_shape b at (unsigned_abs p) (unsigned_abs q) (unsigned_abs z)
          (subst (λ t. IsShape b (unsigned_abs p) (unsigned_abs q) t) (ap unsigned_abs f ∙ abs_neg z)
          (subst (λ t. IsShape b (unsigned_abs p) t (unsigned_abs w)) (ap unsigned_abs e.1 ∙ abs_neg q) (subst (λ t. IsShape b t (unsigned_abs y) (unsigned_abs w)) (ap unsigned_abs e.0 ∙ abs_neg p) n))) v
      by (z, u, v) (w, m, n) (inr (inr (inr e))) =
          let f = one_sum (neg_ℤ p) (neg_ℤ q) w (neg_ℤ z) (sum_swap d loaded (neg_ℤ q) (neg_ℤ p) w (subst (λ t. IsSum d (neg_ℤ q) t w) e.1 (subst (λ t. IsSum d t y w) e.0 m))) (sum_neg d loaded p q z u) in
          absurd (not_swapped_shape at b (unsigned_abs p) (unsigned_abs q) (unsigned_abs z) v
          (subst (λ t. IsShape b (unsigned_abs q) (unsigned_abs p) t) (ap unsigned_abs f ∙ abs_neg z)
          (subst (λ t. IsShape b (unsigned_abs q) t (unsigned_abs w)) (ap unsigned_abs e.1 ∙ abs_neg p) (subst (λ t. IsShape b t (unsigned_abs y) (unsigned_abs w)) (ap unsigned_abs e.0 ∙ abs_neg q) n))))
