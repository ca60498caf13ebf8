-- The orbit of a weight is one list, and has one size.
use Rattle.std.proofs.Common.{◌≡◌, ℕ, zero, suc, ◌<◌, ◌≤◌, List, [], ◌∷◌, length, refl, sym, ap, subst, ◌∙◌, arith, ⊎_elim}
use Rattle.std.specs.List.{AllByRecursion, Contains}
use Rattle.std.specs.List.Sorted.{IsStrictlySortedBy}
use Rattle.std.specs.declared.cmp.Ordering.TheVariants.{Less, Equal}
use Rattle.std.proofs.lemmas.Cmp.{tied_itself}
use Rattle.lie_base.proofs.Members.{In, here, there, HasNoRepeats}
use Rattle.lie_datum.specs.Vectors.{Vector}
use Rattle.lie_datum.specs.RootList.{RootDatum}
use Rattle.lie_datum.proofs.Entries.{within_or_past}
use Rattle.lie_datum.proofs.ClosureLemmas.{in_from_contains, contains_from_in, in_at, pigeonhole}
use Rattle.lie_orbit.specs.Orbits.{weight_cmp, IsReached, IsOrbit, IsOrbitSize, AreDistinct}
use Rattle.lie_orbit.specs.Laws.{OrbitsAreOneList, OrbitsHaveOneSize}
use Rattle.lie_orbit.proofs.OrderLemmas.{weight_total}

-- ---- one list
module _ (d : RootDatum) where
  same_order : (x : Vector) → weight_cmp d x x ≡ Equal
  same_order x = tied_itself (weight_total d) x

  same_less : (x y : Vector) → weight_cmp d x y ≡ Less → weight_cmp d y x ≡ Less → ⊥
  same_less x y e f = let g = (weight_total d).trans x y x e f in let h = same_order x in cc

  -- the head of a list in order comes before the others
  less_in : (z : Vector) (zs : List Vector) → AllByRecursion (λ w. weight_cmp d z w ≡ Less) zs → (r : Vector) → In r zs → weight_cmp d z r ≡ Less
  less_in z [] a r p = elim p [ ]
  less_in z (w ∷ zs) a r (here e) = ap (weight_cmp d z) e ∙ a.0
  less_in z (w ∷ zs) a r (there p) = less_in z zs a.1 r p

  above : (z : Vector) (zs : List Vector) → AllByRecursion (λ w. weight_cmp d z w ≡ Less) zs → (r : Vector) → In r zs → r ≡ z → ⊥
  above z zs a r p e = let l = less_in z zs a r p in let q = same_order z in let k = ap (weight_cmp d z) e in cc

  -- two lists in order with the same members are one
  same_list : (xs ys : List Vector) → IsStrictlySortedBy (weight_cmp d) xs → IsStrictlySortedBy (weight_cmp d) ys → ((x : Vector) → In x xs → In x ys) → ((x : Vector) → In x ys → In x xs) → xs ≡ ys
  unfolding IsStrictlySortedBy
  same_list [] [] s t h g = refl
  same_list [] (y ∷ ys) s t h g = elim (g y (here refl)) [ ]
  same_list (x ∷ xs) [] s t h g = elim (h x (here refl)) [ ]
  same_list (x ∷ xs) (y ∷ ys) s t h g =
      let e = heads (h x (here refl)) (g y (here refl)) in
      let f = same_list xs ys s.1 t.1 (λ r p. tail r ys (h r (there p)) (λ q. above x xs s.0 r p (q ∙ sym e))) (λ r p. tail r xs (g r (there p)) (λ q. above y ys t.0 r p (q ∙ e))) in
      cc
    where
      tail : (r : Vector) {w : Vector} (zs : List Vector) → In r (w ∷ zs) → (r ≡ w → ⊥) → In r zs
      tail r zs (here e) n = absurd (n e)
      tail r zs (there p) n = p

      heads : In x (y ∷ ys) → In y (x ∷ xs) → x ≡ y
      heads (here e) q = e
      heads (there p) (here e) = sym e
      heads (there p) (there q) = absurd (same_less x y (less_in x xs s.0 y q) (less_in y ys t.0 x p))

  -- a list in order has no member twice
  sorted_once : (ws : List Vector) → IsStrictlySortedBy (weight_cmp d) ws → HasNoRepeats ws
  unfolding IsStrictlySortedBy
  sorted_once [] s = tt
  sorted_once (x ∷ xs) s = ((λ p. above x xs s.0 x p refl), sorted_once xs s.1)

  pub one_orbit : (w : Vector) (xs ys : List Vector) → IsOrbit d w xs → IsOrbit d w ys → xs ≡ ys
  one_orbit w xs ys p q = same_list xs ys p.sorted q.sorted
      (λ x m. in_from_contains ys x ((q.members x).1 ((p.members x).0 (contains_from_in xs x m)))) (λ x m. in_from_contains xs x ((p.members x).1 ((q.members x).0 (contains_from_in ys x m))))

pub one_list : OrbitsAreOneList
one_list d w xs ys p q = one_orbit d w xs ys p q

-- ---- one size
-- numbers of which neither is less are equal
pub order : (x y : ℕ) → ¬ (x < y) → ¬ (y < x) → x ≡ y
order x y m n = ⊎_elim (λ h. absurd (m h)) (λ h. ⊎_elim (λ k. absurd (n k)) (λ k. omega (arith, h, k)) (within_or_past y x)) (within_or_past x y)

simple_list : (ws : List Vector) → AreDistinct ws → HasNoRepeats ws
simple_list [] h = tt
simple_list (x ∷ ws) h =
    ((λ p. let c = contains_from_in ws x p in h zero (suc c.0) x (omega arith) (omega (arith, c.1)) (sym c.2)), simple_list ws (λ j k z l m. h (suc j) (suc k) z (omega (arith, l)) (omega (arith, m))))

-- a list with all members has as many as any
pub most : (d : RootDatum) (w : Vector) (n : ℕ) (ws : List Vector) → IsOrbitSize d w n → ((x : Vector) → IsReached d w x → Contains ws x) → n ≤ length ws
most d w n ws s whole =
    let p = pigeonhole s.ws ws (simple_list s.ws s.distinct) (λ x m. in_from_contains ws x (whole x (s.reached x (contains_from_in s.ws x m)))) in
    let c = s.count in
    omega (arith, p, c)

no_more : (d : RootDatum) (w : Vector) (m n : ℕ) → IsOrbitSize d w m → IsOrbitSize d w n → ¬ (m < n)
no_more d w m n a b l =
    let f = b.few in
    let p = most d w n a.ws b (a.whole (omega (arith, l, f))) in
    let c = a.count in
    absurd (omega (arith, p, c, l))

pub one_size : (d : RootDatum) (w : Vector) (m n : ℕ) → IsOrbitSize d w m → IsOrbitSize d w n → m ≡ n
one_size d w m n a b = order m n (no_more d w m n a b) (no_more d w n m b a)

-- the members of a list without repeats differ
distinct_list : (ws : List Vector) → HasNoRepeats ws → AreDistinct ws
distinct_list [] h j k z l m e = absurd (omega (arith, m))
distinct_list (x ∷ ws) h zero zero z l m e = absurd (omega (arith, l))
distinct_list (x ∷ ws) h (suc j) zero z l m e = absurd (omega (arith, l))
distinct_list (x ∷ ws) h zero (suc k) z l m e = h.0 (subst (λ t. In t ws) (sym e) (in_at ws k z (omega (arith, m))))
distinct_list (x ∷ ws) h (suc j) (suc k) z l m e = distinct_list ws h.1 j k z (omega (arith, l)) (omega (arith, m)) e

-- an orbit that is listed has the size of the list
pub listed_size : (d : RootDatum) (w : Vector) (ws : List Vector) → IsOrbit d w ws → length ws ≤ 1025 → IsOrbitSize d w (length ws)
listed_size d w ws o few = record {
  ws = ws;
  count = refl;
  few = few;
  distinct = distinct_list ws (sorted_once d ws o.sorted);
  reached = λ x. (o.members x).0;
  whole = λ l x. (o.members x).1;
}

pub sizes_agree : OrbitsHaveOneSize
sizes_agree d w ws n o few s = one_size d w n (length ws) s (listed_size d w ws o (omega (arith, few)))
