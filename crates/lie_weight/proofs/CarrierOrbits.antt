-- The orbits of the carrier: they are one list, have no member twice, and have each weight that a lowered unit vector reaches.
use Rattle.std.proofs.Common.{◌≡◌, ℕ, zero, suc, ◌+◌, ◌-◌, ◌<◌, ◌≤◌, ℤ, pos, neg_ℤ, ◌+ℤ◌, ◌*ℤ◌, List, [], ◌∷◌, ◌++◌, length, refl, sym, ap, subst, ◌∙◌, arith, ◌⊎◌, inl, inr, ⊎_elim, append_assoc, append-nil, length-append}
use Rattle.std.proofs.lemmas.Int.{ints}
use Rattle.std.specs.List.{AllByRecursion, Any, Contains}
use Rattle.std.specs.List.Sorted.{IsStrictlySortedBy}
use Rattle.std.specs.declared.cmp.Ordering.TheVariants.{Less}
use Rattle.std.proofs.lemmas.Cmp.{tied_itself}
use Rattle.lie_base.proofs.RingSolver.{ring, var, neg, ◌⊕◌, ◌⊗◌}
use Rattle.lie_base.proofs.Members.{In, here, there, HasNoRepeats}
use Rattle.lie_datum.specs.Vectors.{Vector, pairing, times, entry, unit}
use Rattle.lie_datum.specs.declared.root_pair.Root.{Root}
use Rattle.lie_datum.specs.RootDatum.{Base, rank, simple_root, simple_coroot, vector, IsSimpleIndex, IsRoot, is_simple, is_reflected}
use Rattle.lie_datum.specs.RootList.{RootDatum, IsLoaded, IsNumber, root_of}
use Rattle.lie_datum.proofs.ClosureLemmas.{in_from_contains, contains_from_in, in_left, in_right, in_one, in_at, pigeonhole}
use Rattle.lie_datum.proofs.Entries.{entry-plus, entry-times, length-plus, length-times, length-unit, same_entries}
use Rattle.lie_datum.proofs.Linear.{pairing-plus, pairing-times}
use Rattle.lie_datum.proofs.SignedRoots.{root_is}
use Rattle.lie_datum.proofs.VectorLemmas.{length-combination}
use Rattle.lie_const.specs.Adjoint.{adjoint_dimension}
use Rattle.lie_const.proofs.SumLemmas.{long}
use Rattle.lie_orbit.specs.Laws.{IsZero}
use Rattle.lie_orbit.specs.Lowering.{less_root, Lowers, low, step}
use Rattle.lie_orbit.specs.Orbits.{IsReached, start, next, reflected_weight, weight_cmp, IsOrbit, AreDistinct}
use Rattle.lie_orbit.proofs.LowersOnce.{lowers_once}
use Rattle.lie_orbit.proofs.OneOrbit.{one_orbit}
use Rattle.lie_orbit.proofs.OrderLemmas.{weight_total}
use Rattle.lie_weight.specs.Carriers.{joined, IsPassedOver, AreOrbitsOf, no_axis, passed_over, taken, IsCarrierWeight, IsWideCarrier}

-- ---- reached weights
pub reached-trans : (d : RootDatum) (w x y : Vector) → IsReached d w x → IsReached d x y → IsReached d w y
reached-trans d w x _ p start = p
reached-trans d w x _ p (next i y s q) = next i y s (reached-trans d w x y p q)

some_rank : (b : Base) (r : Root) → IsRoot b r → 1 ≤ rank b
some_rank b _ (is_simple i s) = let p = s.0 in let q = s.1 in omega (arith, p, q)
some_rank b _ (is_reflected i r s p) = some_rank b r p

module _ (d : RootDatum) (loaded : IsLoaded d) where
  simple_long : (i : ℕ) → IsSimpleIndex d.base i → length (simple_root d.base i) ≡ 8
  simple_long zero s = absurd (let p = s.0 in omega (arith, p))
  simple_long (suc i) s = let e : suc i - 1 ≡ i = omega arith in rw e ((loaded.axioms.input.roots i [] (let p = s.1 in omega (arith, p))).0.0)

  reflected_long : (i : ℕ) (x : Vector) → IsSimpleIndex d.base i → length x ≡ 8 → length (reflected_weight d i x) ≡ 8
  reflected_long i x s l = length-plus x (times (neg_ℤ (pairing x (simple_coroot d.base i))) (simple_root d.base i)) 8 l (length-times (neg_ℤ (pairing x (simple_coroot d.base i))) (simple_root d.base i) ∙ simple_long i s)

  pub reached_long : (w x : Vector) → length w ≡ 8 → IsReached d w x → length x ≡ 8
  reached_long w _ l start = l
  reached_long w _ l (next i x s p) = reflected_long i x s (reached_long w x l p)

  -- a reflection is its own inverse
  reflected-twice : (i : ℕ) (x : Vector) → IsSimpleIndex d.base i → length x ≡ 8 → reflected_weight d i (reflected_weight d i x) ≡ x
  reflected-twice i x s l =
      let a = simple_root d.base i in
      let c = simple_coroot d.base i in
      let p = pairing x c in
      let y = reflected_weight d i x in
      let q = pairing-plus x (times (neg_ℤ p) a) c ∙ ap (λ t. p +ℤ t) (pairing-times (neg_ℤ p) a c) ∙ ap (λ t. p +ℤ neg_ℤ p *ℤ t) (loaded.axioms.twos i s) ∙ turned p in
      same_entries (reflected_weight d i y) x (reflected_long i y s (reflected_long i x s l) ∙ sym l) (λ k.
      entry-plus y (times (neg_ℤ (pairing y c)) a) k ∙ ap (λ t. entry y k +ℤ t) (entry-times (neg_ℤ (pairing y c)) a k)
      ∙ ap (λ t. t +ℤ neg_ℤ (pairing y c) *ℤ entry a k) (entry-plus x (times (neg_ℤ p) a) k ∙ ap (λ t. entry x k +ℤ t) (entry-times (neg_ℤ p) a k))
      ∙ ap (λ t. entry x k +ℤ neg_ℤ p *ℤ entry a k +ℤ neg_ℤ t *ℤ entry a k) q
      ∙ back (entry x k) p (entry a k))
    where
      turned : (p : ℤ) → p +ℤ neg_ℤ p *ℤ pos 2 ≡ neg_ℤ p
      turned p = omega (arith, ints)

      back : (e p a : ℤ) → e +ℤ neg_ℤ p *ℤ a +ℤ neg_ℤ (neg_ℤ p) *ℤ a ≡ e
      back e p a = ring (e ∷ (p ∷ (a ∷ []))) (var 0 ⊕ neg (var 1) ⊗ var 2 ⊕ neg (neg (var 1)) ⊗ var 2) (var 0) refl

  pub reached-sym : (w x : Vector) → length w ≡ 8 → IsReached d w x → IsReached d x w
  reached-sym w _ l start = start
  reached-sym w _ l (next i x s p) =
      let y = reflected_weight d i x in
      reached-trans d y x w (subst (IsReached d y) (reflected-twice i x s (reached_long w x l p)) (next i y s start)) (reached-sym w x l p)

  root_long : (r : ℤ) → IsNumber d r → length (vector d.base (root_of d r)) ≡ 8
  root_long r n = length-combination (root_of d r).coeffs d.base.roots (let l = long d loaded r n in omega (arith, l)) (some_rank d.base (root_of d r) (root_is d loaded r n)) (λ k z l. (loaded.axioms.input.roots k z l).0.0)

  pub lowers_long : (x y : Vector) → Lowers d x y → length x ≡ 8 → length y ≡ 8
  lowers_long x _ (low _ h) l = l
  lowers_long x y (step _ _ r c h e p) l =
      let a = vector d.base (root_of d r) in
      lowers_long (less_root d x c r) y p (length-plus x (times (neg_ℤ c) a) 8 l (length-times (neg_ℤ c) a ∙ root_long r h.number))

-- ---- joined lists
pub in_joined : (os : List (List Vector)) (o : List Vector) (x : Vector) → In o os → In x o → In x (joined os)
in_joined [] o x p q = elim p [ ]
in_joined (o' ∷ os) o x (here e) q = in_left o' (joined os) x (subst (In x) e q)
in_joined (o' ∷ os) o x (there p) q = in_right o' (joined os) x (in_joined os o x p q)

pub from_joined : (os : List (List Vector)) (x : Vector) → In x (joined os) → (o : List Vector) × In o os × In x o
from_joined [] x p = elim p [ ]
from_joined (o ∷ os) x p = ⊎_elim (λ q. (o, here refl, q)) (λ q. let h = from_joined os x q in (h.0, there h.1, h.2)) (in_one o (joined os) x p)

pub joined-last : (os : List (List Vector)) (o : List Vector) → joined (os ++ o ∷ []) ≡ joined os ++ o
joined-last [] o = append-nil o
joined-last (p ∷ os) o = ap (λ t. p ++ t) (joined-last os o) ∙ sym (append_assoc p (joined os) o)

-- a list is among those one longer, or the last
pub split_last : (os : List (List Vector)) (o p : List Vector) → In p (os ++ o ∷ []) → In p os ⊎ (p ≡ o)
split_last os o p h = ⊎_elim (λ a. inl a) (λ a. inr (only a)) (in_one os (o ∷ []) p h)
  where
    only : In p (o ∷ []) → p ≡ o
    only (here e) = e
    only (there q) = elim q [ ]

-- a weight in one of the lists
pub in_some : (os : List (List Vector)) (y : Vector) → Any (λ o. Contains o y) os → (o : List Vector) × In o os × In y o
in_some os y a = (a.1, subst (λ o. In o os) a.3 (in_at os a.0 a.1 a.2), in_from_contains a.1 y a.4)

pub some_in : (os : List (List Vector)) (o : List Vector) (y : Vector) → In o os → In y o → Any (λ p. Contains p y) os
some_in os o y p q = let c = contains_from_in os o p in (c.0, o, c.1, c.2, contains_from_in o y q)

-- ---- lists without repeats
pub no_repeats-append : (xs ys : List Vector) → HasNoRepeats xs → HasNoRepeats ys → ((x : Vector) → In x xs → In x ys → ⊥) → HasNoRepeats (xs ++ ys)
no_repeats-append [] ys s t h = t
no_repeats-append (x ∷ xs) ys s t h =
    ((λ p. ⊎_elim (λ q. s.0 q) (λ q. h x (here refl) q) (in_one xs ys x p)), no_repeats-append xs ys s.1 t (λ z p q. h z (there p) q))

pub no_repeats : (ws : List Vector) → AreDistinct ws → HasNoRepeats ws
no_repeats [] h = tt
no_repeats (x ∷ ws) h =
    ((λ p. let c = contains_from_in ws x p in h zero (suc c.0) x (omega arith) (omega (arith, c.1)) (sym c.2)), no_repeats ws (λ j k z l m. h (suc j) (suc k) z (omega (arith, l)) (omega (arith, m))))

distinct : (ws : List Vector) → HasNoRepeats ws → AreDistinct ws
distinct [] h j k z l m e = absurd (omega (arith, m))
distinct (x ∷ ws) h zero zero z l m e = absurd (omega (arith, l))
distinct (x ∷ ws) h (suc j) zero z l m e = absurd (omega (arith, l))
distinct (x ∷ ws) h zero (suc k) z l m e = h.0 (subst (λ t. In t ws) (sym e) (in_at ws k z (omega (arith, m))))
distinct (x ∷ ws) h (suc j) (suc k) z l m e = distinct ws h.1 j k z (omega (arith, l)) (omega (arith, m)) e

-- an orbit has no member twice
module _ (d : RootDatum) where
  -- the head of a list in order comes before the others
  less_in : (z : Vector) (zs : List Vector) → AllByRecursion (λ w. weight_cmp d z w ≡ Less) zs → (r : Vector) → In r zs → weight_cmp d z r ≡ Less
  less_in z [] a r p = elim p [ ]
  less_in z (w ∷ zs) a r (here e) = ap (weight_cmp d z) e ∙ a.0
  less_in z (w ∷ zs) a r (there p) = less_in z zs a.1 r p

  above : (z : Vector) (zs : List Vector) → AllByRecursion (λ w. weight_cmp d z w ≡ Less) zs → In z zs → ⊥
  above z zs a p = let l = less_in z zs a z p in let q = tied_itself (weight_total d) z in cc

  sorted_once : (ws : List Vector) → IsStrictlySortedBy (weight_cmp d) ws → HasNoRepeats ws
  unfolding IsStrictlySortedBy
  sorted_once [] s = tt
  sorted_once (x ∷ xs) s = ((λ p. above x xs s.0 p), sorted_once xs s.1)

  pub orbit_distinct : (y : Vector) (o : List Vector) → IsOrbit d y o → AreDistinct o
  orbit_distinct y o i = distinct o (sorted_once o i.sorted)

-- ---- the orbits for the first axes
module _ (d : RootDatum) where
  -- there is one list of them
  pub one_list : (n : ℕ) (os ps : List (List Vector)) → AreOrbitsOf d n os → AreOrbitsOf d n ps → os ≡ ps
  one_list _ _ _ no_axis no_axis = refl
  one_list _ _ _ (passed_over n os y a l p) (passed_over _ ps z b k q) = one_list n os ps a b
  one_list _ _ _ (passed_over n os y a l p) (taken _ ps z o b k q i) =
      absurd (q (subst (λ t. IsPassedOver t z) (one_list n os ps a b) (subst (IsPassedOver os) (lowers_once d (unit 8 (suc n)) y z l k) p)))
  one_list _ _ _ (taken n os y o a l p i) (passed_over _ ps z b k q) =
      absurd (p (subst (λ t. IsPassedOver t y) (sym (one_list n os ps a b)) (subst (IsPassedOver ps) (sym (lowers_once d (unit 8 (suc n)) y z l k)) q)))
  one_list _ _ _ (taken n os y o a l p i) (taken _ ps z o' b k q j) =
      let e = one_list n os ps a b in
      let f = one_orbit d z o o' (subst (λ t. IsOrbit d t o) (lowers_once d (unit 8 (suc n)) y z l k) i) j in
      ap (λ t. t ++ o ∷ []) e ∙ ap (λ t. ps ++ t ∷ []) f

  -- their members are weights of the carrier
  pub carrier_weights : (n : ℕ) (os : List (List Vector)) → AreOrbitsOf d n os → n ≤ d.base.dim → (x : Vector) → In x (joined os) → IsCarrierWeight d x
  carrier_weights _ _ no_axis le x p = elim p [ ]
  carrier_weights _ _ (passed_over n os y a l q) le x p = carrier_weights n os a (omega (arith, le)) x p
  carrier_weights _ _ (taken n os y o a l q i) le x p =
      ⊎_elim (λ h. carrier_weights n os a (omega (arith, le)) x h)
      (λ h. record { axis = suc n; first = omega arith; last = le; lowered = y; lowers = l; nonzero = λ z. q (inl z); reached = (i.members x).0 (contains_from_in o x h) })
      (in_one (joined os) o x (subst (In x) (joined-last os o) p))

module _ (d : RootDatum) (loaded : IsLoaded d) where
  unit_lowers : (n : ℕ) (y : Vector) → Lowers d (unit 8 n) y → length y ≡ 8
  unit_lowers n y l = lowers_long d loaded (unit 8 n) y l (length-unit 8 n)

  -- each is the orbit of a weight
  pub orbit_of : (n : ℕ) (os : List (List Vector)) → AreOrbitsOf d n os → (o : List Vector) → In o os → (y : Vector) × (length y ≡ 8) × IsOrbit d y o
  orbit_of _ _ no_axis o p = elim p [ ]
  orbit_of _ _ (passed_over n os y a l q) o p = orbit_of n os a o p
  orbit_of _ _ (taken n os y o' a l q i) o p = ⊎_elim (λ h. orbit_of n os a o h) (λ e. (y, unit_lowers (suc n) y l, subst (IsOrbit d y) (sym e) i)) (split_last os o' o p)

  index_more : (j n : ℕ) → j ≤ suc n → (j ≤ n) ⊎ (j ≡ suc n)
  index_more zero n l = inl (omega arith)
  index_more (suc zero) zero l = inr refl
  index_more (suc (suc j)) zero l = absurd (omega (arith, l))
  index_more (suc j) (suc n) l = ⊎_elim (λ h. inl (omega (arith, h))) (λ h. inr (ap suc h)) (index_more j n (omega (arith, l)))

  -- a weight that is passed over is 0, or its orbit is among them
  old_orbit : (n : ℕ) (os : List (List Vector)) → AreOrbitsOf d n os → (y : Vector) → IsPassedOver os y → ¬ IsZero y → (x : Vector) → IsReached d y x → In x (joined os)
  old_orbit n os a y p nz x r = ⊎_elim (λ z. absurd (nz z)) (λ h.
      (let s = in_some os y h in
      let w = orbit_of n os a s.0 s.1 in
      let back = (w.2.members y).0 (contains_from_in s.0 y s.2) in
      in_joined os s.0 x s.1 (in_from_contains s.0 x ((w.2.members x).1 (reached-trans d w.0 y x back r))))) p

  -- they have each weight that a lowered unit vector reaches
  pub covers : (n : ℕ) (os : List (List Vector)) → AreOrbitsOf d n os → (j : ℕ) → 1 ≤ j → j ≤ n → (y : Vector) → Lowers d (unit 8 j) y → ¬ IsZero y → (x : Vector) → IsReached d y x → In x (joined os)
  covers _ _ no_axis j f l y k nz x r = absurd (omega (arith, f, l))
  covers _ _ (passed_over n os y' a k' p) j f l y k nz x r =
      ⊎_elim (λ m. covers n os a j f m y k nz x r)
      (λ e. old_orbit n os a y (subst (IsPassedOver os) (lowers_once d (unit 8 (suc n)) y' y k' (subst (λ t. Lowers d (unit 8 t) y) e k)) p) nz x r) (index_more j n l)
  covers _ _ (taken n os y' o a k' p i) j f l y k nz x r =
      subst (In x) (sym (joined-last os o)) (⊎_elim (λ m. in_left (joined os) o x (covers n os a j f m y k nz x r))
      (λ e. in_right (joined os) o x (in_from_contains o x ((i.members x).1 (subst (λ t. IsReached d t x) (lowers_once d (unit 8 (suc n)) y y' (subst (λ t. Lowers d (unit 8 t) y) e k) k') r)))) (index_more j n l))

  -- a new orbit has no member among them
  apart : (n : ℕ) (os : List (List Vector)) → AreOrbitsOf d n os → (y : Vector) → length y ≡ 8 → ¬ IsPassedOver os y → (x : Vector) → In x (joined os) → IsReached d y x → ⊥
  apart n os a y l new x p r =
      let h = from_joined os x p in
      let w = orbit_of n os a h.0 h.1 in
      let there' = (w.2.members x).0 (contains_from_in h.0 x h.2) in
      new (inr (some_in os h.0 y h.1 (in_from_contains h.0 y ((w.2.members y).1 (reached-trans d w.0 x y there' (reached-sym d loaded y x l r))))))

  -- no weight is in two of them
  pub once : (n : ℕ) (os : List (List Vector)) → AreOrbitsOf d n os → HasNoRepeats (joined os)
  once _ _ no_axis = tt
  once _ _ (passed_over n os y a l q) = once n os a
  once _ _ (taken n os y o a l q i) =
      subst HasNoRepeats (sym (joined-last os o)) (no_repeats-append (joined os) o (once n os a) (sorted_once d o i.sorted)
      (λ x p r. apart n os a y (unit_lowers (suc n) y l) q x p ((i.members x).0 (contains_from_in o x r))))

  -- with different weights of a new orbit they are too many
  pub wide : (n : ℕ) (os : List (List Vector)) → AreOrbitsOf d n os → suc n ≤ d.base.dim → (y : Vector) → Lowers d (unit 8 (suc n)) y → ¬ IsPassedOver os y →
      (zs : List Vector) → AreDistinct zs → ((x : Vector) → Contains zs x → IsReached d y x) → 1024 < adjoint_dimension d + length (joined os) + length zs → IsWideCarrier d
  wide n os a le y l new zs differ reached many =
      let e = length-append (joined os) zs in
      record {
        ws = joined os ++ zs;
        distinct = distinct (joined os ++ zs) (no_repeats-append (joined os) zs (once n os a) (no_repeats zs differ) (λ x p q. apart n os a y (unit_lowers (suc n) y l) new x p (reached x (contains_from_in zs x q))));
        weights = λ x c. ⊎_elim (λ p. carrier_weights d n os a (omega (arith, le)) x p)
            (λ p. record { axis = suc n; first = omega arith; last = le; lowered = y; lowers = l; nonzero = λ z. new (inl z); reached = reached x (contains_from_in zs x p) })
            (in_one (joined os) zs x (in_from_contains (joined os ++ zs) x c));
        many = omega (arith, many, e);
      }

  -- orbits that are not too many are not too wide
  pub not_wide : (os : List (List Vector)) → AreOrbitsOf d d.base.dim os → adjoint_dimension d + length (joined os) ≤ 1024 → IsWideCarrier d → ⊥
  not_wide os a few w =
      let p = pigeonhole w.ws (joined os) (no_repeats w.ws w.distinct) (λ x m. (let h = w.weights x (contains_from_in w.ws x m) in covers d.base.dim os a h.axis h.first h.last h.lowered h.lowers h.nonzero x h.reached)) in
      let m = w.many in
      absurd (omega (arith, p, m, few))
