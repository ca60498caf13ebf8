-- A carrier covers each axis: a weight lowers by roots, and a sum of roots lowers to 0.
use Rattle.std.proofs.Common.{◌≡◌, ℕ, zero, suc, ◌+◌, ◌-◌, ◌*◌, ◌<◌, ◌≤◌, ℤ, pos, negsuc, neg_ℤ, ◌+ℤ◌, ◌*ℤ◌, ◌≤ℤ◌, Bool, true, false, List, [], ◌∷◌, ◌++◌, map, length, get_or, replicate, refl, sym, ap, subst, ◌∙◌, arith, ◌⊎◌, inl, inr, ⊎_elim, length-append, unsigned_abs}
use Rattle.std.proofs.Math.IntN.{+ℤ_idl, +ℤ_idr, +ℤ_assoc}
use Rattle.std.proofs.lemmas.Int.{ints}
use Rattle.std.proofs.lemmas.List.{get_or_default}
use Rattle.std.proofs.lemmas.List.FromFn.{length-map-range_with_len}
use Rattle.std.specs.List.{Contains}
use Rattle.std.specs.Ordering.{int_eq}
use lib.Pointwise.{pointwise}
use Rattle.lie_base.proofs.Members.{In, here, there}
use Rattle.lie_datum.specs.Vectors.{Vector, pairing, plus, times, minus, entry, unit}
use Rattle.lie_datum.specs.Numbers.{place, number_at}
use Rattle.lie_datum.specs.declared.root_pair.Root.{Root}
use Rattle.lie_datum.specs.RootDatum.{Base, vector, covector, opposite, IsRoot}
use Rattle.lie_datum.specs.RootList.{RootDatum, IsLoaded, IsNumber, root_of}
use Rattle.lie_datum.proofs.ClosureLemmas.{in_from_contains, contains_from_in, in_right, in_one}
use Rattle.lie_datum.proofs.Entries.{entry-plus, entry-times, entry-unit, length-unit, within_or_past}
use Rattle.lie_datum.proofs.Linear.{pairing-times}
use Rattle.lie_datum.proofs.NumberLemmas.{place_within}
use Rattle.lie_datum.proofs.SignedRoots.{root_is, opposite_number}
use Rattle.lie_datum.proofs.VectorLemmas.{entry-combination}
use Rattle.lie_const.specs.Modules.{Module, dimension}
use Rattle.lie_const.specs.Adjoint.{adjoint_dimension, basis_vector, basis_weight, IsAdjointOf}
use Rattle.lie_const.specs.Signs.{Signs}
use Rattle.lie_orbit.specs.Weights.{coroot_pairing, IsMinuscule}
use Rattle.lie_orbit.specs.Lowering.{IsHalf, IsHighRoot, IsLow, IsFirstHigh, less_root, Lowers, low, step}
use Rattle.lie_orbit.specs.Laws.{root_sum, IsZero}
use Rattle.lie_orbit.specs.Orbits.{start}
use Rattle.lie_orbit.proofs.FallLemmas.{norm, half_falls, low_minuscule}
use Rattle.lie_orbit.proofs.SmallSums.{small_sums}
use Rattle.lie_orbit.proofs.WeightLemmas.{none_more, none_all, high_first}
use Rattle.lie_weight.specs.Carriers.{joined, IsCarrier}
use Rattle.lie_weight.proofs.CarrierOrbits.{covers, lowers_long}
use Rattle.lie_weight.proofs.ListingTests.{zero_test}
use Rattle.lie_weight.proofs.ModuleSums.{direct_sum-weights}
use Rattle.lie_identities.specs.Covers.{less_axis, IsCovered, CarriersCoverAxes}

-- ---- vectors by their entries
-- a pairing depends on the entries alone
same_pairing : (x y z : Vector) → ((k : ℕ) → entry x k ≡ entry y k) → pairing x z ≡ pairing y z
same_pairing [] [] z h = refl
same_pairing [] (b ∷ y) [] h = refl
same_pairing [] (b ∷ y) (c ∷ z) h =
    let rest : pos 0 ≡ pairing y z = same_pairing [] y z (λ k. h (suc k)) in
    let e : pos 0 ≡ b = h zero in
    let p : pos 0 *ℤ c ≡ pos 0 = omega (arith, ints) in
    let q = ap (λ t. t *ℤ c) e in
    omega (arith, ints, rest, p, q)
same_pairing (a ∷ x) [] [] h = refl
same_pairing (a ∷ x) [] (c ∷ z) h =
    let rest : pairing x z ≡ pos 0 = same_pairing x [] z (λ k. h (suc k)) in
    let e : a ≡ pos 0 = h zero in
    let p : pos 0 *ℤ c ≡ pos 0 = omega (arith, ints) in
    let q = ap (λ t. t *ℤ c) e in
    omega (arith, ints, rest, p, q)
same_pairing (a ∷ x) (b ∷ y) [] h = refl
same_pairing (a ∷ x) (b ∷ y) (c ∷ z) h = ap (λ t. t *ℤ c +ℤ pairing x z) (h zero) ∙ ap (λ t. b *ℤ c +ℤ t) (same_pairing x y z (λ k. h (suc k)))

module _ (b : Base) where
  -- the sum of two lists of roots
  entry-sums : (rs ss : List Root) (k : ℕ) → entry (root_sum b (rs ++ ss)) k ≡ entry (root_sum b rs) k +ℤ entry (root_sum b ss) k
  entry-sums [] ss k = sym (+ℤ_idl (entry (root_sum b ss) k))
  entry-sums (r ∷ rs) ss k =
      let u = entry-plus (vector b r) (root_sum b (rs ++ ss)) k in
      let w = entry-plus (vector b r) (root_sum b rs) k in
      let h = entry-sums rs ss k in
      omega (arith, ints, u, w, h)

  entry-opposite : (r : Root) (k : ℕ) → entry (vector b (opposite r)) k ≡ neg_ℤ (entry (vector b r) k)
  entry-opposite r k =
      let col = map (λ v. entry v k) b.roots in
      entry-combination (minus r.coeffs) b.roots k ∙ pairing-times (neg_ℤ (pos 1)) r.coeffs col ∙ ap (λ t. neg_ℤ (pos 1) *ℤ t) (sym (entry-combination r.coeffs b.roots k)) ∙ turned (entry (vector b r) k)
    where
      turned : (z : ℤ) → neg_ℤ (pos 1) *ℤ z ≡ neg_ℤ z
      turned z = omega (arith, ints)

  -- n times -r
  entry-repeated : (r : Root) (n k : ℕ) → entry (root_sum b (replicate n (opposite r))) k ≡ neg_ℤ (pos n) *ℤ entry (vector b r) k
  entry-repeated r zero k = none (entry (vector b r) k)
    where
      none : (z : ℤ) → pos 0 ≡ neg_ℤ (pos 0) *ℤ z
      none z = omega (arith, ints)
  entry-repeated r (suc n) k =
      entry-plus (vector b (opposite r)) (root_sum b (replicate n (opposite r))) k
      ∙ ap (λ t. t +ℤ entry (root_sum b (replicate n (opposite r))) k) (entry-opposite r k)
      ∙ ap (λ t. neg_ℤ (entry (vector b r) k) +ℤ t) (entry-repeated r n k)
      ∙ more n (entry (vector b r) k)
    where
      more : (n : ℕ) (z : ℤ) → neg_ℤ z +ℤ neg_ℤ (pos n) *ℤ z ≡ neg_ℤ (pos (suc n)) *ℤ z
      more zero z = omega (arith, ints)
      more (suc n) z = omega (arith, ints)

-- all members are roots
abbrev AreRoots : Base → List Root → Type 0
AreRoots b rs = (r : Root) → In r rs → IsRoot b r

-- u is x with the sum of these roots
abbrev IsMoved : Base → Vector → List Root → Vector → Type 0
IsMoved b x rs u = (k : ℕ) → entry u k ≡ entry x k +ℤ entry (root_sum b rs) k

roots_joined : (b : Base) (rs ss : List Root) → AreRoots b rs → AreRoots b ss → AreRoots b (rs ++ ss)
roots_joined b rs ss p q r i = ⊎_elim (p r) (q r) (in_one rs ss r i)

repeated_only : (n : ℕ) (r s : Root) → In s (replicate n r) → s ≡ r
repeated_only zero r s p = elim p [ ]
repeated_only (suc n) r s (here e) = e
repeated_only (suc n) r s (there p) = repeated_only n r s p

-- ---- numbers
high_or_not : (z : ℤ) → (pos 2 ≤ℤ z) ⊎ (¬ (pos 2 ≤ℤ z))
high_or_not (pos n) = ⊎_elim (λ l. inr (λ h. absurd (omega (arith, ints, l, h)))) (λ l. inl (omega (arith, ints, l))) (within_or_past n 2)
high_or_not (negsuc n) = inr (λ h. absurd (omega (arith, ints, h)))

half_of : (n : ℕ) → (h : ℕ) × (2 * h ≤ n) × (n ≤ 2 * h + 1)
half_of zero = (0, omega arith, omega arith)
half_of (suc zero) = (0, omega arith, omega arith)
half_of (suc (suc n)) = let h = half_of n in let p = h.1 in let q = h.2 in (suc h.0, omega (arith, p), omega (arith, q))

half_exists : (m : ℤ) → pos 2 ≤ℤ m → (c : ℤ) × IsHalf m c
half_exists (pos n) l = let h = half_of n in let p = h.1 in let q = h.2 in (pos h.0, (omega (arith, ints, p), omega (arith, ints, q)))
half_exists (negsuc n) l = absurd (omega (arith, ints, l))

module _ (d : RootDatum) (loaded : IsLoaded d) where
  -- ---- lowering takes roots away
  half_natural : (m c : ℤ) → pos 2 ≤ℤ m → IsHalf m c → (n : ℕ) × (c ≡ pos n)
  half_natural m (pos n) h e = (n, refl)
  half_natural m (negsuc n) h e = absurd (let p = e.1 in omega (arith, ints, h, p))

  lowers-moved : (x y : Vector) → Lowers d x y → (rs : List Root) × AreRoots d.base rs × IsMoved d.base x rs y
  lowers-moved x _ (low _ h) = ([], (λ r p. elim p [ ]), λ k. sym (+ℤ_idr (entry x k)))
  lowers-moved x y (step _ _ r c h e p) =
      let rest = lowers-moved (less_root d x c r) y p in
      let n = half_natural (coroot_pairing d x r) c h.high e in
      let s = root_of d r in
      let o = opposite_number d r h.number in
      let taken = replicate n.0 (opposite s) in
      let root : IsRoot d.base (opposite s) = subst (IsRoot d.base) o.1 (root_is d loaded (neg_ℤ r) o.0) in (
        taken ++ rest.0,
        roots_joined d.base taken rest.0 (λ t i. subst (IsRoot d.base) (sym (repeated_only n.0 (opposite s) t i)) root) rest.1,
        λ k. rest.2 k ∙ ap (λ t. t +ℤ entry (root_sum d.base rest.0) k) (entry-plus x (times (neg_ℤ c) (vector d.base s)) k ∙ ap (λ t. entry x k +ℤ t) (entry-times (neg_ℤ c) (vector d.base s) k ∙ ap (λ t. neg_ℤ t *ℤ entry (vector d.base s) k) n.1 ∙ sym (entry-repeated d.base s n.0 k)))
            ∙ +ℤ_assoc (entry x k) (entry (root_sum d.base taken) k) (entry (root_sum d.base rest.0) k)
            ∙ ap (λ t. entry x k +ℤ t) (sym (entry-sums d.base taken rest.0 k)),
      )

  lowers-low : (x y : Vector) → Lowers d x y → IsLow d y
  lowers-low x _ (low _ h) = h
  lowers-low x y (step _ _ r c h e p) = lowers-low (less_root d x c r) y p

  -- ---- each weight lowers to one
  first_or_none : (x : Vector) (p : ℕ) → p ≤ 2 * length d.positive → ((r : ℤ) × IsFirstHigh d x r) ⊎ ((r : ℤ) → IsNumber d r → place (length d.positive) r < p → ¬ IsHighRoot d x r)
  first_or_none x zero l = inr (λ r n m. absurd (omega (arith, m)))
  first_or_none x (suc p) l =
      ⊎_elim (λ h. inl h)
      (λ none. ⊎_elim (λ high. inl (number_at (length d.positive) p, high_first d x p (omega (arith, l)) high none))
      (λ not. inr (λ r n m. none_more d (IsHighRoot d x) p (omega (arith, l)) not none r n (omega (arith, m))))
      (high_or_not (coroot_pairing d x (number_at (length d.positive) p))))
      (first_or_none x p (omega (arith, l)))

  lowers_below : (n : ℕ) (x : Vector) → norm d x < n → (y : Vector) × Lowers d x y
  lowers_below zero x l = absurd (omega (arith, l))
  lowers_below (suc n) x l = ⊎_elim
      (λ f. (let c = half_exists (coroot_pairing d x f.0) f.1.high in
      let falls = half_falls d loaded x f.0 c.0 f.1 c.1 in
      let rest = lowers_below n (less_root d x c.0 f.0) (omega (arith, falls, l)) in
      (rest.0, step x rest.0 f.0 c.0 f.1 c.1 rest.1)))
      (λ none. (x, low x (none_all d (IsHighRoot d x) (2 * length d.positive) (omega arith) none)))
      (first_or_none x (2 * length d.positive) (omega arith))

  pub lowers_somewhere : (x : Vector) → (y : Vector) × Lowers d x y
  lowers_somewhere x = lowers_below (suc (norm d x)) x (omega arith)

  -- ---- a sum of roots lowers to 0
  pub sum_lowers : (w : Vector) (rs : List Root) → AreRoots d.base rs → ((k : ℕ) → entry w k ≡ entry (root_sum d.base rs) k) → (z : Vector) × Lowers d w z × IsZero z
  sum_lowers w rs roots same =
      let y = lowers_somewhere w in
      let moved = lowers-moved w y.0 y.1 in
      let all = rs ++ moved.0 in
      let e : (k : ℕ) → entry y.0 k ≡ entry (root_sum d.base all) k = λ k. moved.2 k ∙ ap (λ t. t +ℤ entry (root_sum d.base moved.0) k) (same k) ∙ sym (entry-sums d.base rs moved.0 k) in
      let minuscule = low_minuscule d loaded y.0 (lowers-low w y.0 y.1) in
      let nothing = small_sums d all loaded (λ r c. roots_joined d.base rs moved.0 roots moved.1 r (in_from_contains all r c))
      (λ r n. subst (λ t. unsigned_abs t ≤ 1) (same_pairing y.0 (root_sum d.base all) (covector d.base (root_of d r)) e) (minuscule r n)) in
      (y.0, y.1, λ k. e k ∙ nothing k)

  -- ---- an axis
  entry-less : (c : ℕ) (x : Vector) (j k : ℕ) → entry (less_axis c x j) k ≡ pos c *ℤ entry x k +ℤ neg_ℤ (entry (unit 8 j) k)
  entry-less c x j k =
      entry-plus (times (pos c) x) (minus (unit 8 j)) k ∙ ap (λ t. t +ℤ entry (minus (unit 8 j)) k) (entry-times (pos c) x k)
      ∙ ap (λ t. pos c *ℤ entry x k +ℤ t) (entry-times (neg_ℤ (pos 1)) (unit 8 j) k ∙ turned (entry (unit 8 j) k))
    where
      turned : (z : ℤ) → neg_ℤ (pos 1) *ℤ z ≡ neg_ℤ z
      turned z = omega (arith, ints)

  -- e_j lowers to 0 where there is a root alone
  some_root : (j : ℕ) (y : Vector) → 1 ≤ j → j ≤ 8 → Lowers d (unit 8 j) y → IsZero y → 1 ≤ length d.positive
  some_root zero y f l (low _ h) z = absurd (omega (arith, f))
  some_root (suc j) y f l (low _ h) z = absurd (one_zero (sym (entry-unit 8 j l) ∙ z j))
    where
      one_zero : pos 1 ≡ pos 0 → ⊥
      one_zero e = cc
  some_root j y f l (step _ _ r c h e p) z = let w = place_within d r h.number in let a = w.0 in let b = w.1 in omega (arith, a, b)

  module _ (v : Module) (j : ℕ) (y : Vector) (lowers : Lowers d (unit 8 j) y) where
    -- the place of a weight that e_j lowers to covers the axis
    by_weight : (a : ℕ) → a < dimension v → get_or v.weights a [] ≡ y → IsCovered d v j
    by_weight a inside at =
        let moved = lowers-moved (unit 8 j) y lowers in
        let x = get_or v.weights a [] in
        let end = sum_lowers (less_axis 1 x j) moved.0 moved.1 (λ k. entry-less 1 x j k ∙ ap (λ t. pos 1 *ℤ t +ℤ neg_ℤ (entry (unit 8 j) k)) (ap (λ t. entry t k) at ∙ moved.2 k) ∙ left (entry (unit 8 j) k) (entry (root_sum d.base moved.0) k)) in
        record { times = 1; few = omega arith; place = a; within = inside; lowered = end.0; lowers = end.1; zero = end.2 }
      where
        left : (e s : ℤ) → pos 1 *ℤ (e +ℤ s) +ℤ neg_ℤ e ≡ s
        left e s = omega (arith, ints)

    -- any weight does, where e_j lowers to 0
    by_zero : IsZero y → 1 ≤ dimension v → IsCovered d v j
    by_zero z some =
        let moved = lowers-moved (unit 8 j) y lowers in
        let x = get_or v.weights 0 [] in
        let end = sum_lowers (less_axis 0 x j) moved.0 moved.1 (λ k. entry-less 0 x j k ∙ left (entry x k) (entry (unit 8 j) k) (entry (root_sum d.base moved.0) k) (sym (moved.2 k) ∙ z k)) in
        record { times = 0; few = omega arith; place = 0; within = omega (arith, some); lowered = end.0; lowers = end.1; zero = end.2 }
      where
        left : (x e s : ℤ) → e +ℤ s ≡ pos 0 → pos 0 *ℤ x +ℤ neg_ℤ e ≡ s
        left x e s h = omega (arith, ints, h)

pub cover_axes : CarriersCoverAxes
cover_axes d eta adjoint v j loaded is c first last =
    by (pointwise int_eq y.0 (replicate 8 (pos 0))) refl
  where
    y : (y : Vector) × Lowers d (unit 8 j) y
    y = lowers_somewhere d loaded (unit 8 j)

    all : v.weights ≡ adjoint.weights ++ joined (map (λ w. w.weights) c.modules)
    all = direct_sum-weights d (adjoint ∷ c.modules) v c.sum

    small : j ≤ 8
    small = let h = loaded.axioms.input.dim.1 in omega (arith, last, h)

    size : length adjoint.weights ≡ adjoint_dimension d
    size = ap length is.2.weights ∙ length-map-range_with_len (λ a. basis_weight d (basis_vector d a)) 0 (adjoint_dimension d)

    long : length y.0 ≡ 8
    long = lowers_long d loaded (unit 8 j) y.0 y.1 (length-unit 8 j)

    by : (t : Bool) → t ≡ pointwise int_eq y.0 (replicate 8 (pos 0)) → IsCovered d v j
    by true e =
        let z = (zero_test y.0 long true e).0 refl in
        let root = some_root d loaded j y.0 first small y.1 z in
        let a = ap length all ∙ length-append adjoint.weights (joined (map (λ w. w.weights) c.modules)) in
        let s = size in
        by_zero d loaded v j y.0 y.1 z (omega (arith, a, s, root))
    by false e =
        let nz = λ (z : IsZero y.0). no ((zero_test y.0 long false e).1 z) in
        let p = covers d loaded d.base.dim (map (λ w. w.weights) c.modules) c.orbits j first last y.0 y.1 nz y.0 start in
        let m = contains_from_in v.weights y.0 (subst (In y.0) (sym all) (in_right adjoint.weights (joined (map (λ w. w.weights) c.modules)) y.0 p)) in
        by_weight d loaded v j y.0 y.1 m.0 m.1 (get_or_default v.weights m.0 [] y.0 m.1 ∙ m.2)
      where
        no : false ≡ true → ⊥
        no e = cc
