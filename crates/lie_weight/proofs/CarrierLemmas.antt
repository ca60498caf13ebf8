-- How the carrier is made: its orbits, one after the other, and their modules.
use Rattle.std.proofs.Common.{◌≡◌, ℕ, zero, suc, ◌+◌, ◌-◌, ◌<◌, ◌≤◌, ℤ, List, [], ◌∷◌, ◌++◌, map, length, get_or, refl, sym, ap, subst, ◌∙◌, arith, ◌⊎◌, inl, inr, ⊎_elim, length-append, append_assoc, take, unsigned_abs, Ok, Err, Option, None, Some}
use Rattle.std.specs.Prelude.{IfSome}
use Rattle.std.proofs.lemmas.Bool.{cases_lt}
use Rattle.std.proofs.lemmas.List.{map-append, get_or_default, take_more}
use Rattle.std.proofs.lemmas.List.Elements.{All-append}
use Rattle.std.proofs.Math.ListN.{length-map}
use Rattle.std.specs.List.{All}
use Rattle.std.proofs.lemmas.List.FromFn.{length-map-range_with_len}
use Rattle.lie_base.proofs.Members.{In, here, there}
use Rattle.lie_datum.specs.Vectors.{Vector, unit}
use Rattle.lie_datum.specs.Numbers.{place}
use Rattle.lie_datum.specs.RootDatum.{IsWithin}
use Rattle.lie_datum.specs.RootList.{RootDatum, IsLoaded, IsNumber}
use Rattle.lie_datum.proofs.ClosureLemmas.{in_from_contains, contains_from_in, in_left, in_right, in_at, in_last}
use Rattle.lie_const.specs.Modules.{Module, IsModule}
use Rattle.lie_const.specs.Adjoint.{adjoint_dimension, basis_vector, basis_weight, IsAdjointOf}
use Rattle.lie_const.specs.Signs.{Signs}
use Rattle.lie_orbit.specs.Lowering.{Lowers}
use Rattle.lie_orbit.specs.Orbits.{start, IsOrbit, IsOrbitSize, IsOrbitFault}
use Rattle.lie_orbit.specs.declared.faults.OrbitFault.{OrbitFault}
use Rattle.lie_orbit.specs.declared.faults.OrbitFault.TheVariants as orbit
use Rattle.lie_weight.specs.declared.faults.ModuleFault.{ModuleFault}
use Rattle.lie_weight.specs.declared.faults.ModuleFault.TheVariants.{NoMemory, NotMinuscule, Table, Wide, Heavy, Huge}
use Rattle.lie_weight.specs.Conjugation.{Precedes}
use Rattle.lie_weight.specs.OrbitFaults.{IsHeavyWeight, IsHeavyAt, IsFirstHugeAlong, module_fault}
use Rattle.lie_weight.specs.Along.{AreSteppable, IsMade, IsMadeAlong, IsFaultAlong, huge_place}
use Rattle.lie_weight.specs.Sums.{IsDirectSum}
use Rattle.lie_weight.specs.Carriers.{joined, IsPassedOver, AreOrbitsOf, no_axis, passed_over, taken, IsWideCarrier, AreCarrierWeights, IsHeavyCarrier, IsLightCarrier, IsHugeAt, IsHugeCarrier, LoadsCarrier}
use Rattle.lie_weight.specs.CarrierParts.{dimensions, IsOldAxis, IsListing, IsListingFault, AreMade, IsFirstHugeOf, IsMadeOf, IsFirstOf, IsMakingFault}
use Rattle.lie_weight.proofs.AlongLemmas.{trichotomy, not_huge, not_before, one_huge}
use Rattle.lie_weight.proofs.CarrierOrbits.{in_joined, joined-last, split_last, orbit_of, orbit_distinct, wide, one_list}
use Rattle.lie_weight.proofs.ModuleSums.{direct_sum-weights}

-- ---- one axis more
pub listing_old : (d : RootDatum) (n : ℕ) (os : List (List Vector)) → IsListing d n os → IsOldAxis d (suc n) os → IsListing d (suc n) os
listing_old d n os h old = record { orbits = passed_over n os old.0 h.orbits old.1 old.2; few = h.few }

pub count-last : (os : List (List Vector)) (o : List Vector) → length (joined (os ++ o ∷ [])) ≡ length (joined os) + length o
count-last os o = ap length (joined-last os o) ∙ length-append (joined os) o

module _ (d : RootDatum) (n : ℕ) (os : List (List Vector)) (h : IsListing d n os) (y : Vector) (l : Lowers d (unit 8 (suc n)) y) (new : ¬ IsPassedOver os y) where
  pub listing_new : (o : List Vector) → IsOrbit d y o → adjoint_dimension d + length (joined os) + length o ≤ 1024 → IsListing d (suc n) (os ++ o ∷ [])
  listing_new o i few = record { orbits = taken n os y o h.orbits l new i; few = let e = count-last os o in omega (arith, few, e) }

  module _ (loaded : IsLoaded d) (le : suc n ≤ d.base.dim) where
    pub wide_listed : (o : List Vector) → IsOrbit d y o → 1024 < adjoint_dimension d + length (joined os) + length o → IsWideCarrier d
    wide_listed o i many = wide d loaded n os h.orbits le y l new o (orbit_distinct d y o i) (λ x c. (i.members x).0 c) many

    pub wide_unlisted : IsOrbitSize d y 1025 → IsWideCarrier d
    wide_unlisted s = wide d loaded n os h.orbits le y l new s.ws s.distinct s.reached (let c = s.count in omega (arith, c))

-- the orbits for no axis
pub listing_start : (d : RootDatum) (os : List (List Vector)) → os ≡ [] → adjoint_dimension d ≤ 1024 → IsListing d 0 os
listing_start d os e few = record { orbits = subst (AreOrbitsOf d 0) (sym e) no_axis; few = let l = ap (λ t. length (joined t)) e in omega (arith, few, l) }

-- why an orbit is not listed
pub listing_fault : (d : RootDatum) (y : Vector) (f : OrbitFault) → IsOrbitFault d y f → (IsOrbitSize d y 1025 → IsWideCarrier d) → IsListingFault d (module_fault f)
listing_fault d y orbit.NoMemory h wide = tt
listing_fault d y orbit.TooMany h wide = (refl, wide h)

-- one orbit more in the joined list
pub joined_more : (vs ws us : List Vector) (os : List (List Vector)) (k : ℕ) (o : List Vector) → k < length os → get_or os k [] ≡ o → ws ≡ vs ++ joined (take k os) → us ≡ ws ++ o → us ≡ vs ++ joined (take (k + 1) os)
joined_more vs ws us os k o l e inv push =
    push ∙ ap (λ t. t ++ o) inv ∙ append_assoc vs (joined (take k os)) o
    ∙ ap (λ t. vs ++ t) (sym (joined-last (take k os) o) ∙ ap (λ t. joined (take k os ++ t ∷ [])) (sym e) ∙ ap joined (sym (take_more os k [] l)))

-- ---- weights that are not heavy
pub light_coordinates : (x : Vector) → ¬ IsHeavyWeight x → IsWithin 1000000 x
light_coordinates x h k z l = elim (cases_lt 1000000 (unsigned_abs (get_or x k z))) [
  | inl heavy ↦ absurd (h (k, get_or x k z, l, sym (get_or_default x k z (get_or x k z) l), heavy))
  | inr light ↦ light
]

light_member : (ws : List Vector) → ((a : ℕ) → ¬ IsHeavyAt ws a) → (x : Vector) → In x ws → IsWithin 1000000 x
light_member ws light x p =
    let c = contains_from_in ws x p in
    let e : c.0 ≡ c.0 + 1 - 1 = omega arith in
    light_coordinates x (λ heavy. light (c.0 + 1) (omega arith, (let l = c.1 in omega (arith, l)), subst IsHeavyWeight (sym c.2 ∙ get_or_default ws c.0 x [] c.1 ∙ ap (λ i. get_or ws i []) e) heavy))

length-in : (os : List (List Vector)) (o : List Vector) → In o os → length o ≤ length (joined os)
length-in [] o p = elim p [ ]
length-in (o' ∷ os) o (here e) = let l = length-append o' (joined os) in let s = ap length e in omega (arith, l, s)
length-in (o' ∷ os) o (there p) = let l = length-append o' (joined os) in let h = length-in os o p in omega (arith, l, h)

-- the orbits of a light carrier are steppable
pub all_steppable : (d : RootDatum) → IsLoaded d → (n : ℕ) (os : List (List Vector)) (vs ws : List Vector) → IsListing d n os → ws ≡ vs ++ joined os → ((a : ℕ) → ¬ IsHeavyAt ws a) → All AreSteppable os
all_steppable d loaded n os vs ws h e light k z l =
    let o = get_or os k z in
    let p = in_at os k z l in
    let w = orbit_of d loaded n os h.orbits o p in
    let first = (w.2.members w.0).1 start in
    record {
      some = let f = first.1 in omega (arith, f);
      few = let f = length-in os o p in let g = h.few in omega (arith, f, g);
      small = λ j t m. light_member ws light (get_or o j t) (subst (In (get_or o j t)) (sym e) (in_right vs (joined os) (get_or o j t) (in_joined os o (get_or o j t) p (in_at o j t m))));
    }

-- ---- the order of places
module _ (d : RootDatum) where
  pub precedes-trans : (p q r : ℤ) (i j k : ℕ) → Precedes d p i q j → Precedes d q j r k → Precedes d p i r k
  precedes-trans p q r i j k (inl a) (inl b) = inl (omega (arith, a, b))
  precedes-trans p q r i j k (inl a) (inr b) = let e = b.0 in inl (omega (arith, a, e))
  precedes-trans p q r i j k (inr a) (inl b) = let e = a.0 in inl (omega (arith, b, e))
  precedes-trans p q r i j k (inr a) (inr b) = inr (a.0 ∙ b.0, later a.1 b.1)
    where
      later : (place (length d.positive) p < place (length d.positive) q) ⊎ ((p ≡ q) × (i < j)) → (place (length d.positive) q < place (length d.positive) r) ⊎ ((q ≡ r) × (j < k)) →
          (place (length d.positive) p < place (length d.positive) r) ⊎ ((p ≡ r) × (i < k))
      later (inl x) (inl y) = inl (omega (arith, x, y))
      later (inl x) (inr y) = inl (subst (λ t. place (length d.positive) p < place (length d.positive) t) y.0 x)
      later (inr x) (inl y) = inl (subst (λ t. place (length d.positive) t < place (length d.positive) r) (sym x.0) y)
      later (inr x) (inr y) = let u = x.1 in let v = y.1 in inr (x.0 ∙ y.0, omega (arith, u, v))

  pub not_itself : (r : ℤ) (k : ℕ) → ¬ Precedes d r k r k
  not_itself r k (inl a) = absurd (omega (arith, a))
  not_itself r k (inr a) = ⊎_elim (λ l. absurd (omega (arith, l))) (λ l. absurd (let m = l.1 in omega (arith, m))) a.1

  pub one_way : (q r : ℤ) (j k : ℕ) → Precedes d q j r k → ¬ Precedes d r k q j
  one_way q r j k a b = not_itself q j (precedes-trans q r q j k j a b)

-- ---- one orbit more
module _ (d : RootDatum) (loaded : IsLoaded d) (eta : Signs) where
  -- along the weights of a module that is made no place is huge
  none_along : (o : List Vector) (v : Module) → IsMadeAlong d eta o v → (r : ℤ) (k : ℕ) → ¬ IsFirstHugeAlong d eta o r k
  none_along o v h r k x = not_huge d loaded eta o r k v x h.0 h.1.steps h.1.completed h.1.small

  pub none_of : (os : List (List Vector)) (vs : List Module) → AreMade d eta os vs → (o : List Vector) → In o os → (r : ℤ) (k : ℕ) → ¬ IsFirstHugeAlong d eta o r k
  none_of os vs h o p = by vs o h.each (subst (In o) (sym h.weights) p)
    where
      by : (vs : List Module) (o : List Vector) → All (IsMade d eta) vs → In o (map (λ v. v.weights) vs) → (r : ℤ) (k : ℕ) → ¬ IsFirstHugeAlong d eta o r k
      by [] o each p = elim p [ ]
      by (v ∷ vs) o each (here e) = none_along o v (sym e, each 0 v (omega arith))
      by (v ∷ vs) o each (there p) = by vs o (λ k z l. each (suc k) z (omega (arith, l))) p

  made_push : (os : List (List Vector)) (vs : List Module) (o : List Vector) (v : Module) → AreMade d eta os vs → IsMadeAlong d eta o v → AreMade d eta (os ++ o ∷ []) (vs ++ v ∷ [])
  made_push os vs o v h m = record {
    weights = map-append (λ (w : Module). w.weights) vs (v ∷ []) ∙ ap (λ t. t ++ v.weights ∷ []) h.weights ∙ ap (λ t. os ++ t ∷ []) m.0;
    each = All-append (IsMade d eta) vs (v ∷ []) h.each (λ k z l. one k z l);
  }
    where
      one : (k : ℕ) (z : Module) → k < 1 → IsMade d eta (get_or (v ∷ []) k z)
      one zero z l = m.1
      one (suc k) z l = absurd (omega (arith, l))

  huge_push : (os : List (List Vector)) (o : List Vector) (r : ℤ) (k : ℕ) → IsFirstHugeOf d eta os r k → ((q : ℤ) (j : ℕ) → Precedes d q j r k → ¬ IsFirstHugeAlong d eta o q j) → IsFirstHugeOf d eta (os ++ o ∷ []) r k
  huge_push os o r k h none = record {
    orbit = h.orbit;
    among = contains_from_in (os ++ o ∷ []) h.orbit (in_left os (o ∷ []) h.orbit (in_from_contains os h.orbit h.among));
    huge = h.huge;
    before = λ p q j c l. ⊎_elim (λ a. h.before p q j (contains_from_in os p a) l) (λ e. subst (λ t. ¬ IsFirstHugeAlong d eta t q j) (sym e) (none q j l)) (split_last os o p (in_from_contains (os ++ o ∷ []) p c));
  }

  huge_here : (os : List (List Vector)) (o : List Vector) (r : ℤ) (k : ℕ) → IsFirstHugeAlong d eta o r k → ((p : List Vector) (q : ℤ) (j : ℕ) → In p os → Precedes d q j r k → ¬ IsFirstHugeAlong d eta p q j) → IsFirstHugeOf d eta (os ++ o ∷ []) r k
  huge_here os o r k h none = record {
    orbit = o;
    among = contains_from_in (os ++ o ∷ []) o (in_last os o);
    huge = h;
    before = λ p q j c l. ⊎_elim (λ a. none p q j a l) (λ e x. not_before d loaded eta o q r j k (subst (λ t. IsFirstHugeAlong d eta t q j) e x) h l) (split_last os o p (in_from_contains (os ++ o ∷ []) p c));
  }

  -- a module is made along it
  pub made_more : (os : List (List Vector)) (o : List Vector) (v : Module) (vs : List Module) (p : Option (ℤ × ℕ)) → IsMadeOf d eta os vs p → IsMadeAlong d eta o v → IsMadeOf d eta (os ++ o ∷ []) (vs ++ v ∷ []) p
  made_more os o v vs None h a = made_push os vs o v h a
  made_more os o v vs (Some p) h a = huge_push os o p.0 p.1 h (λ q j l. none_along o v a q j)

  -- a place is huge along it
  pub huge_more : (os : List (List Vector)) (o : List Vector) (r : ℤ) (k : ℕ) (vs : List Module) (p : Option (ℤ × ℕ)) (n : ℤ × ℕ) → IsMadeOf d eta os vs p → IsFirstHugeAlong d eta o r k → IsFirstOf d p r k n → IsMadeOf d eta (os ++ o ∷ []) vs (Some n)
  huge_more os o r k vs None n h a e = subst (λ t. IsFirstHugeOf d eta (os ++ o ∷ []) t.0 t.1) (sym e) (huge_here os o r k a (λ p q j i l. none_of os vs h p i q j))
  huge_more os o r k vs (Some p) n h a e = ⊎_elim
      (λ x. subst (λ t. IsFirstHugeOf d eta (os ++ o ∷ []) t.0 t.1) (sym x.1) (huge_push os o p.0 p.1 h (λ q i l b.
      (let s = one_huge d loaded eta o q r i k b a in
      one_way d p.0 r p.1 k x.0 (subst (λ t. Precedes d r t p.0 p.1) s.1 (subst (λ t. Precedes d t i p.0 p.1) s.0 l))))))
      (λ x. subst (λ t. IsFirstHugeOf d eta (os ++ o ∷ []) t.0 t.1) (sym x.1) (huge_here os o r k a (λ q s i m l b.
      ⊎_elim (λ c. h.before q s i (contains_from_in os q m) c b)
      (λ c. ⊎_elim (λ g. x.0 (precedes-trans d p.0 s r p.1 i k g l)) (λ g. x.0 (subst (λ t. Precedes d p.0 t r k) g.1 (subst (λ t. Precedes d t i r k) g.0 l))) c)
      (trichotomy d s p.0 i p.1 b.first.huge.lowering.from h.huge.first.huge.lowering.from))))
      e

  pub made_number : (os : List (List Vector)) (vs : List Module) (p : Option (ℤ × ℕ)) → IsMadeOf d eta os vs p → IfSome p (λ n. IsNumber d n.0)
  made_number os vs None h = tt
  made_number os vs (Some p) h = h.huge.first.huge.lowering.from

  pub nothing_made : AreMade d eta [] []
  nothing_made = record { weights = refl; each = λ k z l. absurd (omega (arith, l)) }

  -- ---- the answers
  module _ (os : List (List Vector)) (a : AreOrbitsOf d d.base.dim os) (adjoint : Module) where
    huge_at : (r : ℤ) (k : ℕ) → IsHugeAt d eta r k → (o : List Vector) × In o os × IsFirstHugeAlong d eta o r k
    huge_at r k h = (h.orbit, subst (In h.orbit) (one_list d d.base.dim h.orbits os h.are_orbits a) (in_from_contains h.orbits h.orbit h.among), h.huge)

    pub huge_carrier : (r : ℤ) (k : ℕ) → IsFirstHugeOf d eta os r k → IsHugeCarrier d eta r k
    huge_carrier r k h = record {
      huge = record { orbits = os; are_orbits = a; orbit = h.orbit; among = h.among; huge = h.huge };
      before = λ q j l x. (let e = huge_at q j x in h.before e.0 q j (contains_from_in os e.0 e.1) l e.2);
    }

    module _ (ws : List Vector) (in_order : ws ≡ adjoint.weights ++ joined os) (few : length ws ≤ 1024) where
      weights_are : AreCarrierWeights d adjoint ws
      weights_are = record { orbits = os; are_orbits = a; in_order = in_order }

      pub heavy_carrier : (b : ℕ) → IsHeavyAt ws b → ((c : ℕ) → c < b → ¬ IsHeavyAt ws c) → IsHeavyCarrier d adjoint b
      heavy_carrier b h before = record { ws = ws; weights = weights_are; few = few; heavy = h; before = before }

      module _ (light : (c : ℕ) → ¬ IsHeavyAt ws c) where
        light_carrier : IsLightCarrier d adjoint
        light_carrier = record { ws = ws; weights = weights_are; few = few; light = light }

        pub making_fault : (e : ModuleFault) → IsMakingFault d eta os e → LoadsCarrier d eta adjoint (Err e)
        making_fault NoMemory h = tt
        making_fault (NotMinuscule r) h = absurd h
        making_fault (Table n) h = absurd h
        making_fault (Wide n) h = absurd h
        making_fault (Heavy b) h = absurd h
        making_fault (Huge r k) h = (light_carrier, huge_carrier r k h)

        pub carrier_loads : (vs : List Module) (v : Module) → AreMade d eta os vs → IsDirectSum d (adjoint ∷ vs) v → LoadsCarrier d eta adjoint (Ok v)
        carrier_loads vs v m s =
            let same : v.weights ≡ ws = direct_sum-weights d (adjoint ∷ vs) v s ∙ ap (λ t. adjoint.weights ++ joined t) m.weights ∙ sym in_order in (
              record {
                modules = vs;
                orbits = subst (AreOrbitsOf d d.base.dim) (sym m.weights) a;
                of_orbits = λ k z l.
                    (let w = get_or vs k z in
                    let at : get_or os k w.weights ≡ w.weights = ap (λ t. get_or t k w.weights) (sym m.weights) ∙ get_or-map-here vs k z l in
                    let inside : k < length os = let e = ap length m.weights in let g = length-map vs (λ (u : Module). u.weights) in omega (arith, l, e, g) in
                    let y = orbit_of d loaded d.base.dim os a w.weights (subst (λ t. In t os) at (in_at os k w.weights inside)) in
                    let made = m.each k z l in
                    (y.0, record { weights = y.2; steps = made.steps; completed = made.completed }));
                sum = s;
              },
              (let e = ap length same in omega (arith, e, few)),
              subst (λ t. (c : ℕ) → ¬ IsHeavyAt t c) (sym same) light,
              λ r k h. (let e = huge_at r k h in none_of os vs m e.0 e.1 r k e.2),
            )
          where
            get_or-map-here : (vs : List Module) (k : ℕ) (z : Module) → k < length vs → get_or (map (λ (u : Module). u.weights) vs) k (get_or vs k z).weights ≡ (get_or vs k z).weights
            get_or-map-here [] k z l = absurd (omega (arith, l))
            get_or-map-here (v ∷ vs) zero z l = refl
            get_or-map-here (v ∷ vs) (suc k) z l = get_or-map-here vs k z (omega (arith, l))

-- the adjoint module has a basis vector for each root and each simple root
pub adjoint_size : (d : RootDatum) (adjoint : Module) → IsAdjointOf d adjoint → length adjoint.weights ≡ adjoint_dimension d
adjoint_size d adjoint is = ap length is.2.weights ∙ length-map-range_with_len (λ a. basis_weight d (basis_vector d a)) 0 (adjoint_dimension d)

-- the number of weights of the carrier
pub carrier_few : (d : RootDatum) (adjoint : Module) (n : ℕ) (os : List (List Vector)) (ws : List Vector) → IsAdjointOf d adjoint → IsListing d n os → ws ≡ adjoint.weights ++ joined os → length ws ≤ 1024
carrier_few d adjoint n os ws is h e =
    let l = ap length e ∙ length-append adjoint.weights (joined os) in
    let s = adjoint_size d adjoint is in
    let f = h.few in
    omega (arith, l, s, f)

-- what is summed are modules, and not too large
pub all_modules : (d : RootDatum) (eta : Signs) (adjoint : Module) (os : List (List Vector)) (vs : List Module) → IsAdjointOf d adjoint → AreMade d eta os vs → All (IsModule d) (adjoint ∷ vs)
all_modules d eta adjoint os vs is made zero z l = is.2.is_module
all_modules d eta adjoint os vs is made (suc k) z l = (made.each k z (omega (arith, l))).steps.shape

pub all_few : (d : RootDatum) (eta : Signs) (adjoint : Module) (os : List (List Vector)) (vs : List Module) (ws : List Vector) → AreMade d eta os vs → ws ≡ adjoint.weights ++ joined os → length ws ≤ 1024 → dimensions (adjoint ∷ vs) ≤ 1024
all_few d eta adjoint os vs ws made e few = let m = ap (λ t. length (adjoint.weights ++ joined t)) made.weights in let l = ap length e in omega (arith, m, l, few)

-- why the orbits are not listed
pub listing_loads : (d : RootDatum) (eta : Signs) (adjoint : Module) (e : ModuleFault) → IsListingFault d e → LoadsCarrier d eta adjoint (Err e)
listing_loads d eta adjoint NoMemory h = tt
listing_loads d eta adjoint (NotMinuscule r) h = absurd h
listing_loads d eta adjoint (Table n) h = absurd h
listing_loads d eta adjoint (Wide n) h = h
listing_loads d eta adjoint (Heavy a) h = absurd h
listing_loads d eta adjoint (Huge r k) h = absurd h

-- what along answers, where it names no place
pub huge_is : (d : RootDatum) (eta : Signs) (ws : List Vector) (e : ModuleFault) (p : ℤ × ℕ) → IsFaultAlong d eta ws e → Some p ≡ huge_place e → IsFirstHugeAlong d eta ws p.0 p.1
huge_is d eta ws (Huge r k) p h e = let f : p ≡ (r, k) = cc in subst (λ t. IsFirstHugeAlong d eta ws t.0 t.1) (sym f) h
huge_is d eta ws NoMemory p h e = absurd (cc)
huge_is d eta ws (NotMinuscule r) p h e = absurd h
huge_is d eta ws (Table n) p h e = absurd h
huge_is d eta ws (Wide n) p h e = absurd h
huge_is d eta ws (Heavy a) p h e = absurd h
