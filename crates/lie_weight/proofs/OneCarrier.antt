-- A datum has one answer of `Module::carrier` for its signs, want of memory aside.
use Rattle.std.proofs.Common.{◌≡◌, ◌≢◌, ℕ, zero, suc, ◌≤◌, ℤ, pos, List, [], ◌∷◌, ◌++◌, map, length, refl, sym, ap, subst, ◌∙◌, arith, ⊎_elim, length-append, Result, Ok, Err}
use Rattle.std.specs.List.{All}
use Rattle.std.proofs.lemmas.List.FromFn.{length-map-range_with_len}
use Rattle.lie_ring.specs.Matrices.{table, entry, zero_matrix}
use Rattle.lie_datum.specs.Vectors.{Vector}
use Rattle.lie_datum.specs.RootList.{RootDatum, IsLoaded, IsNumber}
use Rattle.lie_datum.proofs.Entries.{within_or_past}
use Rattle.lie_const.specs.Modules.{Module, IsModule, dimension, divided_powers, divided_power, top}
use Rattle.lie_const.specs.Adjoint.{adjoint_dimension, basis_vector, basis_weight, IsAdjointOf}
use Rattle.lie_const.specs.Signs.{Signs}
use Rattle.lie_orbit.proofs.OneOrbit.{order}
use Rattle.lie_weight.specs.declared.faults.ModuleFault.{ModuleFault}
use Rattle.lie_weight.specs.declared.faults.ModuleFault.TheVariants.{NoMemory, NotMinuscule, Table, Wide, Heavy, Huge}
use Rattle.lie_weight.specs.OrbitFaults.{IsHeavyAt}
use Rattle.lie_weight.specs.Sums.{IsSum, IsNothing, IsDirectSum}
use Rattle.lie_weight.specs.Carriers.{joined, IsModuleOfOrbit, IsCarrier, IsWideCarrier, AreCarrierWeights, IsHeavyCarrier, IsHugeCarrier, LoadsCarrier, LoadsCarrierOneWay}
use Rattle.lie_weight.proofs.UniqueLemmas.{one_module}
use Rattle.lie_weight.proofs.AlongLemmas.{trichotomy, one_made}
use Rattle.lie_weight.proofs.DraftLemmas.{past_end}
use Rattle.lie_weight.proofs.CarrierOrbits.{one_list, not_wide}
use Rattle.lie_weight.proofs.ModuleSums.{direct_sum-weights}
use Rattle.lie_weight.proofs.OneAnswers.{one_sum}

-- ---- sums
module _ (d : RootDatum) where
  -- a module without basis vectors has empty matrices
  empty_power : (s : Module) → IsModule d s → s.weights ≡ [] → (r : ℤ) (k : ℕ) → IsNumber d r → 1 ≤ k → divided_power s r k ≡ zero_matrix (pos 0) 0 0
  empty_power s h e r zero n l = absurd (omega (arith, l))
  empty_power s h e r (suc k) n l = ⊎_elim
      (λ m. h.square r k n m ∙ ap (λ t. table (length t) (length t) (entry (pos 0) (divided_power s r (suc k)))) e)
      (λ m. past_end (divided_powers s r) k (zero_matrix (pos 0) (dimension s) (dimension s)) m ∙ ap (λ t. zero_matrix (pos 0) (length t) (length t)) e)
      (within_or_past k (top s r))

  one_nothing : (s t : Module) → IsNothing d s → IsNothing d t → s ≡ t
  one_nothing s t a b = one_module d t s b.shape a.shape (a.weights ∙ sym b.weights) (λ r k n l. empty_power s a.shape a.weights r k n l ∙ sym (empty_power t b.shape b.weights r k n l))

  one_direct_sum : (vs : List Module) (s t : Module) → IsDirectSum d vs s → IsDirectSum d vs t → s ≡ t
  one_direct_sum [] s t a b = one_nothing s t a b
  one_direct_sum (v ∷ vs) s t a b = one_sum d v b.0 s t (subst (λ w. IsSum d v w s) (one_direct_sum vs a.0 b.0 a.1 b.1) a.2) b.2

module _ (d : RootDatum) (loaded : IsLoaded d) (eta : Signs) where
  one_orbit_module : (u v : Module) → IsModuleOfOrbit d eta u → IsModuleOfOrbit d eta v → u.weights ≡ v.weights → u ≡ v
  one_orbit_module u v a b e = one_made d loaded eta v.weights u v e refl a.1.steps b.1.steps a.1.completed b.1.completed

  one_modules : (us vs : List Module) → All (IsModuleOfOrbit d eta) us → All (IsModuleOfOrbit d eta) vs → map (λ u. u.weights) us ≡ map (λ v. v.weights) vs → us ≡ vs
  one_modules [] [] a b e = refl
  one_modules [] (v ∷ vs) a b e = absurd (let l = ap length e in omega (arith, l))
  one_modules (u ∷ us) [] a b e = absurd (let l = ap length e in omega (arith, l))
  one_modules (u ∷ us) (v ∷ vs) a b e =
      let h : u.weights ≡ v.weights = cc in
      let t : map (λ u. u.weights) us ≡ map (λ v. v.weights) vs = cc in
      let f = one_orbit_module u v (a 0 u (omega arith)) (b 0 v (omega arith)) h in
      let g = one_modules us vs (λ k z l. a (suc k) z (omega (arith, l))) (λ k z l. b (suc k) z (omega (arith, l))) t in
      cc

  module _ (adjoint : Module) (is : IsAdjointOf d adjoint) where
    adjoint_size : length adjoint.weights ≡ adjoint_dimension d
    adjoint_size = ap length is.2.weights ∙ length-map-range_with_len (λ a. basis_weight d (basis_vector d a)) 0 (adjoint_dimension d)

    one_carrier : (u v : Module) → IsCarrier d eta adjoint u → IsCarrier d eta adjoint v → u ≡ v
    one_carrier u v a b =
        let e = one_modules a.modules b.modules a.of_orbits b.of_orbits (one_list d d.base.dim (map (λ w. w.weights) a.modules) (map (λ w. w.weights) b.modules) a.orbits b.orbits) in
        one_direct_sum d (adjoint ∷ b.modules) u v (subst (λ t. IsDirectSum d (adjoint ∷ t) u) e a.sum) b.sum

    -- the weights of the carrier are one list
    one_weights : (us vs : List Vector) → AreCarrierWeights d adjoint us → AreCarrierWeights d adjoint vs → us ≡ vs
    one_weights us vs a b = a.in_order ∙ ap (λ t. adjoint.weights ++ joined t) (one_list d d.base.dim a.orbits b.orbits a.are_orbits b.are_orbits) ∙ sym b.in_order

    weights_of : (v : Module) → IsCarrier d eta adjoint v → AreCarrierWeights d adjoint v.weights
    weights_of v c = record { orbits = map (λ w. w.weights) c.modules; are_orbits = c.orbits; in_order = direct_sum-weights d (adjoint ∷ c.modules) v c.sum }

    few_not_wide : (ws : List Vector) → AreCarrierWeights d adjoint ws → length ws ≤ 1024 → IsWideCarrier d → ⊥
    few_not_wide ws w few wide =
        let e = ap length w.in_order ∙ length-append adjoint.weights (joined w.orbits) in
        let s = adjoint_size in
        not_wide d loaded w.orbits w.are_orbits (omega (arith, e, s, few)) wide

    heavy_not_light : (a : ℕ) (ws : List Vector) → IsHeavyCarrier d adjoint a → AreCarrierWeights d adjoint ws → ((b : ℕ) → ¬ IsHeavyAt ws b) → ⊥
    heavy_not_light a ws h w light = light a (subst (λ t. IsHeavyAt t a) (one_weights h.ws ws h.weights w) h.heavy)

    one_heavy : (a b : ℕ) → IsHeavyCarrier d adjoint a → IsHeavyCarrier d adjoint b → a ≡ b
    one_heavy a b g h =
        let e = one_weights g.ws h.ws g.weights h.weights in
        order a b (λ l. h.before a l (subst (λ t. IsHeavyAt t a) e g.heavy)) (λ l. g.before b l (subst (λ t. IsHeavyAt t b) (sym e) h.heavy))

    one_huge_carrier : (q r : ℤ) (j k : ℕ) → IsHugeCarrier d eta q j → IsHugeCarrier d eta r k → (q ≡ r) × (j ≡ k)
    one_huge_carrier q r j k a b =
        ⊎_elim (λ p. absurd (b.before q j p a.huge)) (λ p. ⊎_elim (λ l. absurd (a.before r k l b.huge)) (λ e. e) p) (trichotomy d q r j k a.huge.huge.first.huge.lowering.from b.huge.huge.first.huge.lowering.from)

    two : (x y : Result Module ModuleFault) → LoadsCarrier d eta adjoint x → LoadsCarrier d eta adjoint y → x ≢ Err NoMemory → y ≢ Err NoMemory → x ≡ y
    two (Err NoMemory) y a b n m = absurd (n refl)
    two (Err (NotMinuscule r)) y a b n m = absurd a
    two (Err (Table p)) y a b n m = absurd a
    two (Ok u) (Err NoMemory) a b n m = absurd (m refl)
    two (Err (Wide p)) (Err NoMemory) a b n m = absurd (m refl)
    two (Err (Heavy p)) (Err NoMemory) a b n m = absurd (m refl)
    two (Err (Huge r k)) (Err NoMemory) a b n m = absurd (m refl)
    two (Ok u) (Err (NotMinuscule s)) a b n m = absurd b
    two (Ok u) (Err (Table q)) a b n m = absurd b
    two (Err (Wide p)) (Err (NotMinuscule s)) a b n m = absurd b
    two (Err (Wide p)) (Err (Table q)) a b n m = absurd b
    two (Err (Heavy p)) (Err (NotMinuscule s)) a b n m = absurd b
    two (Err (Heavy p)) (Err (Table q)) a b n m = absurd b
    two (Err (Huge r k)) (Err (NotMinuscule s)) a b n m = absurd b
    two (Err (Huge r k)) (Err (Table q)) a b n m = absurd b
    two (Ok u) (Ok v) a b n m = ap Ok (one_carrier u v a.0 b.0)
    two (Ok u) (Err (Wide p)) a b n m = absurd (few_not_wide u.weights (weights_of u a.0) a.1 b.1)
    two (Ok u) (Err (Heavy p)) a b n m = absurd (heavy_not_light p u.weights b (weights_of u a.0) a.2)
    two (Ok u) (Err (Huge r k)) a b n m = absurd (a.3 r k b.1.huge)
    two (Err (Wide p)) (Ok v) a b n m = absurd (few_not_wide v.weights (weights_of v b.0) b.1 a.1)
    two (Err (Wide p)) (Err (Wide q)) a b n m = ap (λ (t : ℕ). Err (Wide t)) (a.0 ∙ sym b.0)
    two (Err (Wide p)) (Err (Heavy q)) a b n m = absurd (few_not_wide b.ws b.weights b.few a.1)
    two (Err (Wide p)) (Err (Huge s k)) a b n m = absurd (few_not_wide b.0.ws b.0.weights b.0.few a.1)
    two (Err (Heavy p)) (Ok v) a b n m = absurd (heavy_not_light p v.weights a (weights_of v b.0) b.2)
    two (Err (Heavy p)) (Err (Wide q)) a b n m = absurd (few_not_wide a.ws a.weights a.few b.1)
    two (Err (Heavy p)) (Err (Heavy q)) a b n m = ap (λ (t : ℕ). Err (Heavy t)) (one_heavy p q a b)
    two (Err (Heavy p)) (Err (Huge s k)) a b n m = absurd (heavy_not_light p b.0.ws a b.0.weights b.0.light)
    two (Err (Huge r k)) (Ok v) a b n m = absurd (b.3 r k a.1.huge)
    two (Err (Huge r k)) (Err (Wide q)) a b n m = absurd (few_not_wide a.0.ws a.0.weights a.0.few b.1)
    two (Err (Huge r k)) (Err (Heavy q)) a b n m = absurd (heavy_not_light q a.0.ws b a.0.weights a.0.light)
    two (Err (Huge r k)) (Err (Huge s j)) a b n m = let e = one_huge_carrier r s k j a.1 b.1 in ap (λ (t : ℤ). Err (Huge t k)) e.0 ∙ ap (λ (t : ℕ). Err (Huge s t)) e.1

pub one_answer : LoadsCarrierOneWay
one_answer d eta adjoint x y loaded is a b n m = two d loaded eta adjoint is x y a b n m
