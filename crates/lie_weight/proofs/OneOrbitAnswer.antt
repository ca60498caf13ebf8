-- A weight has one answer of `Module::orbit`, want of memory aside.
use Rattle.std.proofs.Common.{◌≡◌, ◌≢◌, ℕ, ◌<◌, ◌≤◌, ℤ, List, length, refl, sym, ap, subst, ◌∙◌, arith, Result, Ok, Err}
use Rattle.lie_datum.specs.Vectors.{Vector}
use Rattle.lie_datum.specs.RootList.{RootDatum, IsLoaded}
use Rattle.lie_const.specs.Modules.{Module}
use Rattle.lie_const.specs.Signs.{Signs}
use Rattle.lie_weight.specs.declared.faults.ModuleFault.{ModuleFault}
use Rattle.lie_weight.specs.declared.faults.ModuleFault.TheVariants.{NoMemory, NotMinuscule, Table, Wide, Heavy, Huge}
use Rattle.lie_orbit.specs.Weights.{IsMinuscule, HasLargePairing, IsFirstLargePairing}
use Rattle.lie_orbit.proofs.WeightLemmas.{one_first}
use Rattle.lie_orbit.specs.Orbits.{IsOrbit, IsOrbitSize}
use Rattle.lie_orbit.proofs.OneOrbit.{order, one_orbit, most, one_size}
use Rattle.lie_weight.specs.Conjugation.{IsHuge}
use Rattle.lie_weight.specs.OrbitModules.{IsOrbitModule}
use Rattle.lie_weight.specs.OrbitFaults.{IsHeavyAt, AreLight, IsFirstHeavyWeight, IsFirstHugeAlong, IsFirstHugeConjugate, LoadsOrbit, LoadsOrbitOneWay}
use Rattle.lie_weight.proofs.AlongLemmas.{not_huge, one_huge, one_made}

-- ---- the first root with a large pairing
one_large : (d : RootDatum) (w : Vector) (r s : ℤ) → IsFirstLargePairing d w r → IsFirstLargePairing d w s → r ≡ s
one_large d w r s a b = one_first d (HasLargePairing d w) r s a.number b.number a.large b.large a.before b.before

-- ---- the number of members
not_wide : (d : RootDatum) (w : Vector) (n : ℕ) (ws : List Vector) → 300 < n → IsOrbitSize d w n → IsOrbit d w ws → length ws ≤ 300 → ⊥
not_wide d w n ws l s o f = let p = most d w n ws s (λ x. (o.members x).1) in absurd (omega (arith, p, l, f))

-- ---- the first heavy weight
not_light : (d : RootDatum) (w : Vector) (a : ℕ) (ws : List Vector) → IsFirstHeavyWeight d w a → IsOrbit d w ws → AreLight ws → ⊥
not_light d w a ws h o l = l.light a (subst (λ us. IsHeavyAt us a) (one_orbit d w h.weights ws h.orbit o) h.heavy)

one_heavy_weight : (d : RootDatum) (w : Vector) (a b : ℕ) → IsFirstHeavyWeight d w a → IsFirstHeavyWeight d w b → a ≡ b
one_heavy_weight d w a b g h =
    let e = one_orbit d w g.weights h.weights g.orbit h.orbit in
    order a b (λ l. h.before a l (subst (λ us. IsHeavyAt us a) e g.heavy)) (λ l. g.before b l (subst (λ us. IsHeavyAt us b) (sym e) h.heavy))

-- ---- the first huge conjugate
module _ (d : RootDatum) (loaded : IsLoaded d) (eta : Signs) (w : Vector) where
  huge_small : (r : ℤ) (k : ℕ) (v : Module) → IsFirstHugeConjugate d eta w r k → IsOrbitModule d eta w v → ((q : ℤ) (j : ℕ) → ¬ IsHuge d v q j) → ⊥
  huge_small r k v h o small = not_huge d loaded eta h.weights r k v h.along (one_orbit d w v.weights h.weights o.weights h.orbit) o.steps o.completed small

  one_huge_orbit : (q r : ℤ) (j k : ℕ) → IsFirstHugeConjugate d eta w q j → IsFirstHugeConjugate d eta w r k → (q ≡ r) × (j ≡ k)
  one_huge_orbit q r j k a b =
      one_huge d loaded eta b.weights q r j k (subst (λ ws. IsFirstHugeAlong d eta ws q j) (one_orbit d w a.weights b.weights a.orbit b.orbit) a.along) b.along

  -- ---- one module
  pub one_orbit_module : (u v : Module) → IsOrbitModule d eta w u → IsOrbitModule d eta w v → u ≡ v
  one_orbit_module u v a b = one_made d loaded eta v.weights u v (one_orbit d w u.weights v.weights a.weights b.weights) refl a.steps b.steps a.completed b.completed

  -- ---- one answer
  no_large_pairing : (r : ℤ) → IsFirstLargePairing d w r → IsMinuscule d w → ⊥
  no_large_pairing r h m = let s = m r h.number in let l = h.large in absurd (omega (arith, s, l))

  two : (x y : Result Module ModuleFault) → LoadsOrbit d eta w x → LoadsOrbit d eta w y → x ≢ Err NoMemory → y ≢ Err NoMemory → x ≡ y
  two (Err NoMemory) y a b n m = absurd (n refl)
  two (Ok u) (Err NoMemory) a b n m = absurd (m refl)
  two (Err (NotMinuscule r)) (Err NoMemory) a b n m = absurd (m refl)
  two (Err (Table p)) y a b n m = absurd a
  two (Err (Wide p)) (Err NoMemory) a b n m = absurd (m refl)
  two (Err (Heavy p)) (Err NoMemory) a b n m = absurd (m refl)
  two (Err (Huge r k)) (Err NoMemory) a b n m = absurd (m refl)
  two (Ok u) (Ok v) a b n m = ap Ok (one_orbit_module u v a.1 b.1)
  two (Ok u) (Err (NotMinuscule r)) a b n m = absurd (no_large_pairing r b a.0)
  two (Ok u) (Err (Table q)) a b n m = absurd b
  two (Ok u) (Err (Wide p)) a b n m = absurd (not_wide d w p u.weights b.1 b.2 a.1.weights a.2.few)
  two (Ok u) (Err (Heavy p)) a b n m = absurd (not_light d w p u.weights b.1 a.1.weights a.2)
  two (Ok u) (Err (Huge r k)) a b n m = absurd (huge_small r k u b.1 a.1 a.3)
  two (Err (NotMinuscule r)) (Ok v) a b n m = absurd (no_large_pairing r a b.0)
  two (Err (NotMinuscule r)) (Err (NotMinuscule s)) a b n m = ap (λ (t : ℤ). Err (NotMinuscule t)) (one_large d w r s a b)
  two (Err (NotMinuscule r)) (Err (Table q)) a b n m = absurd b
  two (Err (NotMinuscule r)) (Err (Wide p)) a b n m = absurd (no_large_pairing r a b.0)
  two (Err (NotMinuscule r)) (Err (Heavy p)) a b n m = absurd (no_large_pairing r a b.0)
  two (Err (NotMinuscule r)) (Err (Huge s k)) a b n m = absurd (no_large_pairing r a b.0)
  two (Err (Wide p)) (Ok v) a b n m = absurd (not_wide d w p v.weights a.1 a.2 b.1.weights b.2.few)
  two (Err (Wide p)) (Err (NotMinuscule s)) a b n m = absurd (no_large_pairing s b a.0)
  two (Err (Wide p)) (Err (Table q)) a b n m = absurd b
  two (Err (Wide p)) (Err (Wide q)) a b n m = ap (λ (t : ℕ). Err (Wide t)) (one_size d w p q a.2 b.2)
  two (Err (Wide p)) (Err (Heavy q)) a b n m = absurd (not_wide d w p b.1.weights a.1 a.2 b.1.orbit b.1.few)
  two (Err (Wide p)) (Err (Huge s k)) a b n m = absurd (not_wide d w p b.1.weights a.1 a.2 b.1.orbit b.1.light.few)
  two (Err (Heavy p)) (Ok v) a b n m = absurd (not_light d w p v.weights a.1 b.1.weights b.2)
  two (Err (Heavy p)) (Err (NotMinuscule s)) a b n m = absurd (no_large_pairing s b a.0)
  two (Err (Heavy p)) (Err (Table q)) a b n m = absurd b
  two (Err (Heavy p)) (Err (Wide q)) a b n m = absurd (not_wide d w q a.1.weights b.1 b.2 a.1.orbit a.1.few)
  two (Err (Heavy p)) (Err (Heavy q)) a b n m = ap (λ (t : ℕ). Err (Heavy t)) (one_heavy_weight d w p q a.1 b.1)
  two (Err (Heavy p)) (Err (Huge s k)) a b n m = absurd (not_light d w p b.1.weights a.1 b.1.orbit b.1.light)
  two (Err (Huge r k)) (Ok v) a b n m = absurd (huge_small r k v a.1 b.1 b.3)
  two (Err (Huge r k)) (Err (NotMinuscule s)) a b n m = absurd (no_large_pairing s b a.0)
  two (Err (Huge r k)) (Err (Table q)) a b n m = absurd b
  two (Err (Huge r k)) (Err (Wide q)) a b n m = absurd (not_wide d w q a.1.weights b.1 b.2 a.1.orbit a.1.light.few)
  two (Err (Huge r k)) (Err (Heavy q)) a b n m = absurd (not_light d w q a.1.weights b.1 a.1.orbit a.1.light)
  two (Err (Huge r k)) (Err (Huge s j)) a b n m = let e = one_huge_orbit r s k j a.1 b.1 in ap (λ (t : ℤ). Err (Huge t k)) e.0 ∙ ap (λ (t : ℕ). Err (Huge s t)) e.1

pub one_answer : LoadsOrbitOneWay
one_answer d eta w x y loaded a b n m = two d loaded eta w x y a b n m
