-- The carrier of a root datum: a module whose weights reach each axis of X, and which fault is named where there is none.
-- Own: which orbits it has, and their order; the order of the faults, and the bounds: 1,024 weights, with coordinates within
-- 1,000,000, and matrices below 2^126.
--
--   e_j                                  unit 8 j                       j counts from 1
--   the orbits for the first n axes      AreOrbitsOf d n os             for each axis in turn, the orbit of the weight that e_j lowers to, if it is not 0 and in no orbit before
--   the carrier                          IsCarrier d eta adjoint v      the sum of the adjoint module and of the modules of these orbits
--   its weights, in order                AreCarrierWeights d adjoint ws
use Rattle.std.specs.Prelude.{◌≡◌, ◌≢◌, ◌⊎◌, ℕ, suc, ◌+◌, ◌<◌, ◌≤◌, ℤ, List, [], ◌∷◌, ◌++◌, map, length, Result, Ok, Err, ⊤}
use Rattle.std.specs.List.{All, Any, Contains}
use Rattle.lie_datum.specs.Vectors.{Vector, unit}
use Rattle.lie_datum.specs.RootList.{RootDatum, IsLoaded}
use Rattle.lie_const.specs.Modules.{Module, dimension}
use Rattle.lie_const.specs.Adjoint.{adjoint_dimension, IsAdjointOf}
use Rattle.lie_const.specs.Signs.{Signs}
use Rattle.lie_orbit.specs.Laws.{IsZero}
use Rattle.lie_orbit.specs.Lowering.{Lowers}
use Rattle.lie_orbit.specs.Orbits.{IsReached, IsOrbit, AreDistinct}
use Rattle.lie_weight.specs.declared.faults.ModuleFault.{ModuleFault}
use Rattle.lie_weight.specs.declared.faults.ModuleFault.TheVariants.{NoMemory, NotMinuscule, Table, Wide, Heavy, Huge}
use Rattle.lie_weight.specs.Conjugation.{Precedes}
use Rattle.lie_weight.specs.OrbitModules.{IsOrbitModule}
use Rattle.lie_weight.specs.OrbitFaults.{IsHeavyAt, IsFirstHugeAlong}
use Rattle.lie_weight.specs.Sums.{IsDirectSum}

-- the members of all lists, in order
abbrev pub joined : List (List Vector) → List Vector
joined [] = []
joined (o ∷ os) = o ++ joined os

-- the weight is 0, or in one of these orbits
abbrev pub IsPassedOver : List (List Vector) → Vector → Type 0
IsPassedOver os y = IsZero y ⊎ Any (λ o. Contains o y) os

-- the orbits for the first n axes
pub data AreOrbitsOf (d : RootDatum) : ℕ → List (List Vector) → Type 0 where
  no_axis : AreOrbitsOf d 0 []
  passed_over : (n : ℕ) (os : List (List Vector)) (y : Vector) → AreOrbitsOf d n os → Lowers d (unit 8 (suc n)) y → IsPassedOver os y → AreOrbitsOf d (suc n) os
  taken : (n : ℕ) (os : List (List Vector)) (y : Vector) (o : List Vector) → AreOrbitsOf d n os → Lowers d (unit 8 (suc n)) y → ¬ IsPassedOver os y → IsOrbit d y o → AreOrbitsOf d (suc n) (os ++ o ∷ [])

-- the module of an orbit
abbrev pub IsModuleOfOrbit : RootDatum → Signs → Module → Type 0
IsModuleOfOrbit d eta v = (w : Vector) × IsOrbitModule d eta w v

-- the carrier
pub record IsCarrier (d : RootDatum) (eta : Signs) (adjoint v : Module) : Type 0 where
  pub modules : List Module
  pub orbits : AreOrbitsOf d d.base.dim (map (λ w. w.weights) modules)
  pub of_orbits : All (IsModuleOfOrbit d eta) modules
  pub sum : IsDirectSum d (adjoint ∷ modules) v

-- ---- why there is none
-- a weight of the orbit of a lowered unit vector that is not 0
pub record IsCarrierWeight (d : RootDatum) (x : Vector) : Type 0 where
  pub axis : ℕ
  pub first : 1 ≤ axis
  pub last : axis ≤ d.base.dim
  pub lowered : Vector
  pub lowers : Lowers d (unit 8 axis) lowered
  pub nonzero : ¬ IsZero lowered
  pub reached : IsReached d lowered x

-- different weights of these orbits, with the basis of the adjoint module more than 1,024
pub record IsWideCarrier (d : RootDatum) : Type 0 where
  pub ws : List Vector
  pub distinct : AreDistinct ws
  pub weights : (x : Vector) → Contains ws x → IsCarrierWeight d x
  pub many : 1024 < adjoint_dimension d + length ws

-- the weights of the carrier: those of the adjoint module, then orbit after orbit
pub record AreCarrierWeights (d : RootDatum) (adjoint : Module) (ws : List Vector) : Type 0 where
  pub orbits : List (List Vector)
  pub are_orbits : AreOrbitsOf d d.base.dim orbits
  pub in_order : ws ≡ adjoint.weights ++ joined orbits

-- they are at most 1,024, and the weight at a is the first with a coordinate above 1,000,000 in absolute value
pub record IsHeavyCarrier (d : RootDatum) (adjoint : Module) (a : ℕ) : Type 0 where
  pub ws : List Vector
  pub weights : AreCarrierWeights d adjoint ws
  pub few : length ws ≤ 1024
  pub heavy : IsHeavyAt ws a
  pub before : (b : ℕ) → b < a → ¬ IsHeavyAt ws b

-- they are at most 1,024, and none has such a coordinate
pub record IsLightCarrier (d : RootDatum) (adjoint : Module) : Type 0 where
  pub ws : List Vector
  pub weights : AreCarrierWeights d adjoint ws
  pub few : length ws ≤ 1024
  pub light : (a : ℕ) → ¬ IsHeavyAt ws a

-- r and k are the first where the conjugates of the steps along one of the orbits are huge
pub record IsHugeAt (d : RootDatum) (eta : Signs) (r : ℤ) (k : ℕ) : Type 0 where
  pub orbits : List (List Vector)
  pub are_orbits : AreOrbitsOf d d.base.dim orbits
  pub orbit : List Vector
  pub among : Contains orbits orbit
  pub huge : IsFirstHugeAlong d eta orbit r k

-- of these places, r and k are the first
pub record IsHugeCarrier (d : RootDatum) (eta : Signs) (r : ℤ) (k : ℕ) : Type 0 where
  pub huge : IsHugeAt d eta r k
  pub before : (q : ℤ) (j : ℕ) → Precedes d q j r k → ¬ IsHugeAt d eta q j

-- ---- the answers
-- what `Module::carrier` answers: the carrier, or the first fault
abbrev pub LoadsCarrier : RootDatum → Signs → Module → Result Module ModuleFault → Type 0
LoadsCarrier d eta adjoint (Ok v) = IsCarrier d eta adjoint v × (dimension v ≤ 1024) × ((a : ℕ) → ¬ IsHeavyAt v.weights a) × ((r : ℤ) (k : ℕ) → ¬ IsHugeAt d eta r k)
LoadsCarrier d eta adjoint (Err NoMemory) = ⊤
LoadsCarrier d eta adjoint (Err (NotMinuscule r)) = ⊥
LoadsCarrier d eta adjoint (Err (Table n)) = ⊥
LoadsCarrier d eta adjoint (Err (Wide n)) = (n ≡ 1025) × IsWideCarrier d
LoadsCarrier d eta adjoint (Err (Heavy a)) = IsHeavyCarrier d adjoint a
LoadsCarrier d eta adjoint (Err (Huge r k)) = IsLightCarrier d adjoint × IsHugeCarrier d eta r k

-- the cases of `LoadsCarrier` exclude one another: want of memory aside, a datum has one answer for its signs
abbrev pub LoadsCarrierOneWay : Type 0
LoadsCarrierOneWay = (d : RootDatum) (eta : Signs) (adjoint : Module) (x y : Result Module ModuleFault) → IsLoaded d → IsAdjointOf d adjoint →
    LoadsCarrier d eta adjoint x → LoadsCarrier d eta adjoint y → x ≢ Err NoMemory → y ≢ Err NoMemory → x ≡ y
