-- When the orbit of a weight makes a module, and which fault is named where it does not.
-- Own: the order of the faults, and the bounds: 300 weights, with coordinates within 1,000,000, and matrices below 2^126.
use Rattle.std.specs.Prelude.{◌≡◌, ◌≢◌, ℕ, ◌-◌, ◌<◌, ◌≤◌, ℤ, List, [], length, slice_index_or, unsigned_abs, Result, Ok, Err, ⊤}
use Rattle.std.specs.List.{Any}
use Rattle.lie_datum.specs.Vectors.{Vector}
use Rattle.lie_datum.specs.RootList.{RootDatum, IsLoaded}
use Rattle.lie_const.specs.Modules.{Module}
use Rattle.lie_const.specs.Signs.{Signs}
use Rattle.lie_weight.specs.declared.faults.ModuleFault.{ModuleFault}
use Rattle.lie_weight.specs.declared.faults.ModuleFault.TheVariants.{NoMemory, NotMinuscule, Table, Wide, Heavy, Huge}
use Rattle.lie_orbit.specs.Weights.{IsMinuscule, IsFirstLargePairing}
use Rattle.lie_orbit.specs.Orbits.{IsOrbit, IsOrbitSize}
use Rattle.lie_orbit.specs.declared.faults.OrbitFault.{OrbitFault}
use Rattle.lie_orbit.specs.declared.faults.OrbitFault.TheVariants as orbit
use Rattle.lie_weight.specs.Conjugation.{absolute_height, IsCompletedBelow, IsHuge, IsFirstHuge}
use Rattle.lie_weight.specs.OrbitModules.{HasSteps, IsOrbitModule}

-- a coordinate is above 1,000,000 in absolute value
abbrev pub IsHeavyWeight : Vector → Type 0
IsHeavyWeight x = Any (λ c. 1000000 < unsigned_abs c) x

-- the weight at a, counted from 1, has one
abbrev pub IsHeavyAt : List Vector → ℕ → Type 0
IsHeavyAt ws a = (1 ≤ a) × (a ≤ length ws) × IsHeavyWeight (slice_index_or ws (a - 1) [])

-- the weights are at most 300, and none has one
pub record AreLight (ws : List Vector) : Type 0 where
  pub few : length ws ≤ 300
  pub light : (a : ℕ) → ¬ IsHeavyAt ws a

-- a is the first weight that has one
pub record IsFirstHeavyWeight (d : RootDatum) (w : Vector) (a : ℕ) : Type 0 where
  pub weights : List Vector
  pub orbit : IsOrbit d w weights
  pub few : length weights ≤ 300
  pub heavy : IsHeavyAt weights a
  pub before : (b : ℕ) → b < a → ¬ IsHeavyAt weights b

-- r and k are the first where the conjugates of the steps along these weights are huge
pub record IsFirstHugeAlong (d : RootDatum) (eta : Signs) (ws : List Vector) (r : ℤ) (k : ℕ) : Type 0 where
  pub partial : Module
  pub weights : partial.weights ≡ ws
  pub steps : HasSteps d partial
  pub completed : IsCompletedBelow d eta partial (absolute_height d r)
  pub first : IsFirstHuge d partial r k

-- r and k are the first where those along the orbit of w are huge, whose weights are few and light
pub record IsFirstHugeConjugate (d : RootDatum) (eta : Signs) (w : Vector) (r : ℤ) (k : ℕ) : Type 0 where
  pub weights : List Vector
  pub orbit : IsOrbit d w weights
  pub light : AreLight weights
  pub along : IsFirstHugeAlong d eta weights r k

-- the fault of a module whose orbit is not listed
abbrev pub module_fault : OrbitFault → ModuleFault
module_fault orbit.NoMemory = NoMemory
module_fault orbit.TooMany = Wide 1025

-- what `Module::orbit` answers for a weight: the module of its orbit, or the first fault
abbrev pub LoadsOrbit : RootDatum → Signs → Vector → Result Module ModuleFault → Type 0
LoadsOrbit d eta w (Ok v) = IsMinuscule d w × IsOrbitModule d eta w v × AreLight v.weights × ((r : ℤ) (k : ℕ) → ¬ IsHuge d v r k)
LoadsOrbit d eta w (Err NoMemory) = ⊤
LoadsOrbit d eta w (Err (NotMinuscule r)) = IsFirstLargePairing d w r
LoadsOrbit d eta w (Err (Table n)) = ⊥
LoadsOrbit d eta w (Err (Wide n)) = IsMinuscule d w × (300 < n) × IsOrbitSize d w n
LoadsOrbit d eta w (Err (Heavy a)) = IsMinuscule d w × IsFirstHeavyWeight d w a
LoadsOrbit d eta w (Err (Huge r k)) = IsMinuscule d w × IsFirstHugeConjugate d eta w r k

-- the cases of `LoadsOrbit` exclude one another: want of memory aside, a weight has one answer, and one module
abbrev pub LoadsOrbitOneWay : Type 0
LoadsOrbitOneWay = (d : RootDatum) (eta : Signs) (w : Vector) (x y : Result Module ModuleFault) → IsLoaded d →
    LoadsOrbit d eta w x → LoadsOrbit d eta w y → x ≢ Err NoMemory → y ≢ Err NoMemory → x ≡ y
