-- How the carrier is made.
-- For proofs: no public clause cites it.
use Rattle.std.specs.Prelude.{◌≡◌, ◌⊎◌, ℕ, suc, ◌+◌, ◌*◌, ◌≤◌, ℤ, pos, List, ◌++◌, map, max, length, Option, None, Some, ⊤}
use Rattle.std.specs.List.{All, Contains, range_with_len}
use Rattle.lie_ring.specs.Matrices.{Matrix, direct_sum}
use Rattle.lie_datum.specs.Vectors.{Vector, unit}
use Rattle.lie_datum.specs.Numbers.{number_at}
use Rattle.lie_datum.specs.RootList.{RootDatum}
use Rattle.lie_const.specs.Modules.{Module, divided_power, top}
use Rattle.lie_const.specs.Adjoint.{adjoint_dimension}
use Rattle.lie_const.specs.Signs.{Signs}
use Rattle.lie_orbit.specs.Lowering.{Lowers}
use Rattle.lie_weight.specs.declared.faults.ModuleFault.{ModuleFault}
use Rattle.lie_weight.specs.declared.faults.ModuleFault.TheVariants.{NoMemory, NotMinuscule, Table, Wide, Heavy, Huge}
use Rattle.lie_weight.specs.Conjugation.{Precedes}
use Rattle.lie_weight.specs.OrbitFaults.{IsFirstHugeAlong}
use Rattle.lie_weight.specs.Along.{IsMade}
use Rattle.lie_weight.specs.Carriers.{joined, IsPassedOver, AreOrbitsOf, IsWideCarrier}

-- ---- sums
-- E_r^(k) of the sum
abbrev pub sum_power : Module → Module → ℤ → ℕ → Matrix ℤ
sum_power v w r k = direct_sum (pos 0) (divided_power v r k) (divided_power w r k)

-- the matrices of a root in the sum: as many as the module with more of them has
abbrev pub sum_powers : Module → Module → ℤ → List (Matrix ℤ)
sum_powers v w r = map (λ k. sum_power v w r (suc k)) (range_with_len 0 (max (top v r) (top w r)))

-- the sum of two modules
abbrev pub module_sum : Module → Module → Module
module_sum v w = record {
  positive = v.positive;
  weights = v.weights ++ w.weights;
  powers = map (λ p. sum_powers v w (number_at v.positive p)) (range_with_len 0 (2 * v.positive));
}

-- the number of basis vectors of the modules of a list
abbrev pub dimensions : List Module → ℕ
dimensions vs = length (joined (map (λ v. v.weights) vs))

-- ---- the orbits
-- the weight that the unit vector of the axis, counted from 1, lowers to is passed over
abbrev pub IsOldAxis : RootDatum → ℕ → List (List Vector) → Type 0
IsOldAxis d j os = (y : Vector) × Lowers d (unit 8 j) y × IsPassedOver os y

-- the orbits for the first n axes, few enough with the basis of the adjoint module
pub record IsListing (d : RootDatum) (n : ℕ) (os : List (List Vector)) : Type 0 where
  pub orbits : AreOrbitsOf d n os
  pub few : adjoint_dimension d + length (joined os) ≤ 1024

-- why the orbits are not listed
abbrev pub IsListingFault : RootDatum → ModuleFault → Type 0
IsListingFault d NoMemory = ⊤
IsListingFault d (Wide n) = (n ≡ 1025) × IsWideCarrier d
IsListingFault d (NotMinuscule r) = ⊥
IsListingFault d (Table n) = ⊥
IsListingFault d (Heavy a) = ⊥
IsListingFault d (Huge r k) = ⊥

-- ---- their modules
-- the modules along these lists of weights
pub record AreMade (d : RootDatum) (eta : Signs) (os : List (List Vector)) (vs : List Module) : Type 0 where
  pub weights : map (λ v. v.weights) vs ≡ os
  pub each : All (IsMade d eta) vs

-- r and k are the first where the conjugates of the steps along one of these lists are huge
pub record IsFirstHugeOf (d : RootDatum) (eta : Signs) (os : List (List Vector)) (r : ℤ) (k : ℕ) : Type 0 where
  pub orbit : List Vector
  pub among : Contains os orbit
  pub huge : IsFirstHugeAlong d eta orbit r k
  pub before : (o : List Vector) (q : ℤ) (j : ℕ) → Contains os o → Precedes d q j r k → ¬ IsFirstHugeAlong d eta o q j

-- the modules along these lists, or the first place that is huge
abbrev pub IsMadeOf : RootDatum → Signs → List (List Vector) → List Module → Option (ℤ × ℕ) → Type 0
IsMadeOf d eta os vs None = AreMade d eta os vs
IsMadeOf d eta os vs (Some p) = IsFirstHugeOf d eta os p.0 p.1

-- of the place p, if any, and r and k the first
abbrev pub IsFirstOf : RootDatum → Option (ℤ × ℕ) → ℤ → ℕ → ℤ × ℕ → Type 0
IsFirstOf d None r k n = n ≡ (r, k)
IsFirstOf d (Some p) r k n = (Precedes d p.0 p.1 r k × (n ≡ p)) ⊎ ((¬ Precedes d p.0 p.1 r k) × (n ≡ (r, k)))

-- why the modules are not made
abbrev pub IsMakingFault : RootDatum → Signs → List (List Vector) → ModuleFault → Type 0
IsMakingFault d eta os NoMemory = ⊤
IsMakingFault d eta os (Huge r k) = IsFirstHugeOf d eta os r k
IsMakingFault d eta os (NotMinuscule r) = ⊥
IsMakingFault d eta os (Table n) = ⊥
IsMakingFault d eta os (Wide n) = ⊥
IsMakingFault d eta os (Heavy a) = ⊥
