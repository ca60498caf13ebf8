-- Covering modules: on these the weights reach each axis of X, and each root acts over the field.
-- Own: which weights cover an axis, the bound 8, that a cover line does too, and the order in which a fault is named.
--
--   live                  IsLive f d v             for each positive root r, an entry of E_r^(1) is not 0 in the field
--   covered by a weight   IsCovered d v j          for a c in 0 .. 8 and a weight x of the module, c x - e_j lowers to 0
--   axis j is covered     IsAxisCovered d v lines j    by a weight, or a cover line for it is kept
--   covering              IsCovering f d v lines   live, and each axis is covered; then each e_j is a combination of the weights
--   axes                  count from 1
use Rattle.std.specs.Prelude.{◌≡◌, ◌≢◌, ℕ, ◌<◌, ◌≤◌, ℤ, pos, [], length, slice_index_or, Result, Ok, Err, ⊤, ◌⊎◌}
use Rattle.lie_ring.specs.Matrices.{entry}
use Rattle.lie_field.specs.FiniteField.{FiniteField}
use Rattle.lie_field.specs.Quotient.{of_int}
use Rattle.lie_datum.specs.Vectors.{Vector, plus, times, minus, unit}
use Rattle.lie_datum.specs.RootList.{RootDatum, IsLoaded}
use Rattle.lie_const.specs.Modules.{Module, dimension, divided_power}
use Rattle.lie_const.specs.Adjoint.{IsAdjointOf}
use Rattle.lie_const.specs.Signs.{Signs}
use Rattle.lie_orbit.specs.Laws.{IsZero}
use Rattle.lie_orbit.specs.Lowering.{Lowers}
use Rattle.lie_weight.specs.Carriers.{IsCarrier}
use Rattle.lie_identities.specs.CoverLines.{CoverLines, HasCoverLine}
use Rattle.lie_identities.specs.declared.covering.CoverFault.{CoverFault}
use Rattle.lie_identities.specs.declared.covering.CoverFault.TheVariants.{Dead, Uncovered}

-- an entry of E_r^(1) is not 0 in the field
pub record IsLiveAt (f : FiniteField) (v : Module) (r : ℤ) : Type 0 where
  pub row : ℕ
  pub col : ℕ
  pub row_within : row < dimension v
  pub col_within : col < dimension v
  pub nonzero : of_int f.given (entry (pos 0) (divided_power v r 1) row col) ≢ 0

-- this holds of each positive root
abbrev pub IsLive : FiniteField → RootDatum → Module → Type 0
IsLive f d v = (k : ℕ) → 1 ≤ k → k ≤ length d.positive → IsLiveAt f v (pos k)

-- c x - e_j
abbrev pub less_axis : ℕ → Vector → ℕ → Vector
less_axis c x j = plus (times (pos c) x) (minus (unit 8 j))

-- for a c in 0 .. 8 and the weight x at a place, it lowers to 0
pub record IsCovered (d : RootDatum) (v : Module) (j : ℕ) : Type 0 where
  pub times : ℕ
  pub few : times ≤ 8
  pub place : ℕ
  pub within : place < dimension v
  pub lowered : Vector
  pub lowers : Lowers d (less_axis times (slice_index_or v.weights place []) j) lowered
  pub zero : IsZero lowered

-- a weight covers the axis, or it has a cover line
abbrev pub IsAxisCovered : RootDatum → Module → CoverLines → ℕ → Type 0
IsAxisCovered d v lines j = IsCovered d v j ⊎ HasCoverLine lines j

-- the module is live, and each axis is covered
pub record IsCovering (f : FiniteField) (d : RootDatum) (v : Module) (lines : CoverLines) : Type 0 where
  pub live : IsLive f d v
  pub axes : (j : ℕ) → 1 ≤ j → j ≤ d.base.dim → IsAxisCovered d v lines j

-- r_k is the first positive root that is not live
pub record IsFirstDead (f : FiniteField) (d : RootDatum) (v : Module) (r : ℤ) : Type 0 where
  pub k : ℕ
  pub number : r ≡ pos k
  pub first : 1 ≤ k
  pub last : k ≤ length d.positive
  pub dead : ¬ IsLiveAt f v r
  pub before : (j : ℕ) → 1 ≤ j → j < k → IsLiveAt f v (pos j)

-- j is the first axis that is not covered
pub record IsFirstUncovered (d : RootDatum) (v : Module) (lines : CoverLines) (j : ℕ) : Type 0 where
  pub first : 1 ≤ j
  pub last : j ≤ d.base.dim
  pub uncovered : ¬ IsAxisCovered d v lines j
  pub before : (i : ℕ) → 1 ≤ i → i < j → IsAxisCovered d v lines i

-- the cause of each fault
abbrev pub IsCoverFault : FiniteField → RootDatum → Module → CoverLines → CoverFault → Type 0
IsCoverFault f d v lines (Dead r) = IsFirstDead f d v r
IsCoverFault f d v lines (Uncovered j) = IsLive f d v × IsFirstUncovered d v lines j

-- what `covering` answers: Ok for a covering module, or the first fault
abbrev pub Covers : FiniteField → RootDatum → Module → CoverLines → Result ⊤ CoverFault → Type 0
Covers f d v lines (Ok u) = IsCovering f d v lines
Covers f d v lines (Err e) = IsCoverFault f d v lines e

-- a carrier covers each axis
abbrev pub CarriersCoverAxes : Type 0
CarriersCoverAxes = (d : RootDatum) (eta : Signs) (adjoint v : Module) (j : ℕ) → IsLoaded d → IsAdjointOf d adjoint → IsCarrier d eta adjoint v → 1 ≤ j → j ≤ d.base.dim → IsCovered d v j
