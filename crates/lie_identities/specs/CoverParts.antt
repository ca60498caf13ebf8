-- How it is tested whether a module is covering.
-- For proofs: no public clause cites it.
use Rattle.std.specs.Prelude.{◌≢◌, ℕ, ◌<◌, ℤ, pos, [], slice_index_or}
use Rattle.lie_ring.specs.Matrices.{Matrix, entry}
use Rattle.lie_field.specs.FiniteField.{FiniteField}
use Rattle.lie_field.specs.Quotient.{of_int}
use Rattle.lie_datum.specs.Vectors.{Vector}
use Rattle.lie_datum.specs.RootList.{RootDatum}
use Rattle.lie_const.specs.Modules.{Module, dimension}
use Rattle.lie_orbit.specs.Laws.{IsZero}
use Rattle.lie_orbit.specs.Lowering.{Lowers}
use Rattle.lie_identities.specs.Covers.{less_axis}

-- the column has an entry that is not 0 in the field
abbrev pub IsLiveColumn : FiniteField → Matrix ℤ → ℕ → Type 0
IsLiveColumn f M col = (row : ℕ) × (row < M.height) × (of_int f.given (entry (pos 0) M row col) ≢ 0)

-- the weight lowers to 0
abbrev pub LowersToZero : RootDatum → Vector → Type 0
LowersToZero d x = (y : Vector) × Lowers d x y × IsZero y

-- c times a weight of the module, less the unit vector of the axis, does
abbrev pub IsCoveredTimes : RootDatum → Module → ℕ → ℕ → Type 0
IsCoveredTimes d v c j = (a : ℕ) × (a < dimension v) × LowersToZero d (less_axis c (slice_index_or v.weights a []) j)
