-- How large the matrices of the adjoint module are.
-- Own: the bounds.
use Rattle.std.specs.Prelude.{ℕ, ◌≤◌, ◌<◌, ℤ, pos, unsigned_abs}
use Rattle.lie_ring.specs.Matrices.{entry}
use Rattle.lie_datum.specs.RootList.{RootDatum, IsLoaded, IsNumber}
use Rattle.lie_const.specs.StructureConstants.{Table, StandsFor}
use Rattle.lie_const.specs.Modules.{Module, dimension, top, divided_power}
use Rattle.lie_const.specs.Adjoint.{IsAdjoint}

-- a root has at most three matrices, with entries of at most 200
pub record HasSmallMatrices (d : RootDatum) (v : Module) : Type 0 where
  pub narrow : dimension v ≤ 248
  pub top : (r : ℤ) → IsNumber d r → top v r ≤ 3
  pub entries : (r : ℤ) (k i j : ℕ) → IsNumber d r → 1 ≤ k → i < dimension v → j < dimension v → unsigned_abs (entry (pos 0) (divided_power v r k) i j) ≤ 200

-- the adjoint module has small matrices
abbrev pub AdjointIsSmall : Type 0
AdjointIsSmall = (d : RootDatum) (n : Table) (v : Module) → IsLoaded d → StandsFor d n → IsAdjoint d n v → HasSmallMatrices d v
