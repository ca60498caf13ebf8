-- The module of the orbit of a minuscule weight: simple root vectors step along the orbit, and the others are conjugates of them.
-- Source: Bourbaki, Groupes et algèbres de Lie, VIII, 7, 3 (minuscule weights).
-- Own: the order of the basis, and the signs, which are those of `Conjugation.antt`.
--
--   v_x                the basis vectors             x in the orbit of w, in order
--   E_r^(1) v_x        v_(x + r) where <x, r^> is -1, and 0 elsewhere; r is simple, or the negative of a simple root
--   E_r^(k)            0 for these r and k from 2 on
use Rattle.std.specs.Prelude.{◌≡◌, ℕ, ◌≤◌, ℤ, pos, negsuc, neg_ℤ, List, [], length, slice_index_or, cond, ◌&&◌}
use Rattle.std.specs.Ordering.{int_eq}
use Rattle.lie_ring.specs.Matrices.{Matrix, table, zero_matrix}
use Rattle.lie_datum.specs.Vectors.{Vector, plus}
use Rattle.lie_datum.specs.RootDatum.{vector, IsSimpleIndex}
use Rattle.lie_datum.specs.RootList.{RootDatum, root_of}
use Rattle.lie_const.specs.StructureConstants.{same_vector}
use Rattle.lie_const.specs.Modules.{Module, IsModule, dimension, divided_power}
use Rattle.lie_const.specs.Signs.{Signs}
use Rattle.lie_orbit.specs.Weights.{coroot_pairing}
use Rattle.lie_orbit.specs.Orbits.{IsOrbit}
use Rattle.lie_weight.specs.Conjugation.{IsCompleted}

-- 1 where the weight at j steps by r to the weight at i, and 0 elsewhere
abbrev pub step_entry : RootDatum → List Vector → ℤ → ℕ → ℕ → ℤ
step_entry d ws r i j =
    cond (int_eq (coroot_pairing d (slice_index_or ws j []) r) (negsuc 0) && same_vector (slice_index_or ws i []) (plus (slice_index_or ws j []) (vector d.base (root_of d r))))
    (pos 1) (pos 0)

-- the matrix of the steps by r
unfoldable pub step_matrix : RootDatum → List Vector → ℤ → Matrix ℤ
step_matrix d ws r = table (length ws) (length ws) (step_entry d ws r)

-- the root vectors of r step along the weights
pub record StepsBy (d : RootDatum) (v : Module) (r : ℤ) : Type 0 where
  pub first : divided_power v r 1 ≡ step_matrix d v.weights r
  pub others : (k : ℕ) → 2 ≤ k → divided_power v r k ≡ zero_matrix (pos 0) (dimension v) (dimension v)

-- those of the simple roots and of their negatives do
pub record HasSteps (d : RootDatum) (v : Module) : Type 0 where
  pub shape : IsModule d v
  pub up : (i : ℕ) → IsSimpleIndex d.base i → StepsBy d v (pos i)
  pub down : (i : ℕ) → IsSimpleIndex d.base i → StepsBy d v (neg_ℤ (pos i))

-- the module of the orbit of w
pub record IsOrbitModule (d : RootDatum) (eta : Signs) (w : Vector) (v : Module) : Type 0 where
  pub weights : IsOrbit d w v.weights
  pub steps : HasSteps d v
  pub completed : IsCompleted d eta v
