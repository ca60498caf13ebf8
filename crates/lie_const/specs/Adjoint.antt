-- The adjoint module: the Lie algebra over the integers, with the brackets of a Chevalley basis.
-- Source: Carter, Simple Groups of Lie Type, 4.2 (a Chevalley basis and its structure constants).
-- Own: the order of the basis, e_(r_m), .., e_(r_1), h_1, .., h_l, e_(-1), .., e_(-m), counted from 0.
--
--   e_r, h_i            RootVector r, CorootVector i      r is a signed number; i counts from 1
--   the basis           basis_vector d a                  at place a
--   the place of e_r    basis_place d r
--   e_r v               bracket d n r                     on a basis vector: the coefficient of each
--   e_r^k / k!          E_r^(k)                           IsAdjoint, field powers
use Rattle.std.specs.Prelude.{◌≡◌, ℕ, zero, suc, ◌+◌, ◌-◌, ◌≤◌, ◌<◌, ℤ, pos, negsuc, neg_ℤ, ◌*ℤ◌, map, length, cond, ltb, replicate}
use Rattle.std.specs.List.{range_with_len}
use Rattle.std.specs.Ordering.{int_eq}
use Rattle.lie_ring.specs.Integers.{integers}
use Rattle.lie_ring.specs.Matrices.{Matrix, table, entry, identity, product}
use Rattle.lie_datum.specs.Vectors.{Vector, pairing, plus, entry as coordinate}
use Rattle.lie_datum.specs.RootDatum.{rank, vector, simple_coroot}
use Rattle.lie_datum.specs.RootList.{RootDatum, root_of, IsNumber}
use Rattle.lie_const.specs.StructureConstants.{Table, StandsFor, coeffs_of, same_vector}
use Rattle.lie_const.specs.CommutatorTerms.{factorial}
use Rattle.lie_const.specs.Modules.{Module, IsModule, divided_power}

-- a basis vector: e_r for a root r, or h_i for a simple index i
pub data BasisVector : Type 0 where
  RootVector : ℤ → BasisVector
  CorootVector : ℕ → BasisVector

-- the number of basis vectors
abbrev pub adjoint_dimension : RootDatum → ℕ
adjoint_dimension d = length d.positive + rank d.base + length d.positive

-- the basis vector at a place: the positive roots falling, the simple coroots, the negative roots
abbrev pub basis_vector : RootDatum → ℕ → BasisVector
basis_vector d a =
    cond (ltb a (length d.positive)) (RootVector (pos (length d.positive - a)))
    (cond (ltb a (length d.positive + rank d.base)) (CorootVector (suc (a - length d.positive)))
    (RootVector (negsuc (a - (length d.positive + rank d.base)))))

-- the place of e_r
abbrev pub basis_place : RootDatum → ℤ → ℕ
basis_place d (pos k) = length d.positive - k
basis_place d (negsuc k) = length d.positive + rank d.base + k

-- the weight of a basis vector: the root, or 0
abbrev pub basis_weight : RootDatum → BasisVector → Vector
basis_weight d (RootVector r) = vector d.base (root_of d r)
basis_weight d (CorootVector i) = replicate 8 (pos 0)

-- the coefficient of the first basis vector in e_r times the second: e_r e_s = N_rs e_(r+s), e_r e_(-r) = h_r,
-- where h_r is the combination of the h_i by the coefficients of the coroot of r, and e_r h_i = -<r, a_i^> e_r
abbrev pub bracket : RootDatum → Table → ℤ → BasisVector → BasisVector → ℤ
bracket d n r (RootVector t) (RootVector s) = cond (same_vector (coeffs_of d t) (plus (coeffs_of d r) (coeffs_of d s))) (n r s) (pos 0)
bracket d n r (CorootVector i) (RootVector s) = cond (int_eq s (neg_ℤ r)) (coordinate (root_of d r).co_coeffs (i - 1)) (pos 0)
bracket d n r (RootVector t) (CorootVector i) = cond (int_eq t r) (neg_ℤ (pairing (vector d.base (root_of d r)) (simple_coroot d.base i))) (pos 0)
bracket d n r (CorootVector i) (CorootVector j) = pos 0

-- the matrix of e_r
unfoldable pub bracket_matrix : RootDatum → Table → ℤ → Matrix ℤ
bracket_matrix d n r = table (adjoint_dimension d) (adjoint_dimension d) (λ i j. bracket d n r (basis_vector d i) (basis_vector d j))

-- the k-th power of a square matrix of size n
abbrev pub matrix_power : ℕ → Matrix ℤ → ℕ → Matrix ℤ
matrix_power n e zero = identity integers n
matrix_power n e (suc k) = product integers e (matrix_power n e k)

-- the adjoint module: k! E_r^(k) is the k-th power of the matrix of e_r
pub record IsAdjoint (d : RootDatum) (n : Table) (v : Module) : Type 0 where
  pub is_module : IsModule d v
  pub weights : v.weights ≡ map (λ a. basis_weight d (basis_vector d a)) (range_with_len 0 (adjoint_dimension d))
  pub powers : (r : ℤ) (k i j : ℕ) → IsNumber d r → 1 ≤ k → i < adjoint_dimension d → j < adjoint_dimension d →
      pos (factorial k) *ℤ entry (pos 0) (divided_power v r k) i j ≡ entry (pos 0) (matrix_power (adjoint_dimension d) (bracket_matrix d n r) k) i j

-- v is the adjoint module of the datum
abbrev pub IsAdjointOf : RootDatum → Module → Type 0
IsAdjointOf d v = (n : Table) × StandsFor d n × IsAdjoint d n v
