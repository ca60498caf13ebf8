-- How the matrices of the adjoint module are filled: column by column, each from the first row down.
-- For proofs: no public clause cites it.
use Rattle.std.specs.Prelude.{◌≡◌, ◌≢◌, ◌⊎◌, ℕ, suc, ◌+◌, ◌-◌, ◌<◌, ◌≤◌, ℤ, pos, ◌*ℤ◌, List, [], length, slice_index_or}
use Rattle.std.specs.List.{All}
use Rattle.lie_ring.specs.Integers.{integers}
use Rattle.lie_ring.specs.Matrices.{Matrix, entry, zero_matrix, AllFit, IsShaped}
use Rattle.lie_datum.specs.Numbers.{number_at}
use Rattle.lie_datum.specs.RootDatum.{IsSimpleIndex}
use Rattle.lie_datum.specs.RootList.{RootDatum, IsNumber}
use Rattle.lie_const.specs.StructureConstants.{Table}
use Rattle.lie_const.specs.CommutatorTerms.{factorial}
use Rattle.lie_const.specs.Adjoint.{adjoint_dimension, basis_place, bracket_matrix, matrix_power}
use Rattle.lie_weight.specs.Kept.{IsSquare}
use Rattle.lie_weight.specs.declared.adjoint.Basis.{Basis}
use Rattle.lie_weight.specs.declared.adjoint.Basis.TheVariants.{Root, Coroot}

-- the place of h_i
abbrev pub coroot_place : RootDatum → ℕ → ℕ
coroot_place d i = length d.positive + (i - 1)

-- the basis vector at the place a
abbrev pub IsBasisAt : RootDatum → ℕ → Basis → Type 0
IsBasisAt d a (Root r) = IsNumber d r × (a ≡ basis_place d r)
IsBasisAt d a (Coroot i) = IsSimpleIndex d.base i × (a ≡ coroot_place d i)

-- the entry of e_r^k in a row and a column
abbrev pub power_entry : RootDatum → Table → ℤ → ℕ → ℕ → ℕ → ℤ
power_entry d n r k i j = entry (pos 0) (matrix_power (adjoint_dimension d) (bracket_matrix d n r) k) i j

-- the entry c is that of e_r^k / k!
abbrev pub IsDivided : RootDatum → Table → ℤ → ℕ → ℤ → ℕ → ℕ → Type 0
IsDivided d n r k c i j = pos (factorial k) *ℤ c ≡ power_entry d n r k i j

-- the matrix of e_r^k / k! as far as it is filled: the first c columns, and h rows of the next
pub record IsPartial (d : RootDatum) (n : Table) (r : ℤ) (k : ℕ) (M : Matrix ℤ) (c h : ℕ) : Type 0 where
  pub height : M.height ≡ adjoint_dimension d
  pub width : M.width ≡ adjoint_dimension d
  pub shaped : IsShaped (pos 0) M
  pub fit : AllFit integers M
  pub done : (i j : ℕ) → i < adjoint_dimension d → j < adjoint_dimension d → (j < c) ⊎ ((j ≡ c) × (i < h)) → IsDivided d n r k (entry (pos 0) M i j) i j
  pub blank : (i j : ℕ) → i < adjoint_dimension d → j < adjoint_dimension d → (c < j) ⊎ ((j ≡ c) × (h ≤ i)) → entry (pos 0) M i j ≡ pos 0

-- the matrix of e_r^k / k!
pub record IsDividedMatrix (d : RootDatum) (n : Table) (r : ℤ) (k : ℕ) (M : Matrix ℤ) : Type 0 where
  pub square : IsSquare (adjoint_dimension d) M
  pub entries : (i j : ℕ) → i < adjoint_dimension d → j < adjoint_dimension d → IsDivided d n r k (entry (pos 0) M i j) i j

-- the matrices of e_r^k / k! for k from 1 to c
pub record AreFirstDivided (d : RootDatum) (n : Table) (r : ℤ) (c : ℕ) (Ms : List (Matrix ℤ)) : Type 0 where
  pub count : length Ms ≡ c
  pub each : (k : ℕ) → k < c → IsDividedMatrix d n r (suc k) (slice_index_or Ms k (zero_matrix (pos 0) (adjoint_dimension d) (adjoint_dimension d)))

-- the matrices of e_r^k / k! for k from 1 on, up to the last that is not 0
pub record AreDivided (d : RootDatum) (n : Table) (r : ℤ) (Ms : List (Matrix ℤ)) : Type 0 where
  pub few : length Ms ≤ 3
  pub squares : All (IsSquare (adjoint_dimension d)) Ms
  pub entries : (k i j : ℕ) → i < adjoint_dimension d → j < adjoint_dimension d →
      IsDivided d n r (suc k) (entry (pos 0) (slice_index_or Ms k (zero_matrix (pos 0) (adjoint_dimension d) (adjoint_dimension d))) i j) i j
  pub last : (k : ℕ) → length Ms ≡ suc k → slice_index_or Ms k (zero_matrix (pos 0) (adjoint_dimension d) (adjoint_dimension d)) ≢ zero_matrix (pos 0) (adjoint_dimension d) (adjoint_dimension d)

-- the matrices of the first c roots in the full order
pub record AreAllDivided (d : RootDatum) (n : Table) (c : ℕ) (Mss : List (List (Matrix ℤ))) : Type 0 where
  pub count : length Mss ≡ c
  pub each : (i : ℕ) → i < c → AreDivided d n (number_at (length d.positive) i) (slice_index_or Mss i [])
