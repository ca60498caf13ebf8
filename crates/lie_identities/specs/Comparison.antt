-- Where two sides of a relation differ first.
-- For proofs: no public clause cites it.
-- Own: the order: by column, then row, then exponents.
use Rattle.std.specs.Prelude.{◌≡◌, ◌≢◌, ℕ, ◌+◌, ◌<◌, ◌≤◌, ℤ, ⊤}
use Rattle.lie_ring.specs.Matrices.{Matrix, entry}
use Rattle.lie_poly.specs.Polynomials.{Polynomial, laurent, coefficient}
use Rattle.lie_poly.specs.Differences.{IsFirstDifference}
use Rattle.lie_identities.specs.declared.relations.Rel.{Rel}
use Rattle.lie_identities.specs.declared.faults.AuditFault.{AuditFault}
use Rattle.lie_identities.specs.declared.faults.AuditFault.TheVariants.{NoMemory, Relation}
use Rattle.lie_identities.specs.Audit.{IsFirstDifferentEntry}

-- the row a is the first in which two columns differ
pub record IsFirstDifferentRow (V W : Matrix Polynomial) (a : ℕ) : Type 0 where
  pub within : a < V.height
  pub differ : entry laurent.zero V a 0 ≢ entry laurent.zero W a 0
  pub before : (b : ℕ) → b < a → entry laurent.zero V b 0 ≡ entry laurent.zero W b 0

-- from the row on, a is the first in which one of two columns has an entry that is not 0
pub record IsNextRow (V W : Matrix Polynomial) (from a : ℕ) : Type 0 where
  pub after : from ≤ a
  pub within : a < V.height
  pub before : (b : ℕ) → from ≤ b → b < a → entry laurent.zero V b 0 ≡ entry laurent.zero W b 0

-- the fault of two columns in this place, with rows and columns counted from 1
pub record IsFaultIn (V W : Matrix Polynomial) (col row c : ℕ) (et eu left right : ℤ) : Type 0 where
  pub place : ℕ
  pub row_is : row ≡ place + 1
  pub col_is : c ≡ col + 1
  pub within : place < V.height
  pub before : (b : ℕ) → b < place → entry laurent.zero V b 0 ≡ entry laurent.zero W b 0
  pub here : IsFirstDifference (coefficient (entry laurent.zero V place 0)) (coefficient (entry laurent.zero W place 0)) et eu left right

-- the fault of a relation whose sides are these columns on a basis vector
abbrev pub IsColumnDifference : Rel → Matrix Polynomial → Matrix Polynomial → ℕ → AuditFault → Type 0
IsColumnDifference q V W col NoMemory = ⊤
IsColumnDifference q V W col (Relation p row c et eu left right) = (p ≡ q) × IsFaultIn V W col row c et eu left right
IsColumnDifference q V W col other = ⊥

-- the fault of a relation whose sides are these matrices
abbrev pub IsDifference : Rel → Matrix Polynomial → Matrix Polynomial → AuditFault → Type 0
IsDifference q M N NoMemory = ⊤
IsDifference q M N (Relation p row col et eu left right) = (p ≡ q) × IsFirstDifferentEntry M N row col et eu left right
IsDifference q M N other = ⊥
