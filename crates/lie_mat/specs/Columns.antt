-- A matrix kept by its columns, of which each has the entries that are not zero.
-- For proofs: no public clause cites it.
-- Own: the form in which a matrix is kept.
use Rattle.std.specs.Prelude.{◌≡◌, ◌≢◌, ℕ, ◌<◌, ◌≤◌, List, [], map, length, slice_index_or, Some, Option}
use Rattle.std.specs.Option.{unwrap_or}
use Rattle.std.specs.Map.{lookup}
use Rattle.std.specs.BTreeMap.{BTreeMap, is_at}
use Rattle.std.specs.Ordering.{nat_cmp}
use Rattle.lie_ring.specs.Matrices.{Matrix, table}

-- what is kept for row i and column j
abbrev pub stored : {A : Type 0} → List (BTreeMap ℕ A) → ℕ → ℕ → Option A
stored columns i j = lookup (is_at (nat_cmp i)) (slice_index_or (map (λ c. c.entries) columns) j [])

-- the matrix that is kept
abbrev pub matrix_of : {A : Type 0} → A → ℕ → List (BTreeMap ℕ A) → Matrix A
matrix_of z h columns = table h (length columns) (λ i j. unwrap_or (stored columns i j) z)

-- no zero is kept, and nothing outside of the matrix
pub record IsKept {A : Type 0} (z : A) (h : ℕ) (columns : List (BTreeMap ℕ A)) : Type 0 where
  pub nonzero : (i j : ℕ) (e : A) → stored columns i j ≡ Some e → e ≢ z
  pub within : (i j : ℕ) (e : A) → stored columns i j ≡ Some e → i < h
  pub height : h ≤ 1024
  pub width : length columns ≤ 1024
