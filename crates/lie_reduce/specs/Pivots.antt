-- The pivots of a square matrix: for each column the place of the last entry that is not 0, when multiples of the columns before it
-- are added so that this place is as early as it can be.
-- For proofs: no public clause cites it.
-- Source: any text on linear algebra (column echelon form; the Bruhat decomposition of the general linear group).
--
--   p is the pivot of column j of M          IsPivot R n M j p
--   rows, columns                            count from 0
use Rattle.std.specs.Prelude.{◌≡◌, ◌≢◌, ℕ, suc, ℤ, pos, neg_ℤ, ◌<◌, ◌≤◌, List, length, slice_index_or, cond, nat_lt}
use Rattle.lie_ring.specs.Rings.{RingOn}
use Rattle.lie_ring.specs.Matrices.{Matrix, entry, identity, product, table}
use Rattle.lie_field.specs.FiniteField.{FiniteField}
use Rattle.lie_field.specs.FieldRing.{field_ring}
use Rattle.lie_field.specs.Quotient.{FieldData, order, add, mul, neg, of_int}
use Rattle.lie_datum.specs.Vectors.{Vector, plus, times}
use Rattle.lie_datum.specs.RootDatum.{vector, rank}
use Rattle.lie_datum.specs.RootList.{RootDatum, root_of, IsNumber}
use Rattle.lie_const.specs.Modules.{Module, dimension, divided_power}
use Rattle.lie_audit.specs.WeylWeights.{weight_at}
use Rattle.lie_reduce.specs.Triangular.{IsSquare, IsUpperUnitriangular}

-- column j of M X has, for each upper unitriangular X, an entry that is not 0 in row p or behind it, and for one of them none behind it
pub record IsPivot {A : Type 0} (R : RingOn A) (n : ℕ) (M : Matrix A) (j p : ℕ) : Type 0 where
  pub within : p < n
  pub least : (X : Matrix A) → IsUpperUnitriangular R n X → (i : ℕ) × (p ≤ i) × (i < n) × (entry R.zero (product R M X) i j ≢ R.zero)
  pub some : Matrix A
  pub upper : IsUpperUnitriangular R n some
  pub reached : (i : ℕ) → p < i → i < n → entry R.zero (product R M some) i j ≡ R.zero

-- M with multiples of column j added to the later ones, so that row p has 0 there; `inverse` is that of the entry in row p of column j
abbrev pub without_column : FieldData → Matrix ℕ → ℕ → ℕ → ℕ → ℕ → ℕ → ℕ
without_column f M inverse p j i l = cond (nat_lt j l) (add f (entry 0 M i l) (mul f (entry 0 M i j) (neg f (mul f inverse (entry 0 M p l))))) (entry 0 M i l)

-- N is M after the first k columns: row p_j is 0 behind column j, column j is 0 behind row p_j, and what was done can be undone
pub record AreReduced (f : FiniteField) (n k : ℕ) (M N : Matrix ℕ) (p : List ℕ) : Type 0 where
  pub count : length p ≡ k
  pub square : IsSquare (field_ring f) n N
  pub within : (j : ℕ) → j < k → slice_index_or p j 0 < n
  pub corner : (j : ℕ) → j < k → entry 0 N (slice_index_or p j 0) j ≢ 0
  pub behind : (j i : ℕ) → j < k → slice_index_or p j 0 < i → i < n → entry 0 N i j ≡ 0
  pub beside : (j l : ℕ) → j < k → j < l → l < n → entry 0 N (slice_index_or p j 0) l ≡ 0
  pub to : Matrix ℕ
  pub to_upper : IsUpperUnitriangular (field_ring f) n to
  pub made : N ≡ product (field_ring f) M to
  pub from : Matrix ℕ
  pub from_upper : IsUpperUnitriangular (field_ring f) n from
  pub back : M ≡ product (field_ring f) N from

-- column j of a square matrix has zeros alone
abbrev pub HasZeroColumn : Matrix ℕ → ℕ → Type 0
HasZeroColumn M j = (i : ℕ) → i < M.height → entry 0 M i j ≡ 0

-- row p is the last whose entry in column j is not 0
abbrev pub IsLastInColumn : Matrix ℕ → ℕ → ℕ → Type 0
IsLastInColumn M j p = (p < M.height) × (entry 0 M p j ≢ 0) × ((i : ℕ) → p < i → i < M.height → entry 0 M i j ≡ 0)

-- N is M without column j, by the entry in row p
abbrev pub IsWithoutColumn : FiniteField → Matrix ℕ → ℕ → ℕ → Matrix ℕ → Type 0
IsWithoutColumn f M p j N =
    (inverse : ℕ) × (inverse < order f.given) × (mul f.given (entry 0 M p j) inverse ≡ 1) × (N ≡ table M.height M.height (without_column f.given M inverse p j))

-- a pivot for each column
abbrev pub ArePivots : FiniteField → Matrix ℕ → List ℕ → Type 0
ArePivots f M p = (length p ≡ M.height) × ((j : ℕ) → j < M.height → IsPivot (field_ring f) M.height M j (slice_index_or p j 0))

-- no square matrix is an inverse from the left
abbrev pub HasNoInverse : FiniteField → Matrix ℕ → Type 0
HasNoInverse f M = (Z : Matrix ℕ) → IsSquare (field_ring f) M.height Z → product (field_ring f) Z M ≢ identity (field_ring f) M.height

-- x - r = y
abbrev pub IsStep : RootDatum → Vector → ℤ → Vector → Type 0
IsStep d x r y = plus x (times (neg_ℤ (pos 1)) (vector d.base (root_of d r))) ≡ y

-- r is a root that leads from the weight y to the weight x
abbrev pub IsRootBetween : RootDatum → Vector → Vector → ℤ → Type 0
IsRootBetween d x y r = IsNumber d r × IsStep d x r y

-- no root does
abbrev pub HasNoRootBetween : RootDatum → Vector → Vector → Type 0
HasNoRootBetween d x y = (r : ℤ) → IsNumber d r → ¬ IsStep d x r y

-- where the root vector of r has an entry that is not 0 in the field, Q holds of the weights at the pivots of its row and its column
pub record HoldsAtPivots (f : FiniteField) (v : Module) (ps at : List ℕ) (r : ℤ) (Q : Vector → Vector → Type 0) : Type 0 where
  pub row : ℕ
  pub col : ℕ
  pub row_within : row < dimension v
  pub col_within : col < dimension v
  pub nonzero : of_int f.given (entry (pos 0) (divided_power v r 1) (slice_index_or ps row 0) (slice_index_or ps col 0)) ≢ 0
  pub holds : Q (weight_at v (slice_index_or ps (slice_index_or at row 0) 0)) (weight_at v (slice_index_or ps (slice_index_or at col 0) 0))

-- the root s leads from the weight at the one pivot to that at the other
abbrev pub IsImage : FiniteField → RootDatum → Module → List ℕ → List ℕ → ℤ → ℤ → Type 0
IsImage f d v ps at r s = HoldsAtPivots f v ps at r (λ x y. IsRootBetween d x y s)

-- no root does
abbrev pub HasNoImage : FiniteField → RootDatum → Module → List ℕ → List ℕ → ℤ → Type 0
HasNoImage f d v ps at r = HoldsAtPivots f v ps at r (HasNoRootBetween d)

-- n places of n
abbrev pub ArePlaces : ℕ → List ℕ → Type 0
ArePlaces n ps = (length ps ≡ n) × ((i : ℕ) → i < n → slice_index_or ps i 0 < n)

-- the entry of M with rows and columns in the order of the places
abbrev pub sorted_entry : Matrix ℕ → List ℕ → ℕ → ℕ → ℕ
sorted_entry M ps i j = entry 0 M (slice_index_or ps i 0) (slice_index_or ps j 0)

-- images of the first k simple roots
abbrev pub AreImages : FiniteField → RootDatum → Module → List ℕ → List ℕ → ℕ → List ℤ → Type 0
AreImages f d v ps at k images =
    (length images ≡ k) × ((i : ℕ) → i < k → IsImage f d v ps at (pos (suc i)) (slice_index_or images i (pos 0)))

-- a simple root has none
abbrev pub HasSomeNoImage : FiniteField → RootDatum → Module → List ℕ → List ℕ → Type 0
HasSomeNoImage f d v ps at = (i : ℕ) × (i < rank d.base) × HasNoImage f d v ps at (pos (suc i))
