-- A square matrix kept as one list, row after row.
-- For proofs: no public clause cites it.
-- Own: the form in which a dense matrix is kept.
use Rattle.std.specs.Prelude.{◌≡◌, ℕ, ◌+◌, ◌*◌, ◌<◌, ℤ, pos, List, length, slice_index_or}
use Rattle.lie_ring.specs.Rings.{sum_below}
use Rattle.lie_ring.specs.Matrices.{Matrix, table, entry}
use Rattle.lie_field.specs.Quotient.{FieldData, add, mul, of_int}
use Rattle.lie_field.specs.FiniteField.{FiniteField}
use Rattle.lie_field.specs.FieldRing.{field_ring}

-- what is kept for row i and column j of a matrix of n columns, 0 where nothing is
abbrev pub place : ℕ → List ℕ → ℕ → ℕ → ℕ
place n entries i j = slice_index_or entries (i * n + j) 0

-- the matrix of dimension n that is kept
abbrev pub square_of : ℕ → List ℕ → Matrix ℕ
square_of n entries = table n n (place n entries)

-- the image of an entry
abbrev pub image_entry : FieldData → Matrix ℤ → ℕ → ℕ → ℕ
image_entry f M i j = of_int f (entry (pos 0) M i j)

-- the row `new` is the row `old` plus a times the row `other`
abbrev pub IsRowSum : FieldData → List ℕ → List ℕ → ℕ → List ℕ → Type 0
IsRowSum f new old a other = (j : ℕ) → j < length old
    → slice_index_or new j 0 ≡ add f (slice_index_or old j 0) (mul f a (slice_index_or other j 0))

-- what the product of a row with the matrix of dimension n that is kept as b has in column j
abbrev pub row_product : FiniteField → ℕ → List ℕ → List ℕ → ℕ → ℕ
row_product f n row b j = sum_below (field_ring f) n (λ k. mul f.given (slice_index_or row k 0) (place n b k j))

-- what the product of the matrices of dimension n that are kept as a and b has in row i and column j
abbrev pub matrix_product : FiniteField → ℕ → List ℕ → List ℕ → ℕ → ℕ → ℕ
matrix_product f n a b i j = sum_below (field_ring f) n (λ k. mul f.given (place n a i k) (place n b k j))
