-- Matrices over a ring, and the operations on them.
-- Source: Lang, Algebra, XIII.1 (matrices) and XVI.1 (tensor products).
--
--   rows and columns             count from 0
--   M_ij                         entry z M i j           z outside of the matrix
--   (f i j), i < h, j < w        table h w f
--   M + N, c M, M N              sum R M N, scaled R c M, product R M N
--   transposed M                 transposed z M
--   M below and right of it N    direct_sum z M N
--   M (x) N                      kronecker R M N         a block M_ij N in the place of each M_ij
--   h of each entry              image h M
--   M v                          applied R M v           v as a column
--   M has its rows and columns   IsShaped z M            else the list of rows may be longer or shorter than the shape says
--   M_ij in R                    AllElem R M             AllFit R M: and of a size that a call may be handed
use Rattle.std.specs.Prelude.{◌≡◌, ℕ, ◌+◌, ◌-◌, ◌*◌, ◌/◌, ◌%◌, ◌<◌, List, [], map, length, slice_index_or, eqb, ltb, cond}
use Rattle.std.specs.List.{range_with_len}
use Rattle.lie_ring.specs.Rings.{RingOn, IsElem, Fits, sum_below}

-- a matrix is its shape and the list of its rows
pub record Matrix (A : Type 0) : Type 0 where
  pub height : ℕ
  pub width : ℕ
  pub rows : List (List A)

-- the matrix of height h and width w with f i j in row i and column j
abbrev pub table : {A : Type 0} → ℕ → ℕ → (ℕ → ℕ → A) → Matrix A
table h w f = record { height = h; width = w; rows = map (λ i. map (f i) (range_with_len 0 w)) (range_with_len 0 h) }

-- what stands in row i and column j, z outside of the matrix
abbrev pub entry : {A : Type 0} → A → Matrix A → ℕ → ℕ → A
entry z M i j = slice_index_or (slice_index_or M.rows i []) j z

-- the list of rows has the shape that the matrix names
abbrev pub IsShaped : {A : Type 0} → A → Matrix A → Type 0
IsShaped z M = M ≡ table M.height M.width (entry z M)

-- each entry is an element
abbrev pub AllElem : {A : Type 0} → RingOn A → Matrix A → Type 0
AllElem R M = (i j : ℕ) → i < M.height → j < M.width → IsElem R (entry R.zero M i j)

-- each entry is an element that a call may be handed
abbrev pub AllFit : {A : Type 0} → RingOn A → Matrix A → Type 0
AllFit R M = (i j : ℕ) → i < M.height → j < M.width → Fits R (entry R.zero M i j)

-- the matrix of zeros
abbrev pub zero_matrix : {A : Type 0} → A → ℕ → ℕ → Matrix A
zero_matrix z h w = table h w (λ _ _. z)

-- the matrix with e in one place, and with the entries of M in all others
abbrev pub with_entry : {A : Type 0} → A → Matrix A → ℕ → ℕ → A → Matrix A
with_entry z M row col e = table M.height M.width (λ i j. cond (eqb i row) (cond (eqb j col) e (entry z M i j)) (entry z M i j))

-- the entry of a sum
abbrev pub sum_entry : {A : Type 0} → RingOn A → Matrix A → Matrix A → ℕ → ℕ → A
sum_entry R M N i j = R.add (entry R.zero M i j) (entry R.zero N i j)

-- the sum, entry by entry
abbrev pub sum : {A : Type 0} → RingOn A → Matrix A → Matrix A → Matrix A
sum R M N = table M.height M.width (sum_entry R M N)

-- c times each entry
abbrev pub scaled : {A : Type 0} → RingOn A → A → Matrix A → Matrix A
scaled R c M = table M.height M.width (λ i j. R.mul c (entry R.zero M i j))

-- what the place k of row i and column j adds to the entry of a product
abbrev pub product_term : {A : Type 0} → RingOn A → Matrix A → Matrix A → ℕ → ℕ → ℕ → A
product_term R M N i j k = R.mul (entry R.zero M i k) (entry R.zero N k j)

-- the entry of a product
abbrev pub product_entry : {A : Type 0} → RingOn A → Matrix A → Matrix A → ℕ → ℕ → A
product_entry R M N i j = sum_below R M.width (product_term R M N i j)

-- the product: rows of M with columns of N
abbrev pub product : {A : Type 0} → RingOn A → Matrix A → Matrix A → Matrix A
product R M N = table M.height N.width (product_entry R M N)

-- ones on the diagonal, and zeros elsewhere
abbrev pub identity : {A : Type 0} → RingOn A → ℕ → Matrix A
identity R n = table n n (λ i j. cond (eqb i j) R.one R.zero)

-- rows for columns
abbrev pub transposed : {A : Type 0} → A → Matrix A → Matrix A
transposed z M = table M.width M.height (λ i j. entry z M j i)

-- what the direct sum has in row i and column j
abbrev pub direct_sum_entry : {A : Type 0} → A → Matrix A → Matrix A → ℕ → ℕ → A
direct_sum_entry z M N i j = cond (ltb i M.height)
    (cond (ltb j M.width) (entry z M i j) z)
    (cond (ltb j M.width) z (entry z N (i - M.height) (j - M.width)))

-- the matrix with the blocks M and N on its diagonal
abbrev pub direct_sum : {A : Type 0} → A → Matrix A → Matrix A → Matrix A
direct_sum z M N = table (M.height + N.height) (M.width + N.width) (direct_sum_entry z M N)

-- the entry of the Kronecker product: that of M at the block, times that of N in the block
abbrev pub kronecker_entry : {A : Type 0} → RingOn A → Matrix A → Matrix A → ℕ → ℕ → A
kronecker_entry R M N i j = R.mul (entry R.zero M (i / N.height) (j / N.width)) (entry R.zero N (i % N.height) (j % N.width))

-- the matrix with the block M_ij N for each entry of M
abbrev pub kronecker : {A : Type 0} → RingOn A → Matrix A → Matrix A → Matrix A
kronecker R M N = table (M.height * N.height) (M.width * N.width) (kronecker_entry R M N)

-- the image of each entry
abbrev pub image : {A B : Type 0} → (A → B) → Matrix A → Matrix B
image h M = record { height = M.height; width = M.width; rows = map (λ row. map h row) M.rows }

-- each entry of the list is an element
abbrev pub EachElem : {A : Type 0} → RingOn A → List A → Type 0
EachElem R v = (k : ℕ) → k < length v → IsElem R (slice_index_or v k R.zero)

-- each element of the list may be handed to a call
abbrev pub EachFits : {A : Type 0} → RingOn A → List A → Type 0
EachFits R v = (k : ℕ) → k < length v → Fits R (slice_index_or v k R.zero)

-- the list as a matrix of one column
abbrev pub column : {A : Type 0} → A → List A → Matrix A
column z v = table (length v) 1 (λ i _. slice_index_or v i z)

-- M applied to v: the entries of the product with the column v
abbrev pub applied : {A : Type 0} → RingOn A → Matrix A → List A → List A
applied R M v = map (λ i. product_entry R M (column R.zero v) i 0) (range_with_len 0 M.height)
