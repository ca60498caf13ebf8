-- Where the sizes or the degrees of the entries may be too large for an operation on matrices.
-- Own: the bounds; the size of an answer is that of the same operation on the matrices of the sizes of the entries.
use Rattle.std.specs.Prelude.{ℕ, zero, suc, ◌+◌, ◌*◌, ◌/◌, ◌%◌, ◌^◌, ◌<◌, ◌≤◌, ◌⊎◌, ℤ, pos, nat_abs, List}
use Rattle.lie_ring.specs.Rings.{RingOn}
use Rattle.lie_ring.specs.Matrices.{Matrix, entry, column}

-- f 0 + f 1 + .. + f (n - 1)
abbrev pub nat_sum_below : ℕ → (ℕ → ℕ) → ℕ
nat_sum_below zero f = 0
nat_sum_below (suc n) f = nat_sum_below n f + f n

-- the entry of the sum of the matrices of the sizes reaches 2 ^ 126
abbrev pub IsWideSumAt : {A : Type 0} → RingOn A → Matrix A → Matrix A → ℕ → ℕ → Type 0
IsWideSumAt R M N i j = 2 ^ 126 ≤ R.size (entry R.zero M i j) + R.size (entry R.zero N i j)

-- the size of what the place k adds
abbrev pub product_term_size : {A : Type 0} → RingOn A → Matrix A → Matrix A → ℕ → ℕ → ℕ → ℕ
product_term_size R M N i j k = R.size (entry R.zero M i k) * R.size (entry R.zero N k j)

-- the size of s + a b may reach 2 ^ 126, or the degree of a b 2 ^ 30
abbrev pub IsWideStep : {A : Type 0} → RingOn A → A → A → A → Type 0
IsWideStep R s a b = (2 ^ 126 ≤ R.size s + R.size a * R.size b) ⊎ (2 ^ 30 ≤ R.degree a + R.degree b)

-- the entry of the product of the matrices of the sizes
abbrev pub product_size : {A : Type 0} → RingOn A → Matrix A → Matrix A → ℕ → ℕ → ℕ
product_size R M N i j = nat_sum_below M.width (product_term_size R M N i j)

-- two entries that are multiplied for row i and column j have degrees whose sum reaches 2 ^ 30
pub record IsDeepAt {A : Type 0} (R : RingOn A) (M N : Matrix A) (i j : ℕ) : Type 0 where
  pub mid : ℕ
  pub mid_within : mid < M.width
  pub deep : 2 ^ 30 ≤ R.degree (entry R.zero M i mid) + R.degree (entry R.zero N mid j)

-- the entry of the product of the matrices of the sizes reaches 2 ^ 126, or a sum of degrees 2 ^ 30
abbrev pub IsWideProductAt : {A : Type 0} → RingOn A → Matrix A → Matrix A → ℕ → ℕ → Type 0
IsWideProductAt R M N i j = (2 ^ 126 ≤ product_size R M N i j) ⊎ IsDeepAt R M N i j

-- the entry of the Kronecker product of the matrices of the sizes reaches 2 ^ 126, or the sum of the degrees 2 ^ 30
abbrev pub IsWideKroneckerAt : {A : Type 0} → RingOn A → Matrix A → Matrix A → ℕ → ℕ → Type 0
IsWideKroneckerAt R M N i j =
    (2 ^ 126 ≤ R.size (entry R.zero M (i / N.height) (j / N.width)) * R.size (entry R.zero N (i % N.height) (j % N.width)))
    ⊎ (2 ^ 30 ≤ R.degree (entry R.zero M (i / N.height) (j / N.width)) + R.degree (entry R.zero N (i % N.height) (j % N.width)))

-- some place within the shape has it
pub record IsSomewhere (h w : ℕ) (P : ℕ → ℕ → Type 0) : Type 0 where
  pub row : ℕ
  pub col : ℕ
  pub row_within : row < h
  pub col_within : col < w
  pub here : P row col

-- some entry of the sum is too wide
abbrev pub IsWideSum : {A : Type 0} → RingOn A → Matrix A → Matrix A → Type 0
IsWideSum R M N = IsSomewhere M.height M.width (IsWideSumAt R M N)

-- some entry of the product is too wide
abbrev pub IsWideProduct : {A : Type 0} → RingOn A → Matrix A → Matrix A → Type 0
IsWideProduct R M N = IsSomewhere M.height N.width (IsWideProductAt R M N)

-- some entry of the Kronecker product is too wide
abbrev pub IsWideKronecker : {A : Type 0} → RingOn A → Matrix A → Matrix A → Type 0
IsWideKronecker R M N = IsSomewhere (M.height * N.height) (M.width * N.width) (IsWideKroneckerAt R M N)

-- some entry of M applied to v is too wide
abbrev pub IsWideApplied : {A : Type 0} → RingOn A → Matrix A → List A → Type 0
IsWideApplied R M v = IsWideProduct R M (column R.zero v)

-- some entry of a matrix of integers is 2^126 at least, in absolute value
pub record IsHugeMatrix (M : Matrix ℤ) : Type 0 where
  pub row : ℕ
  pub col : ℕ
  pub row_within : row < M.height
  pub col_within : col < M.width
  pub huge : 2 ^ 126 ≤ nat_abs (entry (pos 0) M row col)
