-- What is kept while a square matrix is taken apart, from the last row and column up.
-- For proofs: no public clause cites it.
-- Own: the array has, for the corners that were taken out, the diagonal factor on the diagonal, and the other two above and below it.
--
--   P i j                      the entry of the array in row i and column j
--   k                          the number of rows and columns that are left
--   what is left               corner k P
--   what was taken out at c    outer f P i j c         U_ic D_c L_cj
use Rattle.std.specs.Prelude.{◌≡◌, ◌≢◌, ℕ, ◌<◌, ◌≤◌, List, slice_index_or, cond, eqb, ltb}
use Rattle.lie_ring.specs.Rings.{sum_below}
use Rattle.lie_field.specs.FiniteField.{FiniteField}
use Rattle.lie_field.specs.Quotient.{FieldData, order, inv, add, neg, mul}
use Rattle.lie_field.specs.FieldRing.{field_ring}

-- the entries of a list
abbrev pub at : List ℕ → ℕ → ℕ
at xs j = slice_index_or xs j 0

-- the row x from which the multiple x_k c of the row p is taken in the columns before k; the factor x_k c stands in column k
abbrev pub cleared : FieldData → ℕ → ℕ → (ℕ → ℕ) → (ℕ → ℕ) → ℕ → ℕ
cleared f k c x p j = cond (ltb j k) (add f (x j) (mul f (neg f (mul f (x k) c)) (p j))) (cond (eqb j k) (mul f (x k) c) (x j))

-- the row x, multiplied with c in the columns before k
abbrev pub shortened : FieldData → ℕ → ℕ → (ℕ → ℕ) → ℕ → ℕ
shortened f k c x j = cond (ltb j k) (mul f (x j) c) (x j)

-- the array after the corner at k is taken out
abbrev pub stepped : FieldData → ℕ → (ℕ → ℕ → ℕ) → ℕ → ℕ → ℕ
stepped f k P i j = cond (ltb i k) (cleared f k (inv f (P k k)) (P i) (P k) j) (cond (eqb i k) (shortened f k (inv f (P k k)) (P k) j) (P i j))

-- the first k rows and columns of the array, and 0 elsewhere
abbrev pub corner : ℕ → (ℕ → ℕ → ℕ) → ℕ → ℕ → ℕ
corner k P i j = cond (ltb i k) (cond (ltb j k) (P i j) 0) 0

-- the entry of the upper unitriangular factor
abbrev pub above : (ℕ → ℕ → ℕ) → ℕ → ℕ → ℕ
above P i j = cond (ltb i j) (P i j) (cond (eqb i j) 1 0)

-- that of the lower unitriangular factor
abbrev pub below : (ℕ → ℕ → ℕ) → ℕ → ℕ → ℕ
below P i j = cond (ltb j i) (P i j) (cond (eqb i j) 1 0)

-- what the corner at c adds to an entry
abbrev pub outer : FieldData → (ℕ → ℕ → ℕ) → ℕ → ℕ → ℕ → ℕ
outer f P i j c = mul f (above P i c) (mul f (P c c) (below P c j))

-- the same for the corners from k on
abbrev pub outer_from : FieldData → ℕ → (ℕ → ℕ → ℕ) → ℕ → ℕ → ℕ → ℕ
outer_from f k P i j c = cond (ltb c k) 0 (outer f P i j c)

-- factors of M, by their entries
pub record Factored (f : FiniteField) (n : ℕ) (M : ℕ → ℕ → ℕ) : Type 0 where
  pub u : ℕ → ℕ → ℕ
  pub d : ℕ → ℕ
  pub l : ℕ → ℕ → ℕ
  pub u_one : (i : ℕ) → i < n → u i i ≡ 1
  pub u_zero : (i j : ℕ) → i < n → j < i → u i j ≡ 0
  pub u_below : (i j : ℕ) → i < n → j < n → u i j < order f.given
  pub d_unit : (i : ℕ) → i < n → d i ≢ 0
  pub d_below : (i : ℕ) → i < n → d i < order f.given
  pub l_one : (i : ℕ) → i < n → l i i ≡ 1
  pub l_zero : (i j : ℕ) → j < n → i < j → l i j ≡ 0
  pub l_below : (i j : ℕ) → i < n → j < n → l i j < order f.given
  pub sums : (i j : ℕ) → i < n → j < n → M i j ≡ sum_below (field_ring f) n (λ c. mul f.given (u i c) (mul f.given (d c) (l c j)))

-- the first k rows and columns of P are the sum of what the first k corners of the factors add
abbrev pub IsCornerOf : (f : FiniteField) (n : ℕ) (M : ℕ → ℕ → ℕ) → Factored f n M → ℕ → (ℕ → ℕ → ℕ) → Type 0
IsCornerOf f n M x k P = (i j : ℕ) → i < k → j < k → P i j ≡ sum_below (field_ring f) k (λ c. mul f.given (x.u i c) (mul f.given (x.d c) (x.l c j)))

-- the corners from k on are taken out of M, and P is left
pub record AreApart (f : FiniteField) (n k : ℕ) (M P : ℕ → ℕ → ℕ) : Type 0 where
  pub units : (c : ℕ) → k ≤ c → c < n → P c c ≢ 0
  pub sums : (i j : ℕ) → i < n → j < n → M i j ≡ add f.given (corner k P i j) (sum_below (field_ring f) n (outer_from f.given k P i j))
  pub left : (x : Factored f n M) → IsCornerOf f n M x k P

-- M has no factors
abbrev pub HasNoCorners : FiniteField → ℕ → (ℕ → ℕ → ℕ) → Type 0
HasNoCorners f n M = ¬ Factored f n M
