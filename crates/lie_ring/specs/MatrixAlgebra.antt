-- The laws of matrices over a ring, as statements. `src/laws.rt` publishes each.
-- Source: Lang, Algebra, XIII.1 (matrices over a commutative ring) and XVI.1 (tensor products).
-- Own: each law speaks of matrices of elements whose shapes fit; in comments 0 and 1 are the matrix of zeros and the
-- identity, M^t is M transposed, M + N a sum, and (+), (x) are direct sum and Kronecker product.
use Rattle.std.specs.Prelude.{◌≡◌, ℕ, ◌+◌, ◌*◌}
use Rattle.lie_ring.specs.Rings.{RingOn, IsElem}
use Rattle.lie_ring.specs.Matrices.{Matrix, AllElem, IsShaped, zero_matrix, identity, sum, scaled, product, transposed, direct_sum, kronecker, image}

-- M and N have the same numbers of rows and columns
pub record IsSameShape {A : Type 0} (M N : Matrix A) : Type 0 where
  pub height : M.height ≡ N.height
  pub width : M.width ≡ N.width

-- sums
pub record HasSumLaws {A : Type 0} (R : RingOn A) : Type 0 where
  -- (L + M) + N = L + (M + N)
  pub assoc : (L M N : Matrix A) → IsSameShape L M → IsSameShape L N → AllElem R L → AllElem R M → AllElem R N
      → sum R (sum R L M) N ≡ sum R L (sum R M N)
  -- M + N = N + M
  pub comm : (M N : Matrix A) → IsSameShape M N → AllElem R M → AllElem R N → sum R M N ≡ sum R N M
  -- M + 0 = M
  pub zero : (M : Matrix A) → IsShaped R.zero M → AllElem R M → sum R M (zero_matrix R.zero M.height M.width) ≡ M

-- products
pub record HasProductLaws {A : Type 0} (R : RingOn A) : Type 0 where
  -- (L M) N = L (M N)
  pub assoc : (L M N : Matrix A) → L.width ≡ M.height → M.width ≡ N.height → AllElem R L → AllElem R M → AllElem R N
      → product R (product R L M) N ≡ product R L (product R M N)
  -- 1 M = M and M 1 = M
  pub one_left : (M : Matrix A) → IsShaped R.zero M → AllElem R M → product R (identity R M.height) M ≡ M
  pub one_right : (M : Matrix A) → IsShaped R.zero M → AllElem R M → product R M (identity R M.width) ≡ M
  -- 0 M = 0 and M 0 = 0
  pub zero_left : (m : ℕ) (M : Matrix A) → AllElem R M
      → product R (zero_matrix R.zero m M.height) M ≡ zero_matrix R.zero m M.width
  pub zero_right : (M : Matrix A) (n : ℕ) → AllElem R M
      → product R M (zero_matrix R.zero M.width n) ≡ zero_matrix R.zero M.height n
  -- L (M + N) = L M + L N and (L + M) N = L N + M N
  pub sum_right : (L M N : Matrix A) → L.width ≡ M.height → IsSameShape M N → AllElem R L → AllElem R M → AllElem R N
      → product R L (sum R M N) ≡ sum R (product R L M) (product R L N)
  pub sum_left : (L M N : Matrix A) → IsSameShape L M → L.width ≡ N.height → AllElem R L → AllElem R M → AllElem R N
      → product R (sum R L M) N ≡ sum R (product R L N) (product R M N)
  -- (c M) N = c (M N) and M (c N) = c (M N)
  pub scaled_left : (c : A) (M N : Matrix A) → M.width ≡ N.height → IsElem R c → AllElem R M → AllElem R N
      → product R (scaled R c M) N ≡ scaled R c (product R M N)
  pub scaled_right : (c : A) (M N : Matrix A) → M.width ≡ N.height → IsElem R c → AllElem R M → AllElem R N
      → product R M (scaled R c N) ≡ scaled R c (product R M N)
  -- (M N)^t = N^t M^t
  pub transpose : (M N : Matrix A) → M.width ≡ N.height → AllElem R M → AllElem R N
      → transposed R.zero (product R M N) ≡ product R (transposed R.zero N) (transposed R.zero M)

-- direct sums and Kronecker products: they carry identities to identities, and products to products
pub record HasBlockLaws {A : Type 0} (R : RingOn A) : Type 0 where
  -- 1 (+) 1 = 1
  pub direct_sum_one : (m n : ℕ) → direct_sum R.zero (identity R m) (identity R n) ≡ identity R (m + n)
  -- (L (+) M) (N (+) P) = L N (+) M P
  pub direct_sum_product : (L M N P : Matrix A) → L.width ≡ N.height → M.width ≡ P.height
      → AllElem R L → AllElem R M → AllElem R N → AllElem R P
      → product R (direct_sum R.zero L M) (direct_sum R.zero N P) ≡ direct_sum R.zero (product R L N) (product R M P)
  -- 1 (x) 1 = 1
  pub kronecker_one : (m n : ℕ) → kronecker R (identity R m) (identity R n) ≡ identity R (m * n)
  -- (L (x) M) (N (x) P) = L N (x) M P
  pub kronecker_product : (L M N P : Matrix A) → L.width ≡ N.height → M.width ≡ P.height
      → AllElem R L → AllElem R M → AllElem R N → AllElem R P
      → product R (kronecker R L M) (kronecker R N P) ≡ kronecker R (product R L N) (product R M P)

-- the matrices over R obey the laws of sums, of products, and of blocks
pub record HasMatrixLaws {A : Type 0} (R : RingOn A) : Type 0 where
  pub sums : HasSumLaws R
  pub products : HasProductLaws R
  pub blocks : HasBlockLaws R

-- the image of a matrix under h is that of its entries: of 0, 1, sums, multiples, products, transposed matrices and blocks
pub record CarriesMatrices {A B : Type 0} (R : RingOn A) (S : RingOn B) (h : A → B) : Type 0 where
  pub elem : (M : Matrix A) → AllElem R M → AllElem S (image h M)
  pub of_zero : (m n : ℕ) → image h (zero_matrix R.zero m n) ≡ zero_matrix S.zero m n
  pub of_one : (n : ℕ) → image h (identity R n) ≡ identity S n
  pub of_sum : (M N : Matrix A) → IsSameShape M N → AllElem R M → AllElem R N
      → image h (sum R M N) ≡ sum S (image h M) (image h N)
  pub of_scaled : (c : A) (M : Matrix A) → IsElem R c → AllElem R M → image h (scaled R c M) ≡ scaled S (h c) (image h M)
  pub of_product : (M N : Matrix A) → M.width ≡ N.height → AllElem R M → AllElem R N
      → image h (product R M N) ≡ product S (image h M) (image h N)
  pub of_transposed : (M : Matrix A) → image h (transposed R.zero M) ≡ transposed S.zero (image h M)
  pub of_direct_sum : (M N : Matrix A) → image h (direct_sum R.zero M N) ≡ direct_sum S.zero (image h M) (image h N)
  pub of_kronecker : (M N : Matrix A) → AllElem R M → AllElem R N
      → image h (kronecker R M N) ≡ kronecker S (image h M) (image h N)
