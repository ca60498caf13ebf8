-- The laws of matrices, gathered.
use Rattle.std.proofs.Common.{refl}
use Rattle.lie_ring.specs.Rings.{RingOn, IsRing, IsHom}
use Rattle.lie_ring.specs.MatrixAlgebra.{HasSumLaws, HasProductLaws, HasBlockLaws, HasMatrixLaws, CarriesMatrices}
use Rattle.lie_ring.specs.MatrixLaws.{product-assoc, one-product, product-one, transposed-product, zero-product, product-zero, matrix_sum-assoc, matrix_sum-comm, matrix_sum-zero, product-sum, sum-product_right, scaled-product, product-scaled, direct_sum-identity, product-direct_sum, kronecker-identity, product-kronecker}
use Rattle.lie_ring.specs.MatrixImages.{image-elem, image-zero, image-identity, image-sum, image-scaled, image-product, image-transposed, image-direct_sum, image-kronecker}

module _ {A : Type 0} (R : RingOn A) (ring : IsRing R) where
  -- sums
  sum_laws : HasSumLaws R
  sum_laws = record {
    assoc = λ L M N m n. matrix_sum-assoc R ring L M N m.height m.width n.height n.width;
    comm = λ M N n. matrix_sum-comm R ring M N n.height n.width;
    zero = matrix_sum-zero R ring;
  }

  -- products
  product_laws : HasProductLaws R
  product_laws = record {
    assoc = product-assoc R ring;
    one_left = one-product R ring;
    one_right = product-one R ring;
    zero_left = λ m M. zero-product R ring m M.height M refl;
    zero_right = product-zero R ring;
    sum_right = λ L M N shape n. product-sum R ring L M N shape n.height n.width;
    sum_left = λ L M N m. sum-product_right R ring L M N m.height m.width;
    scaled_left = scaled-product R ring;
    scaled_right = product-scaled R ring;
    transpose = transposed-product R ring;
  }

  -- direct sums and Kronecker products
  block_laws : HasBlockLaws R
  block_laws = record {
    direct_sum_one = direct_sum-identity R ring;
    direct_sum_product = product-direct_sum R ring;
    kronecker_one = kronecker-identity R ring;
    kronecker_product = product-kronecker R ring;
  }

  -- all of them
  pub matrix_laws-of : HasMatrixLaws R
  matrix_laws-of = record { sums = sum_laws; products = product_laws; blocks = block_laws }

-- a homomorphism carries each operation on matrices to the same operation
pub matrix_images-of : {A B : Type 0} (R : RingOn A) (S : RingOn B) (h : A → B) → IsRing R → IsHom R S h → CarriesMatrices R S h
matrix_images-of R S h ring hom = record {
  elem = image-elem R S h ring hom;
  of_zero = image-zero R S h ring hom;
  of_one = image-identity R S h ring hom;
  of_sum = λ M N n. image-sum R S h ring hom M N n.height n.width;
  of_scaled = image-scaled R S h ring hom;
  of_product = image-product R S h ring hom;
  of_transposed = image-transposed R S h ring hom;
  of_direct_sum = image-direct_sum R S h ring hom;
  of_kronecker = image-kronecker R S h ring hom;
}
