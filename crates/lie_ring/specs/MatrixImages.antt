-- The image of a matrix under a homomorphism, through each operation.
-- For proofs: no public clause cites it.
use Rattle.std.proofs.Common.{◌≡◌, ℕ, ◌+◌, ◌-◌, ◌*◌, ◌/◌, ◌%◌, ◌<◌, [], cond, Bool, true, false, ltb, eqb, refl, sym, ap, ap₂, ◌∙◌, subst, arith, get_or}
use Rattle.std.proofs.lemmas.Nat.{div_below, mod_below}
use Rattle.std.proofs.Math.ListN.{get_or-map}
use Rattle.std.specs.Prelude.{map}
use Rattle.lie_ring.specs.Rings.{RingOn, IsElem, IsRing, IsHom}
use Rattle.lie_ring.specs.SumLemmas.{sum-same, factor_positive}
use Rattle.lie_ring.specs.HomLemmas.{hom-sum}
use Rattle.lie_ring.specs.MatrixLemmas.{table-same, image-table}
use Rattle.lie_ring.specs.Matrices.{Matrix, entry, AllElem, zero_matrix, identity, sum, sum_entry, scaled, product, product_entry, transposed, direct_sum, direct_sum_entry, kronecker, kronecker_entry, image}

-- the image of one of two values
pub image-cond : {A B : Type 0} (h : A → B) (b : Bool) (x y : A) → h (cond b x y) ≡ cond b (h x) (h y)
image-cond h true x y = refl
image-cond h false x y = refl

module _ {A B : Type 0} (R : RingOn A) (S : RingOn B) (h : A → B) (ring : IsRing R) (hom : IsHom R S h) where
  -- the image of an entry is the entry of the image
  pub image-entry : (M : Matrix A) (i j : ℕ) → h (entry R.zero M i j) ≡ entry S.zero (image h M) i j
  image-entry M i j =
      sym (get_or-map h (get_or M.rows i []) j R.zero)
      ∙ ap₂ (λ row z. get_or row j z) (sym (get_or-map (λ row. map h row) M.rows i [])) hom.zero

  -- the image has elements as entries
  pub image-elem : (M : Matrix A) → AllElem R M → AllElem S (image h M)
  image-elem M p i j a b = subst (IsElem S) (image-entry M i j) (hom.elem (entry R.zero M i j) (p i j a b))

  -- the image of the matrix of zeros
  pub image-zero : (m n : ℕ) → image h (zero_matrix R.zero m n) ≡ zero_matrix S.zero m n
  image-zero m n = image-table h m n (λ _ _. R.zero) ∙ ap (λ z. zero_matrix z m n) hom.zero

  -- the image of the identity
  pub image-identity : (n : ℕ) → image h (identity R n) ≡ identity S n
  image-identity n =
      image-table h n n (λ i j. cond (eqb i j) R.one R.zero)
      ∙ table-same n n _ _ (λ i j _ _. image-cond h (eqb i j) R.one R.zero ∙ ap₂ (cond (eqb i j)) hom.one hom.zero)

  -- the image of a sum is the sum of the images
  pub image-sum : (M N : Matrix A) → M.height ≡ N.height → M.width ≡ N.width → AllElem R M → AllElem R N → image h (sum R M N) ≡ sum S (image h M) (image h N)
  image-sum M N rows cols p q =
      image-table h M.height M.width (sum_entry R M N)
      ∙ table-same M.height M.width _ (sum_entry S (image h M) (image h N)) (λ i j a b.
      hom.add (entry R.zero M i j) (entry R.zero N i j) (p i j a b) (q i j (omega arith) (omega arith))
      ∙ ap₂ S.add (image-entry M i j) (image-entry N i j))

  -- the image of a multiple
  pub image-scaled : (c : A) (M : Matrix A) → IsElem R c → AllElem R M → image h (scaled R c M) ≡ scaled S (h c) (image h M)
  image-scaled c M e p =
      image-table h M.height M.width (λ i j. R.mul c (entry R.zero M i j))
      ∙ table-same M.height M.width _ (λ i j. S.mul (h c) (entry S.zero (image h M) i j)) (λ i j a b.
      hom.mul c (entry R.zero M i j) e (p i j a b) ∙ ap (S.mul (h c)) (image-entry M i j))

  -- the image of a product is the product of the images
  pub image-product : (M N : Matrix A) → M.width ≡ N.height → AllElem R M → AllElem R N → image h (product R M N) ≡ product S (image h M) (image h N)
  image-product M N shape p q =
      let elem = λ (i j k : ℕ) (a : i < M.height) (b : j < N.width) (c : k < M.width). ring.laws.mul_elem (entry R.zero M i k) (entry R.zero N k j) (p i k a c) (q k j (omega arith) b) in
      image-table h M.height N.width (product_entry R M N)
      ∙ table-same M.height N.width _ (product_entry S (image h M) (image h N)) (λ i j a b.
      hom-sum R S h ring hom M.width (λ k. R.mul (entry R.zero M i k) (entry R.zero N k j)) (λ k c. elem i j k a b c)
      ∙ sum-same S M.width _ _ (λ k c.
      hom.mul (entry R.zero M i k) (entry R.zero N k j) (p i k a c) (q k j (omega arith) b)
      ∙ ap₂ S.mul (image-entry M i k) (image-entry N k j)))

  -- the image of the matrix with rows for columns
  pub image-transposed : (M : Matrix A) → image h (transposed R.zero M) ≡ transposed S.zero (image h M)
  image-transposed M =
      image-table h M.width M.height (λ i j. entry R.zero M j i)
      ∙ table-same M.width M.height _ (λ i j. entry S.zero (image h M) j i) (λ i j _ _. image-entry M j i)

  -- the image of a direct sum is the direct sum of the images
  pub image-direct_sum : (M N : Matrix A) → image h (direct_sum R.zero M N) ≡ direct_sum S.zero (image h M) (image h N)
  image-direct_sum M N =
      image-table h (M.height + N.height) (M.width + N.width) (direct_sum_entry R.zero M N)
      ∙ table-same (M.height + N.height) (M.width + N.width) _ (direct_sum_entry S.zero (image h M) (image h N)) (λ i j _ _.
      let low = ltb i M.height in
      let left = ltb j M.width in
      let x = entry R.zero M i j in
      let y = entry R.zero N (i - M.height) (j - M.width) in
      image-cond h low (cond left x R.zero) (cond left R.zero y)
      ∙ ap₂ (cond low)
      (image-cond h left x R.zero ∙ ap₂ (cond left) (image-entry M i j) hom.zero)
      (image-cond h left R.zero y ∙ ap₂ (cond left) hom.zero (image-entry N (i - M.height) (j - M.width))))

  -- the image of a Kronecker product is the Kronecker product of the images
  pub image-kronecker : (M N : Matrix A) → AllElem R M → AllElem R N → image h (kronecker R M N) ≡ kronecker S (image h M) (image h N)
  image-kronecker M N p q =
      image-table h (M.height * N.height) (M.width * N.width) (kronecker_entry R M N)
      ∙ table-same (M.height * N.height) (M.width * N.width) _ (kronecker_entry S (image h M) (image h N)) (λ i j a b.
      let tall = factor_positive M.height N.height i a in
      let broad = factor_positive M.width N.width j b in
      hom.mul (entry R.zero M (i / N.height) (j / N.width)) (entry R.zero N (i % N.height) (j % N.width))
      (p (i / N.height) (j / N.width) (div_below i N.height M.height tall a) (div_below j N.width M.width broad b))
      (q (i % N.height) (j % N.width) (mod_below i N.height tall) (mod_below j N.width broad))
      ∙ ap₂ S.mul (image-entry M (i / N.height) (j / N.width)) (image-entry N (i % N.height) (j % N.width)))
