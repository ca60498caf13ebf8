-- An entry of N_i over the integers is a part of X_i(t) X_-i(-1/t) X_i(t), so its place tells how far two weights are apart.
use Rattle.std.proofs.Common.{◌≡◌, ◌≢◌, ℕ, suc, ◌<◌, cond, eqb, ℤ, pos, negsuc, neg_ℤ, ◌*ℤ◌, ◌+ℤ◌, refl, sym, ap, ap₂, ◌∙◌, inr}
use Rattle.lie_ring.specs.Rings.{RingOn, IsRing, sum_below}
use Rattle.lie_ring.specs.SumLemmas.{sum-same}
use Rattle.lie_ring.specs.HomLemmas.{of_int_is_hom, hom_neg}
use Rattle.lie_ring.specs.Integers.{integers}
use Rattle.lie_ring.specs.IntegerLaws.{integers_ring}
use Rattle.lie_ring.specs.Matrices.{Matrix, entry, table, identity, product, product_entry, product_term, image, AllElem}
use Rattle.lie_ring.specs.MatrixLemmas.{entry-table, table-same, table-shaped}
use Rattle.lie_ring.specs.MatrixImages.{image-entry, image-product}
use Rattle.lie_ring.specs.MatrixLaws.{product-assoc, one-product, product-one}
use Rattle.lie_poly.specs.Polynomials.{Polynomial, monomial, negative, laurent}
use Rattle.lie_poly.specs.LaurentLaws.{laurent_ring}
use Rattle.lie_datum.specs.Vectors.{Vector, pairing}
use Rattle.lie_const.specs.Modules.{Module, dimension, divided_power, root_element, weyl_element, weyl_inverse}
use Rattle.lie_identities.proofs.SideImages.{image-root_element}
use Rattle.lie_audit.proofs.Supports.{supported-monomial, supported-negative}
use Rattle.lie_audit.proofs.Homogeneous.{IsMoved, IsHomogeneous, homogeneous-product, homogeneous-root}
use Rattle.lie_audit.proofs.PowerParts.{part_at, part-constant, part-sum, part-cond, part-found}

-- ---- N_i and N_i^-1 over another ring
module _ {A : Type 0} (R : RingOn A) (ring : IsRing R) (v : Module) where
  -- the image of X_r(a) X_s(b) X_r(a)
  image-three : (r s : ℤ) (a b : ℤ) → image R.of_int (product integers (root_element integers v r a) (product integers (root_element integers v s b) (root_element integers v r a)))
      ≡ product R (root_element R v r (R.of_int a)) (product R (root_element R v s (R.of_int b)) (root_element R v r (R.of_int a)))
  unfolding root_element
  image-three r s a b =
      let hom = of_int_is_hom R ring in
      let P = root_element integers v r a in
      let Q = root_element integers v s b in
      let to = λ (r a : ℤ). image-root_element integers R R.of_int integers_ring ring hom v r a refl in
      image-product integers R R.of_int integers_ring hom P (product integers Q P) refl (λ _ _ _ _. refl) (λ _ _ _ _. refl)
      ∙ ap₂ (product R) (to r a) (image-product integers R R.of_int integers_ring hom Q P refl (λ _ _ _ _. refl) (λ _ _ _ _. refl) ∙ ap₂ (product R) (to s b) (to r a))

  -- 1 and -1 in the ring
  one_to : R.of_int (pos 1) ≡ R.one
  one_to = ring.integers.int_one

  minus_to : R.of_int (negsuc 0) ≡ R.neg R.one
  minus_to = hom_neg integers R R.of_int integers_ring ring (of_int_is_hom R ring) (pos 1) refl ∙ ap R.neg one_to

  -- the entries of N_i and of N_i^-1
  pub weyl_element-integers : (i a b : ℕ) → entry R.zero (weyl_element R v i) a b ≡ R.of_int (entry (pos 0) (weyl_element integers v i) a b)
  unfolding weyl_element
  weyl_element-integers i a b =
      ap (λ M. entry R.zero M a b) (sym (image-three (pos i) (neg_ℤ (pos i)) (pos 1) (negsuc 0)
      ∙ ap₂ (λ x y. product R (root_element R v (pos i) x) (product R (root_element R v (neg_ℤ (pos i)) y) (root_element R v (pos i) x))) one_to minus_to))
      ∙ sym (image-entry integers R R.of_int integers_ring (of_int_is_hom R ring) (weyl_element integers v i) a b)

  pub weyl_inverse-integers : (i a b : ℕ) → entry R.zero (weyl_inverse R v i) a b ≡ R.of_int (entry (pos 0) (weyl_inverse integers v i) a b)
  unfolding weyl_inverse
  weyl_inverse-integers i a b =
      ap (λ M. entry R.zero M a b) (sym (image-three (pos i) (neg_ℤ (pos i)) (negsuc 0) (pos 1)
      ∙ ap₂ (λ x y. product R (root_element R v (pos i) x) (product R (root_element R v (neg_ℤ (pos i)) y) (root_element R v (pos i) x))) minus_to one_to))
      ∙ sym (image-entry integers R R.of_int integers_ring (of_int_is_hom R ring) (weyl_inverse integers v i) a b)

module _ (v : Module) (i : ℕ) (w : ℕ → Vector) (alpha : Vector) (m : ℕ → ℤ) where
  -- the dimension
  abbrev n : ℕ
  n = dimension v

  -- t, and -1/t
  abbrev t_up : Polynomial
  t_up = monomial (pos 1) (pos 1) (pos 0)

  abbrev t_down : Polynomial
  t_down = negative (monomial (pos 1) (neg_ℤ (pos 1)) (pos 0))

  -- X_i(p) and X_-i(p)
  abbrev X : Polynomial → Matrix Polynomial
  X p = root_element laurent v (pos i) p

  abbrev Y : Polynomial → Matrix Polynomial
  Y p = root_element laurent v (neg_ℤ (pos i)) p

  -- X_i(t) X_-i(-1/t) X_i(t)
  three : Matrix Polynomial
  three = product laurent (X t_up) (product laurent (Y t_down) (X t_up))

  -- each polynomial is an element
  all_elem : (M : Matrix Polynomial) → AllElem laurent M
  all_elem M a b _ _ = refl

  -- E_i^(k) moves weights by k alpha, and E_-i^(k) by -k alpha
  pub record IsGradedAt : Type 0 where
    pub up : (k a b : ℕ) → a < n → b < n → entry (pos 0) (divided_power v (pos i) (suc k)) a b ≢ pos 0 → IsMoved (w a) (w b) (pos (suc k) *ℤ pos 1) alpha
    pub down : (k a b : ℕ) → a < n → b < n → entry (pos 0) (divided_power v (neg_ℤ (pos i)) (suc k)) a b ≢ pos 0 → IsMoved (w a) (w b) (pos (suc k) *ℤ negsuc 0) alpha

  -- the left side tells by the exponent of t how far weights are apart
  three-homogeneous : IsGradedAt → IsHomogeneous n w alpha three
  unfolding three root_element
  three-homogeneous graded =
      let up_t = supported-monomial (λ d. d.0 ≡ pos 1) (pos 1) (pos 1) (pos 0) (inr refl) in
      let down_t = supported-negative (λ d. d.0 ≡ negsuc 0) (monomial (pos 1) (neg_ℤ (pos 1)) (pos 0)) (supported-monomial (λ d. d.0 ≡ negsuc 0) (pos 1) (neg_ℤ (pos 1)) (pos 0) (inr refl)) in
      let x = homogeneous-root (dimension v) w alpha v (pos i) (pos 1) t_up refl up_t graded.up in
      let y = homogeneous-root (dimension v) w alpha v (neg_ℤ (pos i)) (negsuc 0) t_down refl down_t graded.down in
      homogeneous-product (dimension v) w alpha (X t_up) (product laurent (Y t_down) (X t_up)) refl refl refl x
      (homogeneous-product (dimension v) w alpha (Y t_down) (X t_up) refl refl refl y x)

  -- the powers t^m on the diagonal
  abbrev pub torus : Matrix Polynomial
  torus = table n n (λ a b. cond (eqb a b) (monomial (pos 1) (m a) (pos 0)) laurent.zero)

  -- S6: X_i(t) X_-i(-1/t) X_i(t) X_i(-1) X_-i(1) X_i(-1) is the torus element
  abbrev pub IsS6 : Type 0
  IsS6 = product laurent (X t_up) (product laurent (Y t_down) (product laurent (X t_up)
      (product laurent (X (laurent.neg laurent.one)) (product laurent (Y laurent.one) (product laurent (X (laurent.neg laurent.one)) (identity laurent n)))))) ≡ torus

  -- the same, with the products put together
  s6_three : IsS6 → product laurent three (weyl_inverse laurent v i) ≡ torus
  unfolding three root_element weyl_inverse
  s6_three s6 =
      let A = X t_up in
      let B = Y t_down in
      let C = weyl_inverse laurent v i in
      let c = all_elem C in
      product-assoc laurent laurent_ring A (product laurent B A) C refl refl (all_elem A) (all_elem (product laurent B A)) c
      ∙ ap (product laurent A) (product-assoc laurent laurent_ring B A C refl refl (all_elem B) (all_elem A) c)
      ∙ ap (λ Z. product laurent A (product laurent B (product laurent A (product laurent (X (laurent.neg laurent.one)) (product laurent (Y laurent.one) Z)))))
      (sym (product-one laurent laurent_ring (X (laurent.neg laurent.one)) (table-shaped laurent.zero n n _) (all_elem (X (laurent.neg laurent.one)))))
      ∙ s6

  -- the part of an entry of the left side in which t has the exponent that the row's torus entry has
  part_of : ℕ → ℕ → ℤ
  part_of a k = part_at (m a) (entry laurent.zero three a k)

  -- the entries of N_i^-1
  integer_inverse : ℕ → ℕ → ℤ
  integer_inverse k c = entry (pos 0) (weyl_inverse integers v i) k c

  -- the parts times N_i^-1 are a row of the identity
  parts-inverse : IsS6 → (a c : ℕ) → a < n → c < n → sum_below integers n (λ k. part_of a k *ℤ integer_inverse k c) ≡ cond (eqb a c) (pos 1) (pos 0)
  unfolding part_of integer_inverse three root_element weyl_inverse
  parts-inverse s6 a c p q =
      let whole = s6_three s6 in
      let C = weyl_inverse laurent v i in
      sym (ap (part_at (m a)) (entry-table laurent.zero (dimension v) (dimension v) (product_entry laurent three C) a c p q)
      ∙ part-sum (m a) (dimension v) (product_term laurent three C a c)
      ∙ sum-same integers (dimension v) _ (λ k. part_of a k *ℤ integer_inverse k c) (λ k _.
      ap (λ z. part_at (m a) (laurent.mul (entry laurent.zero three a k) z)) (weyl_inverse-integers laurent laurent_ring v i k c)
      ∙ part-constant (m a) (entry laurent.zero three a k) (integer_inverse k c)))
      ∙ ap (λ M. part_at (m a) (entry laurent.zero M a c)) whole
      ∙ ap (part_at (m a)) (entry-table laurent.zero (dimension v) (dimension v) (λ x y. cond (eqb x y) (monomial (pos 1) (m x) (pos 0)) laurent.zero) a c p q)
      ∙ part-cond (m a) (eqb a c)

  -- so N_i is the matrix of the parts
  parts : IsS6 → product integers (weyl_inverse integers v i) (weyl_element integers v i) ≡ identity integers n → weyl_element integers v i ≡ table n n part_of
  unfolding integer_inverse weyl_inverse weyl_element root_element
  parts s6 one =
      let L = table n n part_of in
      let I = weyl_inverse integers v i in
      let N = weyl_element integers v i in
      let whole : product integers L I ≡ identity integers n =
      table-same n n (product_entry integers L I) (λ a c. cond (eqb a c) (pos 1) (pos 0)) (λ a c p q.
      sum-same integers n _ (λ k. part_of a k *ℤ integer_inverse k c) (λ k r. ap (λ x. x *ℤ integer_inverse k c) (entry-table (pos 0) n n part_of a k p r))
      ∙ parts-inverse s6 a c p q) in
      sym (one-product integers integers_ring N (table-shaped (pos 0) n n _) (λ _ _ _ _. refl))
      ∙ ap (λ M. product integers M N) (sym whole)
      ∙ product-assoc integers integers_ring L I N refl refl (λ _ _ _ _. refl) (λ _ _ _ _. refl) (λ _ _ _ _. refl)
      ∙ ap (product integers L) one
      ∙ product-one integers integers_ring L (table-shaped (pos 0) n n part_of) (λ _ _ _ _. refl)

  -- N_i sends the weight of b to that of a: they differ by m_a alpha
  pub sends : IsGradedAt → IsS6 → product integers (weyl_inverse integers v i) (weyl_element integers v i) ≡ identity integers n
      → (a b : ℕ) → a < n → b < n → entry (pos 0) (weyl_element integers v i) a b ≢ pos 0 → IsMoved (w a) (w b) (m a) alpha
  unfolding part_of
  sends graded s6 one a b p q apart c =
      part-found (m a) (pairing (w a) c) (pairing (w b) c +ℤ (m a *ℤ pairing alpha c)) (λ d. IsMoved (w a) (w b) d.0 alpha) (entry laurent.zero three a b)
      (three-homogeneous graded a b p q)
      (λ d s at. s c ∙ ap (λ k. pairing (w b) c +ℤ (k *ℤ pairing alpha c)) at)
      (λ zero_part. apart (ap (λ M. entry (pos 0) M a b) (parts s6 one) ∙ entry-table (pos 0) n n part_of a b p q ∙ zero_part))
