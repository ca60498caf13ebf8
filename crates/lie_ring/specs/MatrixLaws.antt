-- The laws of matrices over a ring: products, the identity, direct sums, Kronecker products, sums.
-- For proofs: no public clause cites it.
-- Source: Lang, Algebra, XIII.1 (matrices over a commutative ring).
use Rattle.std.proofs.Common.{◌≡◌, ◌≢◌, ℕ, ◌+◌, ◌-◌, ◌*◌, ◌/◌, ◌%◌, ◌<◌, cond, eqb, refl, sym, ap, ap₂, ◌∙◌, inl, inr, arith}
use Rattle.std.proofs.lemmas.Nat.{div_below, mod_below, div-add-mod'}
use Rattle.std.proofs.lemmas.Bool.{cases_eq, eq-eqb, ne_eqb, lt-ltb, le-ltb}
use Rattle.lie_ring.specs.Rings.{RingOn, IsElem, IsRing, sum_below}
use Rattle.lie_ring.specs.RingLemmas.{zero_add, zero_mul, mul_zero, one_mul, mul_swap, mul_middle, add_mul}
use Rattle.lie_ring.specs.SumLemmas.{sum-same, sum-zeros, sum-only, sum-add, mul-sum, sum-split, sum-pairs, sum-product, sum_products-assoc, factor_positive}
use Rattle.lie_ring.specs.MatrixLemmas.{entry-table, table-same, blocks-same}
use Rattle.lie_ring.specs.MatrixElements.{identity-elem, product_term-elem, product_entry-elem, direct_sum-elem}
use Rattle.lie_ring.specs.Matrices.{Matrix, table, entry, AllElem, IsShaped, zero_matrix, identity, sum, sum_entry, scaled, product, product_entry, product_term, transposed, direct_sum, direct_sum_entry, kronecker, kronecker_entry}

module _ {A : Type 0} (z : A) (M N : Matrix A) where
  -- the first block of a direct sum
  pub direct_sum-first : (i j : ℕ) → i < M.height → j < M.width → direct_sum_entry z M N i j ≡ entry z M i j
  direct_sum-first i j a b = ap₂ (λ s t. cond s (cond t (entry z M i j) z) (cond t z (entry z N (i - M.height) (j - M.width)))) (lt-ltb i M.height a) (lt-ltb j M.width b)

  -- the zeros on the right of it
  pub direct_sum-right : (i j : ℕ) → i < M.height → direct_sum_entry z M N i (M.width + j) ≡ z
  direct_sum-right i j a = ap₂ (λ s t. cond s (cond t (entry z M i (M.width + j)) z) (cond t z (entry z N (i - M.height) ((M.width + j) - M.width)))) (lt-ltb i M.height a) (le-ltb (M.width + j) M.width (omega arith))

  -- the zeros below it
  pub direct_sum-below : (i j : ℕ) → j < M.width → direct_sum_entry z M N (M.height + i) j ≡ z
  direct_sum-below i j b = ap₂ (λ s t. cond s (cond t (entry z M (M.height + i) j) z) (cond t z (entry z N ((M.height + i) - M.height) (j - M.width)))) (le-ltb (M.height + i) M.height (omega arith)) (lt-ltb j M.width b)

  -- the second block
  pub direct_sum-last : (i j : ℕ) → direct_sum_entry z M N (M.height + i) (M.width + j) ≡ entry z N i j
  direct_sum-last i j =
      ap₂ (λ s t. cond s (cond t (entry z M (M.height + i) (M.width + j)) z) (cond t z (entry z N ((M.height + i) - M.height) ((M.width + j) - M.width)))) (le-ltb (M.height + i) M.height (omega arith)) (le-ltb (M.width + j) M.width (omega arith))
      ∙ ap₂ (entry z N) (let e : (M.height + i) - M.height ≡ i = omega arith in e) (let e : (M.width + j) - M.width ≡ j = omega arith in e)

module _ {A : Type 0} (R : RingOn A) (ring : IsRing R) where
  -- ---- the product and the identity
  -- (L M) N = L (M N)
  pub product-assoc : (L M N : Matrix A) → L.width ≡ M.height → M.width ≡ N.height → AllElem R L → AllElem R M → AllElem R N → product R (product R L M) N ≡ product R L (product R M N)
  product-assoc L M N first second p q r = table-same L.height N.width (product_entry R (product R L M) N) (product_entry R L (product R M N)) (λ i j a b.
      sum-same R M.width _ (λ k. R.mul (sum_below R L.width (λ l. R.mul (entry R.zero L i l) (entry R.zero M l k))) (entry R.zero N k j)) (λ k c.
      ap (λ e. R.mul e (entry R.zero N k j)) (entry-table R.zero L.height M.width (product_entry R L M) i k a c))
      ∙ sum_products-assoc R ring.laws L.width M.width (entry R.zero L i) (entry R.zero M) (λ k. entry R.zero N k j)
      (λ l d. p i l a d) (λ l k d c. q l k (omega (arith, first, d)) c) (λ k c. r k j (omega (arith, second, c)) b)
      ∙ sum-same R L.width _ _ (λ l d. ap (R.mul (entry R.zero L i l)) (sym (entry-table R.zero M.height N.width (product_entry R M N) l j (omega (arith, first, d)) b))))

  -- the diagonal of the identity
  identity-same : (n i : ℕ) → i < n → entry R.zero (identity R n) i i ≡ R.one
  identity-same n i a = entry-table R.zero n n (λ i j. cond (eqb i j) R.one R.zero) i i a a ∙ ap (λ b. cond b R.one R.zero) (eq-eqb i i refl)

  -- beside the diagonal
  identity-other : (n i j : ℕ) → i < n → j < n → i ≢ j → entry R.zero (identity R n) i j ≡ R.zero
  identity-other n i j a b h = entry-table R.zero n n (λ i j. cond (eqb i j) R.one R.zero) i j a b ∙ ap (λ b. cond b R.one R.zero) (ne_eqb i j h)

  -- 1 M = M
  pub one-product : (M : Matrix A) → IsShaped R.zero M → AllElem R M → product R (identity R M.height) M ≡ M
  one-product M shaped p =
      let term = product_term R (identity R M.height) M in
      table-same M.height M.width (product_entry R (identity R M.height) M) (entry R.zero M) (λ i j a b.
      sum-only R ring.laws M.height i (term i j) a
      (λ k c. product_term-elem R ring (identity R M.height) M refl (identity-elem R ring M.height) p i j k a b c)
      (λ k c apart. ap (λ e. R.mul e (entry R.zero M k j)) (identity-other M.height i k a c (λ e. apart (sym e))) ∙ zero_mul R ring.laws (entry R.zero M k j) (p k j c b))
      ∙ ap (λ e. R.mul e (entry R.zero M i j)) (identity-same M.height i a) ∙ one_mul R ring.laws (entry R.zero M i j) (p i j a b))
      ∙ sym shaped

  -- M 1 = M
  pub product-one : (M : Matrix A) → IsShaped R.zero M → AllElem R M → product R M (identity R M.width) ≡ M
  product-one M shaped p =
      let term = product_term R M (identity R M.width) in
      table-same M.height M.width (product_entry R M (identity R M.width)) (entry R.zero M) (λ i j a b.
      sum-only R ring.laws M.width j (term i j) b
      (λ k c. product_term-elem R ring M (identity R M.width) refl p (identity-elem R ring M.width) i j k a b c)
      (λ k c apart. ap (R.mul (entry R.zero M i k)) (identity-other M.width k j c b apart) ∙ mul_zero R ring.laws (entry R.zero M i k) (p i k a c))
      ∙ ap (R.mul (entry R.zero M i j)) (identity-same M.width j b) ∙ ring.laws.mul_one (entry R.zero M i j) (p i j a b))
      ∙ sym shaped

  -- the transposed product has the transposed factors, the second first
  pub transposed-product : (M N : Matrix A) → M.width ≡ N.height → AllElem R M → AllElem R N → transposed R.zero (product R M N) ≡ product R (transposed R.zero N) (transposed R.zero M)
  transposed-product M N shape p q = table-same N.width M.height (λ i j. entry R.zero (product R M N) j i) (product_entry R (transposed R.zero N) (transposed R.zero M)) (λ i j a b.
      entry-table R.zero M.height N.width (product_entry R M N) j i b a
      ∙ ap (λ n. sum_below R n (product_term R M N j i)) shape
      ∙ sum-same R N.height (product_term R M N j i) (product_term R (transposed R.zero N) (transposed R.zero M) i j) (λ k c.
      ring.laws.mul_comm (entry R.zero M j k) (entry R.zero N k i) (p j k b (omega (arith, shape, c))) (q k i c a)
      ∙ ap₂ R.mul (sym (entry-table R.zero N.width N.height (λ i j. entry R.zero N j i) i k a c)) (sym (entry-table R.zero M.width M.height (λ i j. entry R.zero M j i) k j (omega (arith, shape, c)) b))))

  -- 0 M = 0
  pub zero-product : (m n : ℕ) (M : Matrix A) → n ≡ M.height → AllElem R M → product R (zero_matrix R.zero m n) M ≡ zero_matrix R.zero m M.width
  zero-product m n M shape p = table-same m M.width (product_entry R (zero_matrix R.zero m n) M) (λ _ _. R.zero) (λ i j a b.
      sum-zeros R ring.laws n (product_term R (zero_matrix R.zero m n) M i j) (λ k c.
      ap (λ e. R.mul e (entry R.zero M k j)) (entry-table R.zero m n (λ _ _. R.zero) i k a c) ∙ zero_mul R ring.laws (entry R.zero M k j) (p k j (omega (arith, shape, c)) b)))

  -- M 0 = 0
  pub product-zero : (M : Matrix A) (n : ℕ) → AllElem R M → product R M (zero_matrix R.zero M.width n) ≡ zero_matrix R.zero M.height n
  product-zero M n p = table-same M.height n (product_entry R M (zero_matrix R.zero M.width n)) (λ _ _. R.zero) (λ i j a b.
      sum-zeros R ring.laws M.width (product_term R M (zero_matrix R.zero M.width n) i j) (λ k c.
      ap (R.mul (entry R.zero M i k)) (entry-table R.zero M.width n (λ _ _. R.zero) k j c b) ∙ mul_zero R ring.laws (entry R.zero M i k) (p i k a c)))

  -- (L + M) + N = L + (M + N)
  pub matrix_sum-assoc : (L M N : Matrix A) → L.height ≡ M.height → L.width ≡ M.width → L.height ≡ N.height → L.width ≡ N.width → AllElem R L → AllElem R M → AllElem R N → sum R (sum R L M) N ≡ sum R L (sum R M N)
  matrix_sum-assoc L M N rows cols rows' cols' p q r = table-same L.height L.width (sum_entry R (sum R L M) N) (sum_entry R L (sum R M N)) (λ i j a b.
      let c : i < M.height = omega (arith, rows, a) in
      let d : j < M.width = omega (arith, cols, b) in
      ap (λ x. R.add x (entry R.zero N i j)) (entry-table R.zero L.height L.width (sum_entry R L M) i j a b)
      ∙ ring.laws.add_assoc (entry R.zero L i j) (entry R.zero M i j) (entry R.zero N i j) (p i j a b) (q i j c d) (r i j (omega (arith, rows', a)) (omega (arith, cols', b)))
      ∙ ap (R.add (entry R.zero L i j)) (sym (entry-table R.zero M.height M.width (sum_entry R M N) i j c d)))

  -- M + N = N + M
  pub matrix_sum-comm : (M N : Matrix A) → M.height ≡ N.height → M.width ≡ N.width → AllElem R M → AllElem R N → sum R M N ≡ sum R N M
  matrix_sum-comm M N rows cols p q =
      table-same M.height M.width (sum_entry R M N) (sum_entry R N M) (λ i j a b.
      ring.laws.add_comm (entry R.zero M i j) (entry R.zero N i j) (p i j a b) (q i j (omega (arith, rows, a)) (omega (arith, cols, b))))
      ∙ ap₂ (λ h w. table h w (sum_entry R N M)) rows cols

  -- M + 0 = M
  pub matrix_sum-zero : (M : Matrix A) → IsShaped R.zero M → AllElem R M → sum R M (zero_matrix R.zero M.height M.width) ≡ M
  matrix_sum-zero M shaped p =
      table-same M.height M.width (sum_entry R M (zero_matrix R.zero M.height M.width)) (entry R.zero M) (λ i j a b.
      ap (R.add (entry R.zero M i j)) (entry-table R.zero M.height M.width (λ _ _. R.zero) i j a b) ∙ ring.laws.add_zero (entry R.zero M i j) (p i j a b))
      ∙ sym shaped

  -- L (M + N) = L M + L N
  pub product-sum : (L M N : Matrix A) → L.width ≡ M.height → M.height ≡ N.height → M.width ≡ N.width → AllElem R L → AllElem R M → AllElem R N → product R L (sum R M N) ≡ sum R (product R L M) (product R L N)
  product-sum L M N shape rows cols p q r = table-same L.height M.width (product_entry R L (sum R M N)) (sum_entry R (product R L M) (product R L N)) (λ i j a b.
      sum-same R L.width (product_term R L (sum R M N) i j) (λ k. R.add (product_term R L M i j k) (product_term R L N i j k)) (λ k c.
      ap (R.mul (entry R.zero L i k)) (entry-table R.zero M.height M.width (sum_entry R M N) k j (omega (arith, shape, c)) b)
      ∙ ring.laws.mul_add (entry R.zero L i k) (entry R.zero M k j) (entry R.zero N k j) (p i k a c) (q k j (omega (arith, shape, c)) b) (r k j (omega (arith, shape, rows, c)) (omega (arith, cols, b))))
      ∙ sum-add R ring.laws L.width (product_term R L M i j) (product_term R L N i j)
      (λ k c. product_term-elem R ring L M shape p q i j k a b c) (λ k c. product_term-elem R ring L N (shape ∙ rows) p r i j k a (omega (arith, cols, b)) c)
      ∙ ap₂ R.add (sym (entry-table R.zero L.height M.width (product_entry R L M) i j a b)) (sym (entry-table R.zero L.height N.width (product_entry R L N) i j a (omega (arith, cols, b)))))

  -- (L + M) N = L N + M N
  pub sum-product_right : (L M N : Matrix A) → L.height ≡ M.height → L.width ≡ M.width → L.width ≡ N.height → AllElem R L → AllElem R M → AllElem R N → product R (sum R L M) N ≡ sum R (product R L N) (product R M N)
  sum-product_right L M N rows cols shape p q r = table-same L.height N.width (product_entry R (sum R L M) N) (sum_entry R (product R L N) (product R M N)) (λ i j a b.
      sum-same R L.width (product_term R (sum R L M) N i j) (λ k. R.add (product_term R L N i j k) (product_term R M N i j k)) (λ k c.
      ap (λ e. R.mul e (entry R.zero N k j)) (entry-table R.zero L.height L.width (sum_entry R L M) i k a c)
      ∙ add_mul R ring.laws (entry R.zero L i k) (entry R.zero M i k) (entry R.zero N k j) (p i k a c) (q i k (omega (arith, rows, a)) (omega (arith, cols, c))) (r k j (omega (arith, shape, c)) b))
      ∙ sum-add R ring.laws L.width (product_term R L N i j) (product_term R M N i j)
      (λ k c. product_term-elem R ring L N shape p r i j k a b c) (λ k c. product_term-elem R ring M N (sym cols ∙ shape) q r i j k (omega (arith, rows, a)) b (omega (arith, cols, c)))
      ∙ ap₂ R.add (sym (entry-table R.zero L.height N.width (product_entry R L N) i j a b))
      (ap (λ n. sum_below R n (product_term R M N i j)) cols ∙ sym (entry-table R.zero M.height N.width (product_entry R M N) i j (omega (arith, rows, a)) b)))

  -- (c M) N = c (M N)
  pub scaled-product : (c : A) (M N : Matrix A) → M.width ≡ N.height → IsElem R c → AllElem R M → AllElem R N → product R (scaled R c M) N ≡ scaled R c (product R M N)
  scaled-product c M N shape e p q = table-same M.height N.width (product_entry R (scaled R c M) N) (λ i j. R.mul c (entry R.zero (product R M N) i j)) (λ i j a b.
      sum-same R M.width (product_term R (scaled R c M) N i j) (λ k. R.mul c (product_term R M N i j k)) (λ k d.
      ap (λ x. R.mul x (entry R.zero N k j)) (entry-table R.zero M.height M.width (λ i j. R.mul c (entry R.zero M i j)) i k a d)
      ∙ ring.laws.mul_assoc c (entry R.zero M i k) (entry R.zero N k j) e (p i k a d) (q k j (omega (arith, shape, d)) b))
      ∙ sym (mul-sum R ring.laws M.width c (product_term R M N i j) e (λ k d. product_term-elem R ring M N shape p q i j k a b d))
      ∙ ap (R.mul c) (sym (entry-table R.zero M.height N.width (product_entry R M N) i j a b)))

  -- M (c N) = c (M N)
  pub product-scaled : (c : A) (M N : Matrix A) → M.width ≡ N.height → IsElem R c → AllElem R M → AllElem R N → product R M (scaled R c N) ≡ scaled R c (product R M N)
  product-scaled c M N shape e p q = table-same M.height N.width (product_entry R M (scaled R c N)) (λ i j. R.mul c (entry R.zero (product R M N) i j)) (λ i j a b.
      sum-same R M.width (product_term R M (scaled R c N) i j) (λ k. R.mul c (product_term R M N i j k)) (λ k d.
      let f : k < N.height = omega (arith, shape, d) in
      ap (R.mul (entry R.zero M i k)) (entry-table R.zero N.height N.width (λ i j. R.mul c (entry R.zero N i j)) k j f b)
      ∙ mul_swap R ring.laws (entry R.zero M i k) c (entry R.zero N k j) (p i k a d) e (q k j f b))
      ∙ sym (mul-sum R ring.laws M.width c (product_term R M N i j) e (λ k d. product_term-elem R ring M N shape p q i j k a b d))
      ∙ ap (R.mul c) (sym (entry-table R.zero M.height N.width (product_entry R M N) i j a b)))

  -- ---- direct sums
  -- the direct sum of identities
  pub direct_sum-identity : (m n : ℕ) → direct_sum R.zero (identity R m) (identity R n) ≡ identity R (m + n)
  direct_sum-identity m n =
      let one_at = λ (i j : ℕ). cond (eqb i j) R.one R.zero in
      let none = λ (i j : ℕ) (h : i ≢ j). ap (λ b. cond b R.one R.zero) (ne_eqb i j h) in
      let D = identity R m in
      let E = identity R n in
      blocks-same m n m n (direct_sum_entry R.zero D E) one_at
      (λ i j a b. direct_sum-first R.zero D E i j a b ∙ entry-table R.zero m m one_at i j a b)
      (λ i j a b. direct_sum-right R.zero D E i j a ∙ sym (none i (m + j) (omega (arith, a))))
      (λ i j a b. direct_sum-below R.zero D E i j b ∙ sym (none (m + i) j (omega (arith, b))))
      (λ i j a b. direct_sum-last R.zero D E i j ∙ entry-table R.zero n n one_at i j a b ∙ elim (cases_eq i j) [
        | inl e ↦ ap (λ b. cond b R.one R.zero) (eq-eqb i j e ∙ sym (eq-eqb (m + i) (m + j) (ap (λ k. m + k) e)))
        | inr h ↦ none i j h ∙ sym (none (m + i) (m + j) (λ e. h (omega (arith, e))))
      ])

  -- the product of direct sums is the direct sum of the products
  pub product-direct_sum : (L M N P : Matrix A) → L.width ≡ N.height → M.width ≡ P.height → AllElem R L → AllElem R M → AllElem R N → AllElem R P
      → product R (direct_sum R.zero L M) (direct_sum R.zero N P) ≡ direct_sum R.zero (product R L N) (product R M P)
  product-direct_sum L M N P first second p q r s =
      let laws = ring.laws in
      let z = R.zero in
      let D = direct_sum z L M in
      let E = direct_sum z N P in
      let D_elem = direct_sum-elem R ring L M p q in
      let E_elem = direct_sum-elem R ring N P r s in
      let shape : L.width + M.width ≡ N.height + P.height = ap₂ ◌+◌ first second in
      let from_D = entry-table z (L.height + M.height) (L.width + M.width) (direct_sum_entry z L M) in
      let from_E = entry-table z (N.height + P.height) (N.width + P.width) (direct_sum_entry z N P) in
      let parts = λ (i j : ℕ) (a : i < L.height + M.height) (b : j < N.width + P.width).
      sum-split R laws L.width M.width (product_term R D E i j) (λ k c. product_term-elem R ring D E shape D_elem E_elem i j k a b c) in
      let no_left = λ (i j k : ℕ) (h : entry z D i k ≡ z) (b : j < N.width + P.width) (c : k < L.width + M.width).
      ap (λ e. R.mul e (entry z E k j)) h ∙ zero_mul R laws (entry z E k j) (E_elem k j (omega (arith, shape, c)) b) in
      let no_right = λ (i j k : ℕ) (h : entry z E k j ≡ z) (a : i < L.height + M.height) (c : k < L.width + M.width).
      ap (R.mul (entry z D i k)) h ∙ mul_zero R laws (entry z D i k) (D_elem i k a c) in
      blocks-same L.height M.height N.width P.width (product_entry R D E) (direct_sum_entry z (product R L N) (product R M P))
      (λ i j a b.
      parts i j (omega (arith, a)) (omega (arith, b))
      ∙ ap₂ R.add
      (sum-same R L.width (product_term R D E i j) (product_term R L N i j) (λ k c. ap₂ R.mul
      (from_D i k (omega (arith, a)) (omega (arith, c)) ∙ direct_sum-first z L M i k a c)
      (from_E k j (omega (arith, c, first)) (omega (arith, b)) ∙ direct_sum-first z N P k j (omega (arith, c, first)) b)))
      (sum-zeros R laws M.width (λ k. product_term R D E i j (L.width + k)) (λ k c. no_left i j (L.width + k) (from_D i (L.width + k) (omega (arith, a)) (omega (arith, c)) ∙ direct_sum-right z L M i k a) (omega (arith, b)) (omega (arith, c))))
      ∙ laws.add_zero (product_entry R L N i j) (product_entry-elem R ring L N first p r i j a b)
      ∙ sym (direct_sum-first z (product R L N) (product R M P) i j a b ∙ entry-table z L.height N.width (product_entry R L N) i j a b))
      (λ i j a b.
      parts i (N.width + j) (omega (arith, a)) (omega (arith, b))
      ∙ ap₂ R.add
      (sum-zeros R laws L.width (product_term R D E i (N.width + j)) (λ k c. no_right i (N.width + j) k (from_E k (N.width + j) (omega (arith, c, first)) (omega (arith, b)) ∙ direct_sum-right z N P k j (omega (arith, c, first))) (omega (arith, a)) (omega (arith, c))))
      (sum-zeros R laws M.width (λ k. product_term R D E i (N.width + j) (L.width + k)) (λ k c. no_left i (N.width + j) (L.width + k) (from_D i (L.width + k) (omega (arith, a)) (omega (arith, c)) ∙ direct_sum-right z L M i k a) (omega (arith, b)) (omega (arith, c))))
      ∙ laws.add_zero z laws.zero_elem
      ∙ sym (direct_sum-right z (product R L N) (product R M P) i j a))
      (λ i j a b.
      parts (L.height + i) j (omega (arith, a)) (omega (arith, b))
      ∙ ap₂ R.add
      (sum-zeros R laws L.width (product_term R D E (L.height + i) j) (λ k c. no_left (L.height + i) j k (from_D (L.height + i) k (omega (arith, a)) (omega (arith, c)) ∙ direct_sum-below z L M i k c) (omega (arith, b)) (omega (arith, c))))
      (sum-zeros R laws M.width (λ k. product_term R D E (L.height + i) j (L.width + k)) (λ k c. no_right (L.height + i) j (L.width + k)
      (ap (λ x. entry z E (x + k) j) first ∙ from_E (N.height + k) j (omega (arith, c, second)) (omega (arith, b)) ∙ direct_sum-below z N P k j b) (omega (arith, a)) (omega (arith, c))))
      ∙ laws.add_zero z laws.zero_elem
      ∙ sym (direct_sum-below z (product R L N) (product R M P) i j b))
      (λ i j a b.
      parts (L.height + i) (N.width + j) (omega (arith, a)) (omega (arith, b))
      ∙ ap₂ R.add
      (sum-zeros R laws L.width (product_term R D E (L.height + i) (N.width + j)) (λ k c. no_left (L.height + i) (N.width + j) k (from_D (L.height + i) k (omega (arith, a)) (omega (arith, c)) ∙ direct_sum-below z L M i k c) (omega (arith, b)) (omega (arith, c))))
      (sum-same R M.width (λ k. product_term R D E (L.height + i) (N.width + j) (L.width + k)) (product_term R M P i j) (λ k c. ap₂ R.mul
      (from_D (L.height + i) (L.width + k) (omega (arith, a)) (omega (arith, c)) ∙ direct_sum-last z L M i k)
      (ap (λ x. entry z E (x + k) (N.width + j)) first ∙ from_E (N.height + k) (N.width + j) (omega (arith, c, second)) (omega (arith, b)) ∙ direct_sum-last z N P k j)))
      ∙ zero_add R laws (product_entry R M P i j) (product_entry-elem R ring M P second q s i j a b)
      ∙ sym (direct_sum-last z (product R L N) (product R M P) i j ∙ entry-table z M.height P.width (product_entry R M P) i j a b))

  -- ---- Kronecker products
  -- the Kronecker product of identities
  pub kronecker-identity : (m n : ℕ) → kronecker R (identity R m) (identity R n) ≡ identity R (m * n)
  kronecker-identity m n = table-same (m * n) (m * n) (kronecker_entry R (identity R m) (identity R n)) (λ i j. cond (eqb i j) R.one R.zero) (λ i j a b.
      let laws = ring.laws in
      let D = identity R m in
      let E = identity R n in
      let some = factor_positive m n i a in
      let i' = div_below i n m some a in
      let j' = div_below j n m some b in
      let i'' = mod_below i n some in
      let j'' = mod_below j n some in
      let D_elem = identity-elem R ring m (i / n) (j / n) i' j' in
      let E_elem = identity-elem R ring n (i % n) (j % n) i'' j'' in
      elim (cases_eq i j) [
        | inl e ↦
            ap₂ R.mul (ap (λ k. entry R.zero D (i / n) (k / n)) (sym e) ∙ identity-same m (i / n) i') (ap (λ k. entry R.zero E (i % n) (k % n)) (sym e) ∙ identity-same n (i % n) i'')
            ∙ laws.mul_one R.one laws.one_elem ∙ sym (ap (λ b. cond b R.one R.zero) (eq-eqb i j e))
        | inr h ↦ elim (cases_eq (i / n) (j / n)) [
          | inl same ↦
              let apart : (i % n) ≢ (j % n) = λ e. h (sym (div-add-mod' i n) ∙ ap₂ (λ x y. x * n + y) same e ∙ div-add-mod' j n) in
              ap (R.mul (entry R.zero D (i / n) (j / n))) (identity-other n (i % n) (j % n) i'' j'' apart) ∙ mul_zero R laws (entry R.zero D (i / n) (j / n)) D_elem
              ∙ sym (ap (λ b. cond b R.one R.zero) (ne_eqb i j h))
          | inr apart ↦
              ap (λ e. R.mul e (entry R.zero E (i % n) (j % n))) (identity-other m (i / n) (j / n) i' j' apart) ∙ zero_mul R laws (entry R.zero E (i % n) (j % n)) E_elem
              ∙ sym (ap (λ b. cond b R.one R.zero) (ne_eqb i j h))
        ]
      ])

  -- the product of Kronecker products is the Kronecker product of the products
  pub product-kronecker : (L M N P : Matrix A) → L.width ≡ N.height → M.width ≡ P.height → AllElem R L → AllElem R M → AllElem R N → AllElem R P
      → product R (kronecker R L M) (kronecker R N P) ≡ kronecker R (product R L N) (product R M P)
  product-kronecker L M N P first second p q r s = table-same (L.height * M.height) (N.width * P.width) (product_entry R (kronecker R L M) (kronecker R N P)) (kronecker_entry R (product R L N) (product R M P)) (λ i j a b.
      let laws = ring.laws in
      let z = R.zero in
      let tall = factor_positive L.height M.height i a in
      let broad = factor_positive N.width P.width j b in
      let i' = div_below i M.height L.height tall a in
      let i'' = mod_below i M.height tall in
      let j' = div_below j P.width N.width broad b in
      let j'' = mod_below j P.width broad in
      let shape : L.width * M.width ≡ N.height * P.height = ap₂ ◌*◌ first second in
      let pair = λ (x y : ℕ). R.mul (product_term R L N (i / M.height) (j / P.width) x) (product_term R M P (i % M.height) (j % P.width) y) in
      let f_elem = λ (x : ℕ) (c : x < L.width). product_term-elem R ring L N first p r (i / M.height) (j / P.width) x i' j' c in
      let g_elem = λ (y : ℕ) (c : y < M.width). product_term-elem R ring M P second q s (i % M.height) (j % P.width) y i'' j'' c in
      sum-same R (L.width * M.width) (product_term R (kronecker R L M) (kronecker R N P) i j) (λ k. pair (k / M.width) (k % M.width)) (λ k c.
      let some = factor_positive L.width M.width k c in
      let k' = div_below k M.width L.width some c in
      let k'' = mod_below k M.width some in
      ap₂ R.mul
      (entry-table z (L.height * M.height) (L.width * M.width) (kronecker_entry R L M) i k a c)
      (entry-table z (N.height * P.height) (N.width * P.width) (kronecker_entry R N P) k j (omega (arith, c, shape)) b
      ∙ ap (λ w. R.mul (entry z N (k / w) (j / P.width)) (entry z P (k % w) (j % P.width))) (sym second))
      ∙ mul_middle R laws (entry z L (i / M.height) (k / M.width)) (entry z M (i % M.height) (k % M.width)) (entry z N (k / M.width) (j / P.width)) (entry z P (k % M.width) (j % P.width))
      (p (i / M.height) (k / M.width) i' k') (q (i % M.height) (k % M.width) i'' k'') (r (k / M.width) (j / P.width) (omega (arith, k', first)) j') (s (k % M.width) (j % P.width) (omega (arith, k'', second)) j''))
      ∙ sum-pairs R laws L.width M.width pair (λ x y c d. laws.mul_elem _ _ (f_elem x c) (g_elem y d))
      ∙ sum-product R laws L.width M.width (product_term R L N (i / M.height) (j / P.width)) (product_term R M P (i % M.height) (j % P.width)) f_elem g_elem
      ∙ sym (ap₂ R.mul (entry-table z L.height N.width (product_entry R L N) (i / M.height) (j / P.width) i' j') (entry-table z M.height P.width (product_entry R M P) (i % M.height) (j % P.width) i'' j'')))
