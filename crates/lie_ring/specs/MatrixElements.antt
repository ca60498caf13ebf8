-- The operations on matrices stay among the matrices over a ring: each entry of the answer is an element.
-- For proofs: no public clause cites it.
use Rattle.std.proofs.Common.{◌≡◌, ℕ, ◌+◌, ◌-◌, ◌*◌, ◌/◌, ◌%◌, ◌<◌, cond, Bool, true, false, ltb, eqb, sym, inl, inr, subst, arith}
use Rattle.std.proofs.lemmas.Nat.{div_below, mod_below}
use Rattle.std.proofs.lemmas.Bool.{cases_lt, lt-ltb, le-ltb}
use Rattle.lie_ring.specs.Rings.{RingOn, IsElem, IsRing}
use Rattle.lie_ring.specs.SumLemmas.{sum-elem, factor_positive}
use Rattle.lie_ring.specs.MatrixLemmas.{entry-table}
use Rattle.lie_ring.specs.Matrices.{Matrix, table, entry, AllElem, zero_matrix, with_entry, identity, sum, sum_entry, scaled, product, product_entry, product_term, transposed, direct_sum, direct_sum_entry, kronecker, kronecker_entry}

module _ {A : Type 0} (R : RingOn A) (ring : IsRing R) where
  -- a table of elements
  pub table-elem : (m n : ℕ) (f : ℕ → ℕ → A) → ((i j : ℕ) → i < m → j < n → IsElem R (f i j)) → AllElem R (table m n f)
  table-elem m n f p i j a b = subst (IsElem R) (sym (entry-table R.zero m n f i j a b)) (p i j a b)

  -- one of two elements
  either_elem : (b : Bool) (x y : A) → IsElem R x → IsElem R y → IsElem R (cond b x y)
  either_elem true x y p q = p
  either_elem false x y p q = q

  -- the matrix of zeros
  pub zero_matrix-elem : (m n : ℕ) → AllElem R (zero_matrix R.zero m n)
  zero_matrix-elem m n = table-elem m n (λ _ _. R.zero) (λ _ _ _ _. ring.laws.zero_elem)

  -- the identity
  pub identity-elem : (n : ℕ) → AllElem R (identity R n)
  identity-elem n = table-elem n n _ (λ i j _ _. either_elem (eqb i j) R.one R.zero ring.laws.one_elem ring.laws.zero_elem)

  -- a matrix in which one entry is written
  pub with_entry-elem : (M : Matrix A) (row col : ℕ) (e : A) → IsElem R e → AllElem R M → AllElem R (with_entry R.zero M row col e)
  with_entry-elem M row col e q p = table-elem M.height M.width _ (λ i j a b.
      let old = p i j a b in
      either_elem (eqb i row) (cond (eqb j col) e (entry R.zero M i j)) (entry R.zero M i j) (either_elem (eqb j col) e (entry R.zero M i j) q old) old)

  -- a sum
  pub matrix_sum-elem : (M N : Matrix A) → M.height ≡ N.height → M.width ≡ N.width → AllElem R M → AllElem R N → AllElem R (sum R M N)
  matrix_sum-elem M N rows cols p q = table-elem M.height M.width (sum_entry R M N) (λ i j a b.
      ring.laws.add_elem (entry R.zero M i j) (entry R.zero N i j) (p i j a b) (q i j (omega (arith, rows, a)) (omega (arith, cols, b))))

  -- a multiple
  pub scaled-elem : (c : A) (M : Matrix A) → IsElem R c → AllElem R M → AllElem R (scaled R c M)
  scaled-elem c M e p = table-elem M.height M.width _ (λ i j a b. ring.laws.mul_elem c (entry R.zero M i j) e (p i j a b))

  -- what is added in an entry of a product
  pub product_term-elem : (M N : Matrix A) → M.width ≡ N.height → AllElem R M → AllElem R N → (i j k : ℕ) → i < M.height → j < N.width → k < M.width → IsElem R (product_term R M N i j k)
  product_term-elem M N shape p q i j k a b c = ring.laws.mul_elem (entry R.zero M i k) (entry R.zero N k j) (p i k a c) (q k j (omega (arith, shape, c)) b)

  -- an entry of a product
  pub product_entry-elem : (M N : Matrix A) → M.width ≡ N.height → AllElem R M → AllElem R N → (i j : ℕ) → i < M.height → j < N.width → IsElem R (product_entry R M N i j)
  product_entry-elem M N shape p q i j a b = sum-elem R ring.laws M.width (product_term R M N i j) (λ k c. product_term-elem M N shape p q i j k a b c)

  -- a product
  pub product-elem : (M N : Matrix A) → M.width ≡ N.height → AllElem R M → AllElem R N → AllElem R (product R M N)
  product-elem M N shape p q = table-elem M.height N.width (product_entry R M N) (product_entry-elem M N shape p q)

  -- rows for columns
  pub transposed-elem : (M : Matrix A) → AllElem R M → AllElem R (transposed R.zero M)
  transposed-elem M p = table-elem M.width M.height _ (λ i j a b. p j i b a)

  -- a direct sum
  pub direct_sum-elem : (M N : Matrix A) → AllElem R M → AllElem R N → AllElem R (direct_sum R.zero M N)
  direct_sum-elem M N p q = table-elem (M.height + N.height) (M.width + N.width) (direct_sum_entry R.zero M N) (λ i j a b.
      elim (cases_lt i M.height) [
        | inl low ↦ subst (λ t. IsElem R (cond t (cond (ltb j M.width) (entry R.zero M i j) R.zero) (cond (ltb j M.width) R.zero (entry R.zero N (i - M.height) (j - M.width))))) (sym (lt-ltb i M.height low)) (elim (cases_lt j M.width) [
          | inl left ↦ subst (λ t. IsElem R (cond t (entry R.zero M i j) R.zero)) (sym (lt-ltb j M.width left)) (p i j low left)
          | inr right ↦ subst (λ t. IsElem R (cond t (entry R.zero M i j) R.zero)) (sym (le-ltb j M.width right)) ring.laws.zero_elem
        ])
        | inr high ↦ subst (λ t. IsElem R (cond t (cond (ltb j M.width) (entry R.zero M i j) R.zero) (cond (ltb j M.width) R.zero (entry R.zero N (i - M.height) (j - M.width))))) (sym (le-ltb i M.height high)) (elim (cases_lt j M.width) [
          | inl left ↦ subst (λ t. IsElem R (cond t R.zero (entry R.zero N (i - M.height) (j - M.width)))) (sym (lt-ltb j M.width left)) ring.laws.zero_elem
          | inr right ↦ subst (λ t. IsElem R (cond t R.zero (entry R.zero N (i - M.height) (j - M.width)))) (sym (le-ltb j M.width right)) (q (i - M.height) (j - M.width) (omega arith) (omega arith))
        ])
      ])

  -- a Kronecker product
  pub kronecker-elem : (M N : Matrix A) → AllElem R M → AllElem R N → AllElem R (kronecker R M N)
  kronecker-elem M N p q = table-elem (M.height * N.height) (M.width * N.width) (kronecker_entry R M N) (λ i j a b.
      let tall = factor_positive M.height N.height i a in
      let broad = factor_positive M.width N.width j b in
      ring.laws.mul_elem (entry R.zero M (i / N.height) (j / N.width)) (entry R.zero N (i % N.height) (j % N.width))
      (p (i / N.height) (j / N.width) (div_below i N.height M.height tall a) (div_below j N.width M.width broad b))
      (q (i % N.height) (j % N.width) (mod_below i N.height tall) (mod_below j N.width broad)))
