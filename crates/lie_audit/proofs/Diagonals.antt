-- The product with a diagonal matrix multiplies each row, or each column, by its entry.
use Rattle.std.proofs.Common.{◌≡◌, ℕ, ◌<◌, cond, eqb, refl, sym, ap, ◌∙◌, subst, arith}
use Rattle.std.proofs.lemmas.Bool.{eq-eqb, ne_eqb}
use Rattle.lie_ring.specs.Rings.{IsElem}
use Rattle.lie_ring.specs.RingLemmas.{zero_mul, mul_zero}
use Rattle.lie_ring.specs.SumLemmas.{sum-only}
use Rattle.lie_ring.specs.Matrices.{Matrix, table, entry, product, product_entry, product_term, AllElem}
use Rattle.lie_ring.specs.MatrixLemmas.{entry-table}
use Rattle.lie_field.specs.FiniteField.{FiniteField}
use Rattle.lie_field.specs.FieldRing.{field_ring, field_is_ring}
use Rattle.lie_field.specs.Quotient.{mul}
use Rattle.lie_identities.proofs.FactorLemmas.{cond-elem}

module _ (f : FiniteField) where
  module _ (n : ℕ) (g : ℕ → ℕ) (elem : (i : ℕ) → IsElem (field_ring f) (g i)) where
    -- the diagonal matrix
    abbrev diagonal : Matrix ℕ
    diagonal = table n n (λ i j. cond (eqb i j) (g i) 0)

    -- its entries
    at : (i k : ℕ) → i < n → k < n → entry 0 diagonal i k ≡ cond (eqb i k) (g i) 0
    at i k a b = entry-table 0 n n (λ i j. cond (eqb i j) (g i) 0) i k a b

    -- a row of the product
    pub diagonal-before : (M : Matrix ℕ) (i j : ℕ) → M.height ≡ n → AllElem (field_ring f) M → i < n → j < M.width → entry 0 (product (field_ring f) diagonal M) i j ≡ mul f.given (g i) (entry 0 M i j)
    diagonal-before M i j shape p a b =
        let laws = (field_is_ring f).laws in
        let e = λ (k : ℕ) (c : k < n). p k j (omega (arith, shape, c)) b in
        entry-table 0 n M.width (product_entry (field_ring f) diagonal M) i j a b
        ∙ sum-only (field_ring f) laws n i (product_term (field_ring f) diagonal M i j) a
        (λ k c. laws.mul_elem _ _ (subst (IsElem (field_ring f)) (sym (at i k a c)) (cond-elem (field_ring f) (field_is_ring f) (eqb i k) (g i) 0 (elem i) laws.zero_elem)) (e k c))
        (λ k c apart. ap (λ x. mul f.given x (entry 0 M k j)) (at i k a c ∙ ap (λ t. cond t (g i) 0) (ne_eqb i k (λ h. apart (sym h)))) ∙ zero_mul (field_ring f) laws (entry 0 M k j) (e k c))
        ∙ ap (λ x. mul f.given x (entry 0 M i j)) (at i i a a ∙ ap (λ t. cond t (g i) 0) (eq-eqb i i refl))

    -- a column of the product
    pub diagonal-behind : (M : Matrix ℕ) (i j : ℕ) → M.width ≡ n → AllElem (field_ring f) M → i < M.height → j < n → entry 0 (product (field_ring f) M diagonal) i j ≡ mul f.given (entry 0 M i j) (g j)
    diagonal-behind M i j shape p a b =
        let laws = (field_is_ring f).laws in
        let e = λ (k : ℕ) (c : k < M.width). p i k a c in
        entry-table 0 M.height n (product_entry (field_ring f) M diagonal) i j a b
        ∙ sum-only (field_ring f) laws M.width j (product_term (field_ring f) M diagonal i j) (omega (arith, shape, b))
        (λ k c. laws.mul_elem _ _ (e k c) (subst (IsElem (field_ring f)) (sym (at k j (omega (arith, shape, c)) b)) (cond-elem (field_ring f) (field_is_ring f) (eqb k j) (g k) 0 (elem k) laws.zero_elem)))
        (λ k c apart. ap (mul f.given (entry 0 M i k)) (at k j (omega (arith, shape, c)) b ∙ ap (λ t. cond t (g k) 0) (ne_eqb k j apart)) ∙ mul_zero (field_ring f) laws (entry 0 M i k) (e k c))
        ∙ ap (mul f.given (entry 0 M i j)) (at j j b b ∙ ap (λ t. cond t (g j) 0) (eq-eqb j j refl))
