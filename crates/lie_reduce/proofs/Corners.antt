-- One corner is taken out: what is left and what was taken out still make the matrix, and the corner is that of any factors.
use Rattle.std.proofs.Common.{◌≡◌, ◌≢◌, ℕ, suc, ◌<◌, ◌≤◌, cond, ltb, eqb, sym, ap, ap₂, ◌∙◌, inl, inr, subst, arith}
use Rattle.std.proofs.lemmas.Bool.{lt-ltb, le-ltb, cases_lt}
use Rattle.lie_ring.specs.Rings.{IsElem, sum_below}
use Rattle.lie_ring.specs.SumLemmas.{sum-one_out}
use Rattle.lie_field.specs.FiniteField.{FiniteField}
use Rattle.lie_field.specs.FieldRing.{field_ring, field_is_ring}
use Rattle.lie_field.specs.Quotient.{order, add, mul, inv}
use Rattle.lie_field.specs.Algebra.FieldTest.{is_lawful}
use Rattle.lie_field.specs.Algebra.Laws
use Rattle.lie_reduce.specs.Elimination.{stepped, corner, above, below, outer, outer_from}
use Rattle.lie_reduce.proofs.FieldFacts.{mul_is_elem, zero_is_elem, zero_plus, one_times, times_quotient, quotient_times, minus_plus, times_nothing, add_last}
use Rattle.lie_reduce.proofs.Steps.{stepped-inner, stepped-column, stepped-row, stepped-corner, stepped-below, stepped-right, corner-in, corner-below, corner-right, above-kept, above-one, above-zero, below-kept, below-one, below-zero}

module _ (f : FiniteField) (n k : ℕ) (P Q : ℕ → ℕ → ℕ) (low : k < n)
    (small : (i j : ℕ) → i < n → j < n → P i j < order f.given)
    (apart : P k k ≢ 0)
    (step : (i j : ℕ) → i < n → j < n → Q i j ≡ stepped f.given k P i j) where
  pivot_small : P k k < order f.given
  pivot_small = small k k low low

  zero_small : 0 < order f.given
  zero_small = omega (arith, pivot_small)

  -- the corner stays
  pub kept_corner : Q k k ≡ P k k
  kept_corner = step k k low low ∙ stepped-corner f.given k P

  -- what the corner adds
  added : ℕ → ℕ → ℕ
  added i j = outer f.given Q i j k

  -- it is what was taken away before row and column k
  added-inner : (i j : ℕ) → i < k → j < k → corner (suc k) P i j ≡ add f.given (corner k Q i j) (added i j)
  unfolding added
  added-inner i j p q =
      let r = (is_lawful f).ring in
      let a = P i k in
      let b = P k j in
      let i_low : i < n = omega (arith, p, low) in
      let j_low : j < n = omega (arith, q, low) in
      let c = inv f.given (P k k) in
      corner-in P (suc k) i j (omega (arith, p)) (omega (arith, q))
      ∙ sym (ap₂ (add f.given)
      (corner-in Q k i j p q ∙ step i j i_low j_low ∙ stepped-inner f.given k P i j p q)
      (ap₂ (mul f.given) (above-kept Q i k p ∙ step i k i_low low ∙ stepped-column f.given k P i p)
      (ap₂ (mul f.given) kept_corner (below-kept Q k j q ∙ step k j low j_low ∙ stepped-row f.given k P j q)
      ∙ times_quotient f (P k k) b apart pivot_small (small k j low j_low)))
      ∙ minus_plus f (P i j) (mul f.given a c) b (small i j i_low j_low))

  -- in column k
  added-column : (i : ℕ) → i < k → corner (suc k) P i k ≡ add f.given (corner k Q i k) (added i k)
  unfolding added
  added-column i p =
      let r = (is_lawful f).ring in
      let i_low : i < n = omega (arith, p, low) in
      let a_small = small i k i_low low in
      corner-in P (suc k) i k (omega (arith, p)) (omega arith)
      ∙ sym (ap₂ (add f.given)
      (corner-right Q k i k (omega arith))
      (ap₂ (mul f.given) (above-kept Q i k p ∙ step i k i_low low ∙ stepped-column f.given k P i p)
      (ap₂ (mul f.given) kept_corner (below-one Q k) ∙ Laws.mul_one f.given r (P k k) pivot_small)
      ∙ quotient_times f (P k k) (P i k) apart pivot_small a_small)
      ∙ zero_plus f (P i k) a_small)

  -- in row k
  added-row : (j : ℕ) → j < k → corner (suc k) P k j ≡ add f.given (corner k Q k j) (added k j)
  unfolding added
  added-row j q =
      let j_low : j < n = omega (arith, q, low) in
      let b_small = small k j low j_low in
      corner-in P (suc k) k j (omega arith) (omega (arith, q))
      ∙ sym (ap₂ (add f.given)
      (corner-below Q k k j (omega arith))
      (ap₂ (mul f.given) (above-one Q k)
      (ap₂ (mul f.given) kept_corner (below-kept Q k j q ∙ step k j low j_low ∙ stepped-row f.given k P j q)
      ∙ times_quotient f (P k k) (P k j) apart pivot_small b_small)
      ∙ one_times f (P k j) b_small)
      ∙ zero_plus f (P k j) b_small)

  -- at the corner
  added-corner : corner (suc k) P k k ≡ add f.given (corner k Q k k) (added k k)
  unfolding added
  added-corner =
      let r = (is_lawful f).ring in
      corner-in P (suc k) k k (omega arith) (omega arith)
      ∙ sym (ap₂ (add f.given)
      (corner-below Q k k k (omega arith))
      (ap₂ (mul f.given) (above-one Q k)
      (ap₂ (mul f.given) kept_corner (below-one Q k) ∙ Laws.mul_one f.given r (P k k) pivot_small)
      ∙ one_times f (P k k) pivot_small)
      ∙ zero_plus f (P k k) pivot_small)

  -- below row k
  added-under : (i j : ℕ) → k < i → corner (suc k) P i j ≡ add f.given (corner k Q i j) (added i j)
  unfolding added
  added-under i j p =
      let r = (is_lawful f).ring in
      corner-below P (suc k) i j (omega (arith, p))
      ∙ sym (ap₂ (add f.given)
      (corner-below Q k i j (omega (arith, p)))
      (ap (λ x. mul f.given x (mul f.given (Q k k) (below Q k j))) (above-zero Q i k p) ∙ Laws.zero_mul f.given r (mul f.given (Q k k) (below Q k j)))
      ∙ zero_plus f 0 zero_small)

  -- right of column k
  added-beside : (i j : ℕ) → k < j → corner (suc k) P i j ≡ add f.given (corner k Q i j) (added i j)
  unfolding added
  added-beside i j q =
      corner-right P (suc k) i j (omega (arith, q))
      ∙ sym (ap₂ (add f.given)
      (corner-right Q k i j (omega (arith, q)))
      (ap (λ x. mul f.given (above Q i k) (mul f.given (Q k k) x)) (below-zero Q k j q) ∙ times_nothing f (above Q i k) (Q k k))
      ∙ zero_plus f 0 zero_small)

  -- everywhere
  added-all : (i j : ℕ) → i < n → j < n → corner (suc k) P i j ≡ add f.given (corner k Q i j) (added i j)
  added-all i j p q = elim (cases_lt k i) [
    | inl under ↦ added-under i j under
    | inr up ↦ elim (cases_lt k j) [
      | inl right ↦ added-beside i j right
      | inr left ↦ elim (cases_lt i k) [
        | inl above_k ↦ elim (cases_lt j k) [
          | inl left_k ↦ added-inner i j above_k left_k
          | inr at_col ↦ let e : k ≡ j = omega (arith, left, at_col) in subst (λ x. corner (suc k) P i x ≡ add f.given (corner k Q i x) (added i x)) e (added-column i above_k)
        ]
        | inr at_row ↦
            let e : k ≡ i = omega (arith, up, at_row) in
            subst (λ y. corner (suc k) P y j ≡ add f.given (corner k Q y j) (added y j)) e (elim (cases_lt j k) [
              | inl left_k ↦ added-row j left_k
              | inr at_col ↦ let e' : k ≡ j = omega (arith, left, at_col) in subst (λ x. corner (suc k) P k x ≡ add f.given (corner k Q k x) (added k x)) e' added-corner
            ])
      ]
    ]
  ]

  -- ---- the corners that were taken out before
  kept_above : (i c : ℕ) → i < n → c < n → k < c → above Q i c ≡ above P i c
  kept_above i c p q later = ap (λ x. cond (ltb i c) x (cond (eqb i c) 1 0)) (step i c p q ∙ stepped-right f.given k P i c later)

  kept_below : (c j : ℕ) → c < n → j < n → k < c → below Q c j ≡ below P c j
  kept_below c j p q later = ap (λ x. cond (ltb j c) x (cond (eqb c j) 1 0)) (step c j p q ∙ stepped-below f.given k P c j later)

  kept_outer : (i j c : ℕ) → i < n → j < n → c < n → k < c → outer f.given P i j c ≡ outer f.given Q i j c
  kept_outer i j c p q r later =
      sym (ap₂ (mul f.given) (kept_above i c p r later)
      (ap₂ (mul f.given) (step c c r r ∙ stepped-below f.given k P c c later) (kept_below c j r q later)))

  outer_elem : (m : ℕ) (S : ℕ → ℕ → ℕ) (i j c : ℕ) → IsElem (field_ring f) (outer_from f.given m S i j c)
  outer_elem m S i j c = elim (cases_lt c m) [
    | inl less ↦ subst (IsElem (field_ring f)) (sym (ap (λ b. cond b 0 (outer f.given S i j c)) (lt-ltb c m less))) (zero_is_elem f)
    | inr more ↦ subst (IsElem (field_ring f)) (sym (ap (λ b. cond b 0 (outer f.given S i j c)) (le-ltb c m more))) (mul_is_elem f _ _)
  ]

  outer_at : (S : ℕ → ℕ → ℕ) (m i j c : ℕ) → m ≤ c → outer_from f.given m S i j c ≡ outer f.given S i j c
  outer_at S m i j c more = ap (λ b. cond b 0 (outer f.given S i j c)) (le-ltb c m more)

  outer_before : (S : ℕ → ℕ → ℕ) (m i j c : ℕ) → c < m → outer_from f.given m S i j c ≡ 0
  outer_before S m i j c less = ap (λ b. cond b 0 (outer f.given S i j c)) (lt-ltb c m less)

  sums-step : (i j : ℕ) → i < n → j < n →
      sum_below (field_ring f) n (outer_from f.given k Q i j) ≡ add f.given (sum_below (field_ring f) n (outer_from f.given (suc k) P i j)) (added i j)
  unfolding added
  sums-step i j p q =
      sum-one_out (field_ring f) (field_is_ring f).laws n k (outer_from f.given k Q i j) (outer_from f.given (suc k) P i j) low
      (λ c _. outer_elem k Q i j c)
      (outer_before P (suc k) i j k (omega arith))
      (λ c r other. elim (cases_lt c k) [
        | inl less ↦ outer_before P (suc k) i j c (omega (arith, less)) ∙ sym (outer_before Q k i j c less)
        | inr more ↦
            let later : k < c = omega (arith, more, other) in
            outer_at P (suc k) i j c (omega (arith, later)) ∙ kept_outer i j c p q r later ∙ sym (outer_at Q k i j c more)
      ])
      ∙ ap (add f.given (sum_below (field_ring f) n (outer_from f.given (suc k) P i j))) (outer_at Q k i j k (omega arith))

  -- what is left and what was taken out make the matrix
  pub step-sums : (M : ℕ → ℕ → ℕ) → ((i j : ℕ) → i < n → j < n → M i j ≡ add f.given (corner (suc k) P i j) (sum_below (field_ring f) n (outer_from f.given (suc k) P i j)))
      → (i j : ℕ) → i < n → j < n → M i j ≡ add f.given (corner k Q i j) (sum_below (field_ring f) n (outer_from f.given k Q i j))
  step-sums M before i j p q =
      let s = sum_below (field_ring f) n (outer_from f.given (suc k) P i j) in
      before i j p q
      ∙ ap (λ x. add f.given x s) (added-all i j p q)
      ∙ sym (ap (add f.given (corner k Q i j)) (sums-step i j p q) ∙ add_last f (corner k Q i j) s (added i j))
