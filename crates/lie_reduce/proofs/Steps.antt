-- The entries of the array after a corner is taken out.
use Rattle.std.proofs.Common.{◌≡◌, ℕ, ◌<◌, ◌≤◌, cond, ltb, eqb, refl, sym, ap, ap₂, ◌∙◌, inl, inr, arith}
use Rattle.std.proofs.lemmas.Bool.{lt-ltb, le-ltb, eq-eqb, ne_eqb, cases_lt}
use Rattle.lie_field.specs.Quotient.{FieldData, inv, add, neg, mul}
use Rattle.lie_reduce.specs.Elimination.{cleared, shortened, stepped, corner, above, below}

-- ---- a cleared row, and one that is shortened, by their columns
module _ (g : FieldData) (k c : ℕ) (x p : ℕ → ℕ) where
  pub cleared-before : (j : ℕ) → j < k → cleared g k c x p j ≡ add g (x j) (mul g (neg g (mul g (x k) c)) (p j))
  cleared-before j less = ap (λ b. cond b (add g (x j) (mul g (neg g (mul g (x k) c)) (p j))) (cond (eqb j k) (mul g (x k) c) (x j))) (lt-ltb j k less)

  pub cleared-at : (j : ℕ) → j ≡ k → cleared g k c x p j ≡ mul g (x k) c
  cleared-at j same =
      ap (λ b. cond b (add g (x j) (mul g (neg g (mul g (x k) c)) (p j))) (cond (eqb j k) (mul g (x k) c) (x j))) (le-ltb j k (omega (arith, same)))
      ∙ ap (λ b. cond b (mul g (x k) c) (x j)) (eq-eqb j k same)

  pub cleared-after : (j : ℕ) → k < j → cleared g k c x p j ≡ x j
  cleared-after j more =
      ap (λ b. cond b (add g (x j) (mul g (neg g (mul g (x k) c)) (p j))) (cond (eqb j k) (mul g (x k) c) (x j))) (le-ltb j k (omega (arith, more)))
      ∙ ap (λ b. cond b (mul g (x k) c) (x j)) (ne_eqb j k (λ e. absurd (let never : ⊥ = omega (arith, more, e) in never)))

  -- only the entry and the one in column k are read
  pub cleared-same : (y : ℕ → ℕ) (j : ℕ) → x j ≡ y j → x k ≡ y k → cleared g k c x p j ≡ cleared g k c y p j
  cleared-same y j here there = ap₂ (λ a b. cond (ltb j k) (add g a (mul g (neg g (mul g b c)) (p j))) (cond (eqb j k) (mul g b c) a)) here there

  -- only the factor and the entry of the other row are read
  pub cleared-other : (c' : ℕ) (q : ℕ → ℕ) (j : ℕ) → c ≡ c' → p j ≡ q j → cleared g k c x p j ≡ cleared g k c' x q j
  cleared-other c' q j same there = ap₂ (λ a b. cond (ltb j k) (add g (x j) (mul g (neg g (mul g (x k) a)) b)) (cond (eqb j k) (mul g (x k) a) (x j))) same there

  pub shortened-same : (c' : ℕ) (y : ℕ → ℕ) (j : ℕ) → c ≡ c' → x j ≡ y j → shortened g k c x j ≡ shortened g k c' y j
  shortened-same c' y j same here = ap₂ (λ a b. cond (ltb j k) (mul g b a) b) same here

  pub shortened-before : (j : ℕ) → j < k → shortened g k c x j ≡ mul g (x j) c
  shortened-before j less = ap (λ b. cond b (mul g (x j) c) (x j)) (lt-ltb j k less)

  pub shortened-after : (j : ℕ) → k ≤ j → shortened g k c x j ≡ x j
  shortened-after j more = ap (λ b. cond b (mul g (x j) c) (x j)) (le-ltb j k more)

-- ---- the array after a step
module _ (g : FieldData) (k : ℕ) (P : ℕ → ℕ → ℕ) where
  -- before row and column k
  pub stepped-inner : (i j : ℕ) → i < k → j < k → stepped g k P i j ≡ add g (P i j) (mul g (neg g (mul g (P i k) (inv g (P k k)))) (P k j))
  stepped-inner i j p q =
      ap (λ b. cond b (cleared g k (inv g (P k k)) (P i) (P k) j) (cond (eqb i k) (shortened g k (inv g (P k k)) (P k) j) (P i j))) (lt-ltb i k p)
      ∙ ap (λ b. cond b (add g (P i j) (mul g (neg g (mul g (P i k) (inv g (P k k)))) (P k j))) (cond (eqb j k) (mul g (P i k) (inv g (P k k))) (P i j))) (lt-ltb j k q)

  -- in column k, before row k
  pub stepped-column : (i : ℕ) → i < k → stepped g k P i k ≡ mul g (P i k) (inv g (P k k))
  stepped-column i p =
      ap (λ b. cond b (cleared g k (inv g (P k k)) (P i) (P k) k) (cond (eqb i k) (shortened g k (inv g (P k k)) (P k) k) (P i k))) (lt-ltb i k p)
      ∙ ap (λ b. cond b (add g (P i k) (mul g (neg g (mul g (P i k) (inv g (P k k)))) (P k k))) (cond (eqb k k) (mul g (P i k) (inv g (P k k))) (P i k))) (le-ltb k k (omega arith))
      ∙ ap (λ b. cond b (mul g (P i k) (inv g (P k k))) (P i k)) (eq-eqb k k refl)

  -- above row k
  pub stepped-above : (i j : ℕ) → i < k → stepped g k P i j ≡ cleared g k (inv g (P k k)) (P i) (P k) j
  stepped-above i j p = ap (λ b. cond b (cleared g k (inv g (P k k)) (P i) (P k) j) (cond (eqb i k) (shortened g k (inv g (P k k)) (P k) j) (P i j))) (lt-ltb i k p)

  -- in row k
  pub stepped-row_k : (j : ℕ) → stepped g k P k j ≡ shortened g k (inv g (P k k)) (P k) j
  stepped-row_k j =
      ap (λ b. cond b (cleared g k (inv g (P k k)) (P k) (P k) j) (cond (eqb k k) (shortened g k (inv g (P k k)) (P k) j) (P k j))) (le-ltb k k (omega arith))
      ∙ ap (λ b. cond b (shortened g k (inv g (P k k)) (P k) j) (P k j)) (eq-eqb k k refl)

  -- in row k, before column k
  pub stepped-row : (j : ℕ) → j < k → stepped g k P k j ≡ mul g (P k j) (inv g (P k k))
  stepped-row j q = stepped-row_k j ∙ ap (λ b. cond b (mul g (P k j) (inv g (P k k))) (P k j)) (lt-ltb j k q)

  -- in row k, from column k on
  stepped-row_end : (j : ℕ) → k ≤ j → stepped g k P k j ≡ P k j
  stepped-row_end j q = stepped-row_k j ∙ ap (λ b. cond b (mul g (P k j) (inv g (P k k))) (P k j)) (le-ltb j k q)

  -- at the corner
  pub stepped-corner : stepped g k P k k ≡ P k k
  stepped-corner = stepped-row_end k (omega arith)

  -- below row k
  pub stepped-below : (i j : ℕ) → k < i → stepped g k P i j ≡ P i j
  stepped-below i j p =
      ap (λ b. cond b (cleared g k (inv g (P k k)) (P i) (P k) j) (cond (eqb i k) (shortened g k (inv g (P k k)) (P k) j) (P i j))) (le-ltb i k (omega (arith, p)))
      ∙ ap (λ b. cond b (shortened g k (inv g (P k k)) (P k) j) (P i j)) (ne_eqb i k (λ e. absurd (let never : ⊥ = omega (arith, p, e) in never)))

  -- above row k, right of column k
  stepped-right_above : (i j : ℕ) → i < k → k < j → stepped g k P i j ≡ P i j
  stepped-right_above i j p q =
      ap (λ b. cond b (cleared g k (inv g (P k k)) (P i) (P k) j) (cond (eqb i k) (shortened g k (inv g (P k k)) (P k) j) (P i j))) (lt-ltb i k p)
      ∙ ap (λ b. cond b (add g (P i j) (mul g (neg g (mul g (P i k) (inv g (P k k)))) (P k j))) (cond (eqb j k) (mul g (P i k) (inv g (P k k))) (P i j))) (le-ltb j k (omega (arith, q)))
      ∙ ap (λ b. cond b (mul g (P i k) (inv g (P k k))) (P i j)) (ne_eqb j k (λ e. absurd (let never : ⊥ = omega (arith, q, e) in never)))

  -- right of column k
  pub stepped-right : (i j : ℕ) → k < j → stepped g k P i j ≡ P i j
  stepped-right i j q = elim (cases_lt i k) [
    | inl p ↦ stepped-right_above i j p q
    | inr p ↦ elim (cases_lt k i) [
      | inl p' ↦ stepped-below i j p'
      | inr p' ↦
          let same : k ≡ i = omega (arith, p, p') in
          ap (λ x. stepped g k P x j) (sym same) ∙ stepped-row_end j (omega (arith, q)) ∙ ap (λ x. P x j) same
    ]
  ]

-- ---- what is left, and the entries of the unitriangular factors
module _ (P : ℕ → ℕ → ℕ) where
  pub corner-in : (k i j : ℕ) → i < k → j < k → corner k P i j ≡ P i j
  corner-in k i j p q = ap (λ b. cond b (cond (ltb j k) (P i j) 0) 0) (lt-ltb i k p) ∙ ap (λ b. cond b (P i j) 0) (lt-ltb j k q)

  pub corner-below : (k i j : ℕ) → k ≤ i → corner k P i j ≡ 0
  corner-below k i j p = ap (λ b. cond b (cond (ltb j k) (P i j) 0) 0) (le-ltb i k p)

  pub corner-right : (k i j : ℕ) → k ≤ j → corner k P i j ≡ 0
  corner-right k i j q = elim (cases_lt i k) [
    | inl p ↦ ap (λ b. cond b (cond (ltb j k) (P i j) 0) 0) (lt-ltb i k p) ∙ ap (λ b. cond b (P i j) 0) (le-ltb j k q)
    | inr p ↦ corner-below k i j p
  ]

  pub above-kept : (i j : ℕ) → i < j → above P i j ≡ P i j
  above-kept i j p = ap (λ b. cond b (P i j) (cond (eqb i j) 1 0)) (lt-ltb i j p)

  pub above-one : (i : ℕ) → above P i i ≡ 1
  above-one i = ap (λ b. cond b (P i i) (cond (eqb i i) 1 0)) (le-ltb i i (omega arith)) ∙ ap (λ b. cond b 1 0) (eq-eqb i i refl)

  pub above-zero : (i j : ℕ) → j < i → above P i j ≡ 0
  above-zero i j p =
      ap (λ b. cond b (P i j) (cond (eqb i j) 1 0)) (le-ltb i j (omega (arith, p)))
      ∙ ap (λ b. cond b 1 0) (ne_eqb i j (λ e. absurd (let never : ⊥ = omega (arith, p, e) in never)))

  pub below-kept : (i j : ℕ) → j < i → below P i j ≡ P i j
  below-kept i j p = ap (λ b. cond b (P i j) (cond (eqb i j) 1 0)) (lt-ltb j i p)

  pub below-one : (i : ℕ) → below P i i ≡ 1
  below-one i = ap (λ b. cond b (P i i) (cond (eqb i i) 1 0)) (le-ltb i i (omega arith)) ∙ ap (λ b. cond b 1 0) (eq-eqb i i refl)

  pub below-zero : (i j : ℕ) → i < j → below P i j ≡ 0
  below-zero i j p =
      ap (λ b. cond b (P i j) (cond (eqb i j) 1 0)) (le-ltb j i (omega (arith, p)))
      ∙ ap (λ b. cond b 1 0) (ne_eqb i j (λ e. absurd (let never : ⊥ = omega (arith, p, e) in never)))
