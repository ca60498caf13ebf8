-- How a table is filled.
-- For proofs: no public clause cites it.
use Rattle.std.proofs.Common.{◌≡◌, ◌≢◌, ℕ, ◌+◌, ◌<◌, refl, sym, ap, ap₂, ◌∙◌, inl, inr, subst, arith, cond, true, false, Bool, eqb, ltb}
use Rattle.std.proofs.lemmas.Bool.{cases_eq, eq-eqb, ne_eqb}
use Rattle.std.proofs.lemmas.Bool.Decides.{nat_tests}
use Rattle.lie_ring.specs.Rings.{RingOn, IsRing, Fits}
use Rattle.lie_ring.specs.Matrices.{Matrix, table, entry, with_entry, zero_matrix, AllFit}
use Rattle.lie_mat.specs.Parts.{is_before, partial_table}
use Rattle.lie_ring.specs.MatrixLemmas.{table-same, entry-table}

-- a row below the first is not filled
before-none : (k l : ℕ) → is_before 0 0 k l ≡ false
before-none k l = grind (arith, nat_tests)

-- a filled row
before-row : (i w k l : ℕ) → l < w → is_before i w k l ≡ is_before (i + 1) 0 k l
before-row i w k l h = grind (arith, nat_tests)

-- all rows are filled
before-all : (h k l : ℕ) → k < h → is_before h 0 k l ≡ true
before-all h k l p = grind (arith, nat_tests)

-- the place itself is filled next
before-here : (i j : ℕ) → is_before i (j + 1) i j ≡ true
before-here i j = grind (arith, nat_tests)

-- another place of the row
before-row_mate : (i j l : ℕ) → l ≢ j → is_before i j i l ≡ is_before i (j + 1) i l
before-row_mate i j l n = grind (arith, nat_tests)

-- another row
before-other : (i j k l : ℕ) → k ≢ i → is_before i j k l ≡ is_before i (j + 1) k l
before-other i j k l n = ap (λ b. cond b (ltb l j) (ltb k i)) (ne_eqb k i n) ∙ sym (ap (λ b. cond b (ltb l (j + 1)) (ltb k i)) (ne_eqb k i n))

module _ {A : Type 0} (z : A) (h w : ℕ) (f : ℕ → ℕ → A) where
  -- at first there are zeros
  pub partial-none : zero_matrix z h w ≡ partial_table z h w f 0 0
  partial-none = table-same h w _ _ (λ k l _ _. ap (λ b. cond b (f k l) z) (sym (before-none k l)))

  -- after a row comes the next
  pub partial-row : (i : ℕ) → partial_table z h w f i w ≡ partial_table z h w f (i + 1) 0
  partial-row i = table-same h w _ _ (λ k l _ q. ap (λ b. cond b (f k l) z) (before-row i w k l q))

  -- in the end it is the table
  pub partial-all : partial_table z h w f h 0 ≡ table h w f
  partial-all = table-same h w _ _ (λ k l p _. ap (λ b. cond b (f k l) z) (before-all h k l p))

  -- what a place has after the step
  step-at : (i j k l : ℕ) → cond (eqb k i) (cond (eqb l j) (f i j) (cond (is_before i j k l) (f k l) z)) (cond (is_before i j k l) (f k l) z) ≡ cond (is_before i (j + 1) k l) (f k l) z
  step-at i j k l = elim (cases_eq k i) [
    | inl at_row ↦ elim (cases_eq l j) [
      | inl at_col ↦
          ap (λ b. cond b (cond (eqb l j) (f i j) (cond (is_before i j k l) (f k l) z)) (cond (is_before i j k l) (f k l) z)) (eq-eqb k i at_row)
          ∙ ap (λ b. cond b (f i j) (cond (is_before i j k l) (f k l) z)) (eq-eqb l j at_col)
          ∙ sym (ap₂ (λ a b. cond (is_before i (j + 1) a b) (f a b) z) at_row at_col ∙ ap (λ b. cond b (f i j) z) (before-here i j))
      | inr apart ↦
          ap (λ b. cond b (cond (eqb l j) (f i j) (cond (is_before i j k l) (f k l) z)) (cond (is_before i j k l) (f k l) z)) (eq-eqb k i at_row)
          ∙ ap (λ b. cond b (f i j) (cond (is_before i j k l) (f k l) z)) (ne_eqb l j apart)
          ∙ ap (λ b. cond b (f k l) z) (ap (λ a. is_before i j a l) at_row ∙ before-row_mate i j l apart ∙ sym (ap (λ a. is_before i (j + 1) a l) at_row))
    ]
    | inr apart ↦
        ap (λ b. cond b (cond (eqb l j) (f i j) (cond (is_before i j k l) (f k l) z)) (cond (is_before i j k l) (f k l) z)) (ne_eqb k i apart)
        ∙ ap (λ b. cond b (f k l) z) (before-other i j k l apart)
  ]

  -- a write at the next place
  pub partial-step : (i j : ℕ) → i < h → j < w → with_entry z (partial_table z h w f i j) i j (f i j) ≡ partial_table z h w f i (j + 1)
  partial-step i j p q = table-same h w _ _ (λ k l a b.
      let old = entry-table z h w (λ m n. cond (is_before i j m n) (f m n) z) k l a b in
      ap (λ x. cond (eqb k i) (cond (eqb l j) (f i j) x) x) old ∙ step-at i j k l)

  -- nothing has to be written at the next place if it is zero
  pub partial-skip : (i j : ℕ) → f i j ≡ z → partial_table z h w f i j ≡ partial_table z h w f i (j + 1)
  partial-skip i j is_zero = table-same h w _ _ (λ k l _ _. elim (cases_eq k i) [
    | inl at_row ↦ elim (cases_eq l j) [
      | inl at_col ↦
          let none : f k l ≡ z = ap₂ f at_row at_col ∙ is_zero in
          ap (λ x. cond (is_before i j k l) x z) none ∙ same_of z (is_before i j k l) (is_before i (j + 1) k l) ∙ sym (ap (λ x. cond (is_before i (j + 1) k l) x z) none)
      | inr apart ↦ ap (λ b. cond b (f k l) z) (ap (λ a. is_before i j a l) at_row ∙ before-row_mate i j l apart ∙ sym (ap (λ a. is_before i (j + 1) a l) at_row))
    ]
    | inr apart ↦ ap (λ b. cond b (f k l) z) (before-other i j k l apart)
  ])
    where
      same_of : (x : A) (a b : Bool) → cond a x x ≡ cond b x x
      same_of x true true = refl
      same_of x true false = refl
      same_of x false true = refl
      same_of x false false = refl

module _ {A : Type 0} (R : RingOn A) (ring : IsRing R) where
  -- zero fits
  pub zero-fits : Fits R R.zero
  zero-fits = (ring.laws.zero_elem, let s = ring.sized.size_zero in omega (arith, s))

  -- the entries of the matrix of zeros fit
  pub zeros-fit : (z : A) → z ≡ R.zero → (h w : ℕ) → AllFit R (zero_matrix z h w)
  zeros-fit z e h w i j p q = subst (Fits R) (sym (entry-table R.zero h w (λ _ _. z) i j p q ∙ e)) zero-fits

  -- the entries fit after one that fits is written
  pub with_entry-fit : (z : A) → z ≡ R.zero → (M : Matrix A) (row col : ℕ) (e : A) → Fits R e → AllFit R M → AllFit R (with_entry z M row col e)
  with_entry-fit z same M row col e fits all i j p q =
      let old : Fits R (entry z M i j) = subst (λ x. Fits R (entry x M i j)) (sym same) (all i j p q) in
      subst (Fits R) (sym (entry-table R.zero M.height M.width (λ k l. cond (eqb k row) (cond (eqb l col) e (entry z M k l)) (entry z M k l)) i j p q))
      (either_fits (eqb i row) (eqb j col) e (entry z M i j) fits old)
    where
      either_fits : (a b : Bool) (x y : A) → Fits R x → Fits R y → Fits R (cond a (cond b x y) y)
      either_fits true true x y p q = p
      either_fits true false x y p q = q
      either_fits false b x y p q = q
