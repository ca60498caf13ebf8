-- How the matrix of a power is filled: rows that stay 0, and rows that are written.
use Rattle.std.proofs.Common.{◌≡◌, ◌≢◌, ℕ, ◌+◌, ◌<◌, ◌≤◌, ◌⊎◌, ℤ, pos, ◌*ℤ◌, refl, sym, ap, ap₂, ◌∙◌, inl, inr, arith, ⊎_elim, cond, eqb, true, false, Bool}
use Rattle.std.proofs.Math.IntN.{*ℤ-zero}
use Rattle.std.proofs.lemmas.Bool.{cases_eq, cases_lt, eq-eqb, ne_eqb}
use Rattle.lie_ring.specs.Integers.{integers}
use Rattle.lie_ring.specs.Matrices.{Matrix, entry, with_entry, zero_matrix, AllFit}
use Rattle.lie_ring.specs.MatrixLemmas.{entry-table, table-shaped}
use Rattle.lie_datum.specs.RootList.{RootDatum}
use Rattle.lie_const.specs.StructureConstants.{Table}
use Rattle.lie_const.specs.CommutatorTerms.{factorial}
use Rattle.lie_const.specs.Adjoint.{adjoint_dimension}
use Rattle.lie_weight.specs.AdjointParts.{power_entry, IsDivided, IsPartial, IsDividedMatrix}

-- the entries of a matrix in which one is written
module _ (M : Matrix ℤ) (row col : ℕ) (e : ℤ) where
  entry-written : (i j : ℕ) → i < M.height → j < M.width → entry (pos 0) (with_entry (pos 0) M row col e) i j ≡ cond (eqb i row) (cond (eqb j col) e (entry (pos 0) M i j)) (entry (pos 0) M i j)
  entry-written i j a b = entry-table (pos 0) M.height M.width (λ i j. cond (eqb i row) (cond (eqb j col) e (entry (pos 0) M i j)) (entry (pos 0) M i j)) i j a b

  pub entry-written_same : row < M.height → col < M.width → entry (pos 0) (with_entry (pos 0) M row col e) row col ≡ e
  entry-written_same a b = entry-written row col a b ∙ ap₂ (λ s t. cond s (cond t e (entry (pos 0) M row col)) (entry (pos 0) M row col)) (eq-eqb row row refl) (eq-eqb col col refl)

  pub entry-written_other : (i j : ℕ) → i < M.height → j < M.width → (i ≢ row) ⊎ (j ≢ col) → entry (pos 0) (with_entry (pos 0) M row col e) i j ≡ entry (pos 0) M i j
  entry-written_other i j a b o = entry-written i j a b ∙ ⊎_elim
      (λ p. ap (λ s. cond s (cond (eqb j col) e (entry (pos 0) M i j)) (entry (pos 0) M i j)) (ne_eqb i row p))
      (λ p. ap (λ t. cond (eqb i row) (cond t e (entry (pos 0) M i j)) (entry (pos 0) M i j)) (ne_eqb j col p) ∙ same (eqb i row))
      o
    where
      same : (s : Bool) → cond s (entry (pos 0) M i j) (entry (pos 0) M i j) ≡ entry (pos 0) M i j
      same true = refl
      same false = refl

module _ (d : RootDatum) (n : Table) (r : ℤ) (k : ℕ) where
  -- an entry that is 0 in the power
  zero_divided : (c : ℤ) (i j : ℕ) → c ≡ pos 0 → power_entry d n r k i j ≡ pos 0 → IsDivided d n r k c i j
  zero_divided c i j p q = ap (λ x. pos (factorial k) *ℤ x) p ∙ *ℤ-zero (pos (factorial k)) ∙ sym q

  -- rows that are 0 need no writing
  pub skipped : (M : Matrix ℤ) (c h t : ℕ) → IsPartial d n r k M c h → h ≤ t → ((i : ℕ) → i < adjoint_dimension d → h ≤ i → i < t → power_entry d n r k i c ≡ pos 0) → IsPartial d n r k M c t
  skipped M c h t p l z = record {
    height = p.height;
    width = p.width;
    shaped = p.shaped;
    fit = p.fit;
    done = λ i j a b o. ⊎_elim
        (λ q. p.done i j a b (inl q))
        (λ q. elim (cases_lt i h) [
          | inl low ↦ p.done i j a b (inr (q.0, low))
          | inr high ↦ zero_divided (entry (pos 0) M i j) i j (p.blank i j a b (inr (q.0, high))) (ap (power_entry d n r k i) q.0 ∙ z i a high q.1)
        ])
        o;
    blank = λ i j a b o. p.blank i j a b (⊎_elim (λ q. inl q) (λ q. inr (q.0, let m = q.1 in omega (arith, m, l))) o);
  }

  -- one row is written
  pub written : (M : Matrix ℤ) (c h : ℕ) (e : ℤ) → IsPartial d n r k M c h → c < adjoint_dimension d → h < adjoint_dimension d → IsDivided d n r k e h c → AllFit integers (with_entry (pos 0) M h c e) → IsPartial d n r k (with_entry (pos 0) M h c e) c (h + 1)
  written M c h e p w x v f =
      let tall = p.height in
      let broad = p.width in
      let other = λ (i j : ℕ) (a : i < adjoint_dimension d) (b : j < adjoint_dimension d) (o : (i ≢ h) ⊎ (j ≢ c)). entry-written_other M h c e i j (omega (arith, tall, a)) (omega (arith, broad, b)) o in
      record {
        height = p.height;
        width = p.width;
        shaped = table-shaped (pos 0) M.height M.width _;
        fit = f;
        done = λ i j a b o. elim (cases_eq i h) [
          | inl same_row ↦ elim (cases_eq j c) [
            | inl same_col ↦
                ap₂ (λ x y. pos (factorial k) *ℤ entry (pos 0) (with_entry (pos 0) M h c e) x y) same_row same_col
                ∙ ap (λ x. pos (factorial k) *ℤ x) (entry-written_same M h c e (omega (arith, tall, x)) (omega (arith, broad, w))) ∙ v ∙ ap₂ (power_entry d n r k) (sym same_row) (sym same_col)
            | inr other_col ↦ ap (λ x. pos (factorial k) *ℤ x) (other i j a b (inr other_col)) ∙ p.done i j a b (⊎_elim (λ q. inl q) (λ q. absurd (other_col q.0)) o)
          ]
          | inr other_row ↦ ap (λ x. pos (factorial k) *ℤ x) (other i j a b (inl other_row)) ∙ p.done i j a b (⊎_elim (λ q. inl q) (λ q. inr (q.0, let m = q.1 in omega (arith, m, other_row))) o)
        ];
        blank = λ i j a b o. ⊎_elim
            (λ q. other i j a b (inr (λ g. absurd (omega (arith, q, g)))) ∙ p.blank i j a b (inl q))
            (λ q. (let m = q.1 in other i j a b (inl (λ g. absurd (omega (arith, m, g)))) ∙ p.blank i j a b (inr (q.0, omega (arith, m)))))
            o;
      }

  -- the next column
  pub turned : (M : Matrix ℤ) (c h : ℕ) → IsPartial d n r k M c h → adjoint_dimension d ≤ h → IsPartial d n r k M (c + 1) 0
  turned M c h p l = record {
    height = p.height;
    width = p.width;
    shaped = p.shaped;
    fit = p.fit;
    done = λ i j a b o. ⊎_elim
        (λ q. p.done i j a b (elim (cases_lt j c) [ inl low ↦ inl low | inr high ↦ inr (omega (arith, q, high), omega (arith, a, l)) ]))
        (λ q. absurd (let m = q.1 in omega (arith, m)))
        o;
    blank = λ i j a b o. p.blank i j a b (inl (⊎_elim (λ q. omega (arith, q)) (λ q. (let m = q.0 in omega (arith, m))) o));
  }

  -- a column of zeros
  pub none_written : (M : Matrix ℤ) (c : ℕ) → IsPartial d n r k M c 0 → ((i : ℕ) → i < adjoint_dimension d → power_entry d n r k i c ≡ pos 0) → IsPartial d n r k M (c + 1) 0
  none_written M c p z = turned M c (adjoint_dimension d) (skipped M c 0 (adjoint_dimension d) p (omega arith) (λ i a _ _. z i a)) (omega arith)

  -- a column with one entry
  pub one_written : (M : Matrix ℤ) (c row : ℕ) (e : ℤ) → IsPartial d n r k M c 0 → c < adjoint_dimension d → row < adjoint_dimension d → IsDivided d n r k e row c →
      ((i : ℕ) → i < adjoint_dimension d → i ≢ row → power_entry d n r k i c ≡ pos 0) → AllFit integers (with_entry (pos 0) M row c e) → IsPartial d n r k (with_entry (pos 0) M row c e) (c + 1) 0
  one_written M c row e p w x v z f =
      let N = with_entry (pos 0) M row c e in
      let before = skipped M c 0 row p (omega arith) (λ i a _ b. z i a (λ g. absurd (omega (arith, b, g)))) in
      let here = written M c row e before w x v f in
      turned N c (adjoint_dimension d) (skipped N c (row + 1) (adjoint_dimension d) here (omega (arith, x)) (λ i a b _. z i a (λ g. absurd (omega (arith, b, g))))) (omega arith)

  -- nothing is filled in a matrix of zeros
  pub nothing_filled : AllFit integers (zero_matrix (pos 0) (adjoint_dimension d) (adjoint_dimension d)) → IsPartial d n r k (zero_matrix (pos 0) (adjoint_dimension d) (adjoint_dimension d)) 0 0
  nothing_filled f = record {
    height = refl;
    width = refl;
    shaped = table-shaped (pos 0) (adjoint_dimension d) (adjoint_dimension d) _;
    fit = f;
    done = λ i j a b o. ⊎_elim (λ q. absurd (omega (arith, q))) (λ q. absurd (let m = q.1 in omega (arith, m))) o;
    blank = λ i j a b o. entry-table (pos 0) (adjoint_dimension d) (adjoint_dimension d) (λ _ _. pos 0) i j a b;
  }

  -- all columns are filled
  pub all_filled : (M : Matrix ℤ) (c : ℕ) → adjoint_dimension d ≤ c → IsPartial d n r k M c 0 → IsDividedMatrix d n r k M
  all_filled M c l p = record {
    square = record { height = p.height; width = p.width; shaped = p.shaped; fit = p.fit };
    entries = λ i j a b. p.done i j a b (inl (omega (arith, b, l)));
  }
