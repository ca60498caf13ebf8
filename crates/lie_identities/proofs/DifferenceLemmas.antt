-- What is found on the basis vectors, one after the other, is what the audit names.
-- Own: the order of the entries: by column, then row.
use Rattle.std.proofs.Common.{◌≡◌, ℕ, ◌+◌, ◌-◌, ◌<◌, ℤ, List, [], ◌∷◌, refl, sym, ap, ◌∙◌, subst, arith, inl, inr}
use Rattle.lie_ring.specs.Matrices.{entry}
use Rattle.lie_datum.specs.RootList.{RootDatum}
use Rattle.lie_const.specs.Modules.{Module, dimension}
use Rattle.lie_poly.specs.Polynomials.{Polynomial, laurent, coefficient}
use Rattle.lie_poly.specs.LaurentLaws.{laurent_ring}
use Rattle.lie_poly.specs.Differences.{IsFirstDifference}
use Rattle.lie_identities.specs.AuditRelations.{Factor, RootElement, CorootElement, side_matrix}
use Rattle.lie_identities.specs.Audit.{laurent_variables, IsEntryBefore, IsFirstDifferentEntry}
use Rattle.lie_identities.specs.Columns.{side_column}
use Rattle.lie_identities.proofs.FactorLemmas.{polynomials, AreFactorsOver, side-height, side-elem}
use Rattle.lie_identities.proofs.SideLemmas.{side-column, product-unit, same-columns, side-shaped, side-wide}

module _ (d : RootDatum) (v : Module) (xs : List (Factor Polynomial)) (over : AreFactorsOver laurent xs) where
  -- an entry of a side, in its column
  pub column-entry : (a b : ℕ) → a < dimension v → b < dimension v → entry laurent.zero (side_column laurent_variables d v xs b) a 0 ≡ entry laurent.zero (side_matrix laurent_variables d v xs) a b
  column-entry a b p q =
      ap (λ V. entry laurent.zero V a 0) (sym (side-column laurent_variables d v laurent_ring polynomials xs b over))
      ∙ product-unit laurent laurent_ring (side_matrix laurent_variables d v xs) (dimension v) a b (side-wide laurent_variables d v xs)
      (side-elem laurent_variables d v laurent_ring polynomials xs over) (let h = side-height laurent_variables d v laurent_ring polynomials xs in omega (arith, h, p)) q

-- all polynomials are elements
pub all_over : (xs : List (Factor Polynomial)) → AreFactorsOver laurent xs
all_over [] = tt
all_over (RootElement r f ∷ xs) = (refl, all_over xs)
all_over (CorootElement i ∷ xs) = (tt, all_over xs)

module _ (d : RootDatum) (v : Module) (ls rs : List (Factor Polynomial)) where
  -- equal on all basis vectors
  pub same-by_columns : ((b : ℕ) → b < dimension v → side_column laurent_variables d v ls b ≡ side_column laurent_variables d v rs b) → side_matrix laurent_variables d v ls ≡ side_matrix laurent_variables d v rs
  same-by_columns same =
      let y = laurent_variables in
      same-columns laurent laurent_ring (side_matrix laurent_variables d v ls) (side_matrix laurent_variables d v rs) (dimension v)
      (side-shaped y d v ls) (side-shaped y d v rs)
      (side-height y d v laurent_ring polynomials ls) (side-wide y d v ls) (side-height y d v laurent_ring polynomials rs) (side-wide y d v rs)
      (side-elem y d v laurent_ring polynomials ls (all_over ls)) (side-elem y d v laurent_ring polynomials rs (all_over rs))
      (λ b p. side-column y d v laurent_ring polynomials ls b (all_over ls) ∙ same b p ∙ sym (side-column y d v laurent_ring polynomials rs b (all_over rs)))

  -- equal on the basis vectors before col, and in the rows before row there; and different in that row
  pub difference-by_columns : (row col : ℕ) (et eu left right : ℤ) → row < dimension v → col < dimension v
      → ((b : ℕ) → b < col → side_column laurent_variables d v ls b ≡ side_column laurent_variables d v rs b)
      → ((a : ℕ) → a < row → entry laurent.zero (side_column laurent_variables d v ls col) a 0 ≡ entry laurent.zero (side_column laurent_variables d v rs col) a 0)
      → IsFirstDifference (coefficient (entry laurent.zero (side_column laurent_variables d v ls col) row 0)) (coefficient (entry laurent.zero (side_column laurent_variables d v rs col) row 0)) et eu left right
      → IsFirstDifferentEntry (side_matrix laurent_variables d v ls) (side_matrix laurent_variables d v rs) (row + 1) (col + 1) et eu left right
  difference-by_columns row col et eu left right p q cols rows here =
      let h = side-height laurent_variables d v laurent_ring polynomials ls in
      let w = side-wide laurent_variables d v ls in
      let l-at = column-entry d v ls (all_over ls) in
      let r-at = column-entry d v rs (all_over rs) in
      let back_row : (row + 1) - 1 ≡ row = omega arith in
      let back_col : (col + 1) - 1 ≡ col = omega arith in
      record {
        row_first = omega arith;
        row_last = omega (arith, h, p);
        col_first = omega arith;
        col_last = omega (arith, w, q);
        here =
            subst (λ i. IsFirstDifference (coefficient (entry laurent.zero (side_matrix laurent_variables d v ls) i ((col + 1) - 1))) (coefficient (entry laurent.zero (side_matrix laurent_variables d v rs) i ((col + 1) - 1))) et eu left right) (sym back_row)
            (subst (λ j. IsFirstDifference (coefficient (entry laurent.zero (side_matrix laurent_variables d v ls) row j)) (coefficient (entry laurent.zero (side_matrix laurent_variables d v rs) row j)) et eu left right) (sym back_col)
            (subst (λ x. IsFirstDifference (coefficient x) (coefficient (entry laurent.zero (side_matrix laurent_variables d v rs) row col)) et eu left right) (l-at row col p q)
            (subst (λ x. IsFirstDifference (coefficient (entry laurent.zero (side_column laurent_variables d v ls col) row 0)) (coefficient x) et eu left right) (r-at row col p q) here)));
        earlier = λ a b i j before. earlier-entry a b (omega (arith, h, i)) (omega (arith, w, j)) before;
      }
    where
      earlier-entry : (a b : ℕ) → a < dimension v → b < dimension v → IsEntryBefore a b ((row + 1) - 1) ((col + 1) - 1) → entry laurent.zero (side_matrix laurent_variables d v ls) a b ≡ entry laurent.zero (side_matrix laurent_variables d v rs) a b
      earlier-entry a b i j (inl l) =
          sym (column-entry d v ls (all_over ls) a b i j)
          ∙ ap (λ V. entry laurent.zero V a 0) (cols b (omega (arith, l)))
          ∙ column-entry d v rs (all_over rs) a b i j
      earlier-entry a b i j (inr h) =
          let e : b ≡ col = omega (arith, h.0) in
          sym (column-entry d v ls (all_over ls) a b i j)
          ∙ ap (λ k. entry laurent.zero (side_column laurent_variables d v ls k) a 0) e
          ∙ rows a (omega (arith, h.1))
          ∙ ap (λ k. entry laurent.zero (side_column laurent_variables d v rs k) a 0) (sym e)
          ∙ column-entry d v rs (all_over rs) a b i j
