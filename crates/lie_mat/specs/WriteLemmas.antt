-- What a write to one column leaves.
-- For proofs: no public clause cites it.
use Rattle.std.proofs.Common.{◌≡◌, ◌≢◌, ℕ, zero, suc, ◌<◌, ◌⊎◌, List, [], ◌∷◌, length, set, refl, sym, ap, ◌∙◌, inl, inr, subst, arith, Some, None, cond, true, false, Bool, eqb, length-set}
use Rattle.std.specs.Option.{unwrap_or}
use Rattle.std.specs.Map.{lookup}
use Rattle.std.specs.BTreeMap.{BTreeMap, is_at}
use Rattle.std.specs.Ordering.{nat_cmp}
use Rattle.std.proofs.lemmas.Bool.{cases_eq, eq-eqb, ne_eqb}
use Rattle.lie_ring.specs.Matrices.{table, entry, with_entry}
use Rattle.lie_mat.specs.Columns.{stored, matrix_of, IsKept}
use Rattle.lie_ring.specs.MatrixLemmas.{table-same}
use Rattle.lie_mat.specs.ColumnLemmas.{entry-matrix_of}

-- what is kept in a column that was written
pub stored-set_same : {A : Type 0} (columns : List (BTreeMap ℕ A)) (i j : ℕ) (c : BTreeMap ℕ A) → j < length columns → stored (set columns j c) i j ≡ lookup (is_at (nat_cmp i)) c.entries
stored-set_same [] i j c h = absurd (omega arith)
stored-set_same (d ∷ ds) i zero c h = refl
stored-set_same (d ∷ ds) i (suc j) c h = stored-set_same ds i j c (omega arith)

-- what is kept in another column
pub stored-set_other : {A : Type 0} (columns : List (BTreeMap ℕ A)) (i j k : ℕ) (c : BTreeMap ℕ A) → k ≢ j → stored (set columns j c) i k ≡ stored columns i k
stored-set_other [] i j k c h = refl
stored-set_other (d ∷ ds) i zero zero c h = absurd (h refl)
stored-set_other (d ∷ ds) i zero (suc k) c h = refl
stored-set_other (d ∷ ds) i (suc j) zero c h = refl
stored-set_other (d ∷ ds) i (suc j) (suc k) c h = stored-set_other ds i j k c (λ e. h (ap suc e))

-- what is read where e was written, or nothing as it is zero
given-at : {A : Type 0} (z e : A) (is_zero : Bool) → (is_zero ≡ true → e ≡ z) → unwrap_or (cond is_zero None (Some e)) z ≡ e
given-at z e true h = sym (h refl)
given-at z e false h = refl

module _ {A : Type 0} (z : A) (height : ℕ) (columns : List (BTreeMap ℕ A)) (kept : IsKept z height columns) (row col : ℕ) (c : BTreeMap ℕ A) (low : row < height) (left : col < length columns) where
  -- each look-up in the new column is an old one, or is at the row and finds nothing or a value other than zero
  pub kept-set : ((i : ℕ) → (lookup (is_at (nat_cmp i)) c.entries ≡ stored columns i col) ⊎ ((i ≡ row) × ((y : A) → lookup (is_at (nat_cmp i)) c.entries ≡ Some y → y ≢ z))) → IsKept z height (set columns col c)
  kept-set changed = record {
    nonzero = λ i j y is. elim (cases_eq j col) [
      | inl e ↦
          let found = sym (stored-set_same columns i col c left) ∙ subst (λ k. stored (set columns col c) i k ≡ Some y) e is in
          elim (changed i) [ inl old ↦ kept.nonzero i col y (sym old ∙ found) | inr new ↦ new.1 y found ]
      | inr n ↦ kept.nonzero i j y (sym (stored-set_other columns i col j c n) ∙ is)
    ];
    within = λ i j y is. elim (cases_eq j col) [
      | inl e ↦
          let found = sym (stored-set_same columns i col c left) ∙ subst (λ k. stored (set columns col c) i k ≡ Some y) e is in
          elim (changed i) [ inl old ↦ kept.within i col y (sym old ∙ found) | inr new ↦ omega (arith, new.0) ]
      | inr n ↦ kept.within i j y (sym (stored-set_other columns i col j c n) ∙ is)
    ];
    height = kept.height;
    width = omega (arith, length-set columns col c, kept.width);
  }

  -- a column with the same look-ups
  pub matrix-unchanged : ((i : ℕ) → lookup (is_at (nat_cmp i)) c.entries ≡ stored columns i col) → matrix_of z height (set columns col c) ≡ matrix_of z height columns
  matrix-unchanged same =
      ap (λ w. table height w (λ i j. unwrap_or (stored (set columns col c) i j) z)) (length-set columns col c)
      ∙ table-same height (length columns) _ _ (λ i j _ _. ap (λ o. unwrap_or o z) (elim (cases_eq j col) [
        | inl e ↦ ap (stored (set columns col c) i) e ∙ stored-set_same columns i col c left ∙ same i ∙ ap (stored columns i) (sym e)
        | inr n ↦ stored-set_other columns i col j c n
      ]))

  -- a column in which the row has e, or nothing where e is zero
  pub matrix-written : (e : A) (is_zero : Bool) → (is_zero ≡ true → e ≡ z) → ((i : ℕ) → lookup (is_at (nat_cmp i)) c.entries ≡ cond (eqb i row) (cond is_zero None (Some e)) (stored columns i col)) → matrix_of z height (set columns col c) ≡ with_entry z (matrix_of z height columns) row col e
  matrix-written e is_zero zero_is new =
      ap (λ w. table height w (λ i j. unwrap_or (stored (set columns col c) i j) z)) (length-set columns col c)
      ∙ table-same height (length columns) _ _ (λ i j a b.
      let old = entry-matrix_of z height columns i j a b in
      elim (cases_eq j col) [
        | inl at_col ↦
            ap (λ o. unwrap_or o z) (ap (stored (set columns col c) i) at_col ∙ stored-set_same columns i col c left ∙ new i)
            ∙ elim (eqb i row) as (λ t. unwrap_or (cond t (cond is_zero None (Some e)) (stored columns i col)) z ≡ cond t (cond (eqb j col) e (entry z (matrix_of z height columns) i j)) (entry z (matrix_of z height columns) i j)) [
              | true ↦ given-at z e is_zero zero_is ∙ ap (λ t. cond t e (entry z (matrix_of z height columns) i j)) (sym (eq-eqb j col at_col))
              | false ↦ ap (λ k. unwrap_or (stored columns i k) z) (sym at_col) ∙ sym old
            ]
        | inr n ↦
            ap (λ o. unwrap_or o z) (stored-set_other columns i col j c n) ∙ sym old
            ∙ elim (eqb i row) as (λ t. entry z (matrix_of z height columns) i j ≡ cond t (cond (eqb j col) e (entry z (matrix_of z height columns) i j)) (entry z (matrix_of z height columns) i j)) [
              | true ↦ ap (λ t. cond t e (entry z (matrix_of z height columns) i j)) (sym (ne_eqb j col n))
              | false ↦ refl
            ]
      ])

-- a value that is kept after a write is not zero
written-value : {A : Type 0} (z e y : A) (is_zero : Bool) → (is_zero ≡ false → e ≢ z) → cond is_zero None (Some e) ≡ Some y → y ≢ z
written-value z e y true h is = absurd (cc is)
written-value z e y false h is =
    let same : e ≡ y = ap (λ o. unwrap_or o z) is in
    λ p. h refl (same ∙ p)

-- what a write changes of the look-ups
pub changed-put : {A : Type 0} (z e : A) (is_zero : Bool) (row : ℕ) (new old : List (ℕ × A)) → (is_zero ≡ false → e ≢ z)
    → ((i : ℕ) → lookup (is_at (nat_cmp i)) new ≡ cond (eqb i row) (cond is_zero None (Some e)) (lookup (is_at (nat_cmp i)) old))
    → (i : ℕ) → (lookup (is_at (nat_cmp i)) new ≡ lookup (is_at (nat_cmp i)) old) ⊎ ((i ≡ row) × ((y : A) → lookup (is_at (nat_cmp i)) new ≡ Some y → y ≢ z))
changed-put z e is_zero row new old nonzero h i = elim (cases_eq i row) [
  | inl at_row ↦ inr (at_row, λ y is. written-value z e y is_zero nonzero (sym (h i ∙ ap (λ b. cond b (cond is_zero None (Some e)) (lookup (is_at (nat_cmp i)) old)) (eq-eqb i row at_row)) ∙ is))
  | inr n ↦ inl (h i ∙ ap (λ b. cond b (cond is_zero None (Some e)) (lookup (is_at (nat_cmp i)) old)) (ne_eqb i row n))
]
