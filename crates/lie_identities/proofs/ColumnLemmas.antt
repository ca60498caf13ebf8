-- A column: the first one, what a coroot makes of it, and which basis vectors a factor does not move.
use Rattle.std.proofs.Common.{◌≡◌, ℕ, ◌+◌, ◌<◌, ℤ, [], map, cond, eqb, true, false, Bool, refl, sym, ap, ap₂, ◌∙◌, subst, arith, inl, inr}
use Rattle.std.proofs.lemmas.Bool.{eq-eqb, ne_eqb, cases_eq}
use Rattle.lie_ring.specs.Rings.{Fits}
use Rattle.lie_ring.specs.RingLemmas.{zero_mul, mul_zero}
use Rattle.lie_ring.specs.SumLemmas.{sum-only, sum-zeros}
use Rattle.lie_ring.specs.Matrices.{Matrix, entry, zero_matrix, with_entry, product, product_entry, product_term, AllElem, AllFit, IsShaped}
use Rattle.lie_ring.specs.MatrixLemmas.{entry-table, table-same, table-shaped, matrix-same}
use Rattle.lie_datum.specs.RootList.{RootDatum}
use Rattle.lie_const.specs.Modules.{Module, dimension, root_element}
use Rattle.lie_poly.specs.Polynomials.{Polynomial, laurent}
use Rattle.lie_poly.specs.LaurentLaws.{laurent_ring}
use Rattle.lie_identities.specs.AuditRelations.{CorootElement, coroot_power, factor_matrix}
use Rattle.lie_identities.specs.Audit.{laurent_variables}
use Rattle.lie_identities.specs.Columns.{unit_column, moved_entry, part, part_size, IsColumn}
use Rattle.lie_identities.specs.StepLists.{steps_of}
use Rattle.lie_identities.specs.Moves.{AddsRows, addition, IsRowMultiplied, AreRowsMultiplied}
use Rattle.lie_identities.specs.Additions.{added_in}
use Rattle.lie_identities.proofs.SizeLemmas.{sum_nonnegative}
use Rattle.lie_identities.proofs.StepLemmas.{steps-add}
use Rattle.lie_identities.proofs.WalkLemmas.{part_zero, part_nonnegative}
use Rattle.lie_identities.proofs.RowLemmas.{rows-product}

-- ---- the column of a basis vector
-- 1 is written in the column of zeros
pub unit-written : (n b : ℕ) → with_entry laurent.zero (zero_matrix laurent.zero n 1) b 0 laurent.one ≡ unit_column laurent n b
unit-written n b = table-same n 1 _ (λ a _. cond (eqb a b) laurent.one laurent.zero) (λ i j p q.
    let old : entry laurent.zero (zero_matrix laurent.zero n 1) i j ≡ laurent.zero = entry-table laurent.zero n 1 (λ _ _. laurent.zero) i j p q in
    let at : eqb j 0 ≡ true = eq-eqb j 0 (omega (arith, q)) in
    ap₂ (λ x t. cond (eqb i b) (cond t laurent.one x) x) old at)

-- it may be handed to calls
pub unit-column : (n b : ℕ) → IsColumn n (unit_column laurent n b)
unit-column n b = record {
  height = refl;
  width = refl;
  shaped = table-shaped laurent.zero n 1 (λ a _. cond (eqb a b) laurent.one laurent.zero);
  fit = λ i j p q. subst (Fits laurent) (sym (entry-table laurent.zero n 1 (λ a _. cond (eqb a b) laurent.one laurent.zero) i j p q)) (either (eqb i b));
}
  where
    either : (t : Bool) → Fits laurent (cond t laurent.one laurent.zero)
    either true = (refl, omega arith)
    either false = (refl, omega arith)

-- ---- what a coroot makes of a column
module _ (d : RootDatum) (v : Module) (i : ℕ) (V : Matrix Polynomial) (column : IsColumn (dimension v) V) where
  abbrev D : Matrix Polynomial
  D = factor_matrix laurent_variables d v (CorootElement i)

  diagonal : ℕ → ℕ → Polynomial
  diagonal a b = cond (eqb a b) (coroot_power laurent_variables d v i a) laurent.zero

  coroot-entry : (a : ℕ) → a < dimension v → entry laurent.zero (product laurent (factor_matrix laurent_variables d v (CorootElement i)) V) a 0 ≡ laurent.mul (coroot_power laurent_variables d v i a) (entry laurent.zero V a 0)
  coroot-entry a l =
      let n = dimension v in
      let w = column.width in
      let p = coroot_power laurent_variables d v i a in
      let at = λ (k : ℕ) (q : k < n). entry-table laurent.zero n n (λ a b. cond (eqb a b) (coroot_power laurent_variables d v i a) laurent.zero) a k l q in
      entry-table laurent.zero n V.width (product_entry laurent D V) a 0 l (omega (arith, w))
      ∙ sum-only laurent laurent_ring.laws n a (product_term laurent D V a 0) l (λ _ _. refl)
      (λ k q apart. ap (λ x. laurent.mul x (entry laurent.zero V k 0)) (at k q ∙ ap (λ t. cond t p laurent.zero) (ne_eqb a k (λ h. apart (sym h)))) ∙ zero_mul laurent laurent_ring.laws (entry laurent.zero V k 0) refl)
      ∙ ap (λ x. laurent.mul x (entry laurent.zero V a 0)) (at a l ∙ ap (λ t. cond t p laurent.zero) (eq-eqb a a refl))

  -- a zero stays
  pub row-zero : (row : ℕ) → row < dimension v → entry laurent.zero V row 0 ≡ laurent.zero → IsRowMultiplied d v i row V V
  row-zero row m none = record {
    column = column;
    here = none ∙ sym (ap (laurent.mul (coroot_power laurent_variables d v i row)) none ∙ mul_zero laurent laurent_ring.laws (coroot_power laurent_variables d v i row) refl);
    others = λ _ _ _. refl;
  }

  -- the row is written
  pub row-written : (row : ℕ) (K : Matrix Polynomial) (p : Polynomial) → row < dimension v → AllFit laurent K
      → K ≡ with_entry laurent.zero V row 0 p → p ≡ laurent.mul (coroot_power laurent_variables d v i row) (entry laurent.zero V row 0) → IsRowMultiplied d v i row V K
  row-written row K p m fit new is =
      let tall = column.height in
      let broad = column.width in
      let at = λ (a : ℕ) (l : a < dimension v). ap (λ M. entry laurent.zero M a 0) new ∙ entry-table laurent.zero V.height V.width (λ k l. cond (eqb k row) (cond (eqb l 0) p (entry laurent.zero V k l)) (entry laurent.zero V k l)) a 0 (omega (arith, l, tall)) (omega (arith, broad)) in
      record {
        column = record {
          height = ap (λ M. M.height) new ∙ tall;
          width = ap (λ M. M.width) new ∙ broad;
          shaped = subst (IsShaped laurent.zero) (sym new) (table-shaped laurent.zero V.height V.width _);
          fit = fit;
        };
        here = at row m ∙ ap (λ t. cond t (cond (eqb 0 0) p (entry laurent.zero V row 0)) (entry laurent.zero V row 0)) (eq-eqb row row refl) ∙ is;
        others = λ a l g. at a l ∙ ap (λ t. cond t (cond (eqb 0 0) p (entry laurent.zero V a 0)) (entry laurent.zero V a 0)) (ne_eqb a row g);
      }

  -- no row at first
  pub multiplied-none : AreRowsMultiplied d v i V 0 V
  multiplied-none = record { column = column; done = λ a l _. absurd (omega (arith, l)); rest = λ a _ _. refl }

  -- one row more
  pub multiplied-next : (n : ℕ) (N K : Matrix Polynomial) → n < dimension v → AreRowsMultiplied d v i V n N → IsRowMultiplied d v i n N K → AreRowsMultiplied d v i V (n + 1) K
  multiplied-next n N K m h row = record {
    column = row.column;
    done = λ a l k. elim (cases_eq a n) [
      | inl e ↦
          ap (λ j. entry laurent.zero K j 0) e ∙ row.here
          ∙ ap (laurent.mul (coroot_power laurent_variables d v i n)) (h.rest n (omega arith) m)
          ∙ ap (λ j. laurent.mul (coroot_power laurent_variables d v i j) (entry laurent.zero V j 0)) (sym e)
      | inr g ↦ row.others a k g ∙ h.done a (omega (arith, l, g)) k
    ];
    rest = λ a l k. row.others a k (λ e. absurd (omega (arith, e, l))) ∙ h.rest a (omega (arith, l)) k;
  }

  -- all rows are
  pub multiplied-all : (N : Matrix Polynomial) → AreRowsMultiplied d v i V (dimension v) N → N ≡ product laurent (factor_matrix laurent_variables d v (CorootElement i)) V
  multiplied-all N h =
      let c = h.column in
      let tall = c.height in
      let broad = c.width in
      matrix-same laurent.zero N (product laurent D V) c.shaped (table-shaped laurent.zero (dimension v) V.width (product_entry laurent D V)) c.height (c.width ∙ sym column.width)
      (λ a j p q. (let e : j ≡ 0 = omega (arith, q, broad) in
      let l : a < dimension v = omega (arith, p, tall) in
      subst (λ k. entry laurent.zero N a k ≡ entry laurent.zero (product laurent D V) a k) (sym e) (h.done a l l ∙ sym (coroot-entry a l))))

-- ---- what X_r(f) does not move
module _ (v : Module) (r : ℤ) (f : Polynomial) (b : ℕ) (low : b < dimension v) (none : steps_of v r b ≡ []) where
  abbrev U : Matrix Polynomial
  U = unit_column laurent (dimension v) b

  all_elem : AllElem laurent U
  all_elem i j _ _ = refl

  -- nothing stands in the column beside the identity
  none-moved : (a : ℕ) → a < dimension v → moved_entry laurent v r f a b ≡ laurent.zero
  none-moved a l =
      sym (laurent_ring.laws.mul_one (moved_entry laurent v r f a b) refl)
      ∙ sym (steps-add laurent laurent_ring v r f laurent.one refl refl b a l)
      ∙ ap (λ ss. added_in laurent a (map (addition laurent f laurent.one) ss)) none

  -- nothing is added
  part-none : (a k : ℕ) → a < dimension v → k < dimension v → part laurent v r f U a k ≡ laurent.zero
  part-none a k l m = elim (cases_eq k b) [
    | inl e ↦
        ap (λ j. laurent.mul (moved_entry laurent v r f a j) (entry laurent.zero U k 0)) e
        ∙ ap (λ x. laurent.mul x (entry laurent.zero U k 0)) (none-moved a l)
        ∙ zero_mul laurent laurent_ring.laws (entry laurent.zero U k 0) refl
    | inr g ↦ part_zero laurent laurent_ring v r f refl U refl refl all_elem a k
        (entry-table laurent.zero (dimension v) 1 (λ a _. cond (eqb a b) laurent.one laurent.zero) k 0 m (omega arith) ∙ ap (λ t. cond t laurent.one laurent.zero) (ne_eqb k b g))
  ]

  none-adds : AddsRows v r f U (dimension v) []
  none-adds = record {
    additions = tt;
    value = λ a l. sym (sum-zeros laurent laurent_ring.laws (dimension v) (part laurent v r f U a) (λ k m. part-none a k l m));
    small = λ a l. sum_nonnegative (dimension v) (part_size laurent v r f U a) (λ k _. part_nonnegative laurent laurent_ring v r f refl U refl refl all_elem a k);
  }

  -- a basis vector in whose column no divided power has an entry stays
  pub unmoved : product laurent (root_element laurent v r f) (unit_column laurent (dimension v) b) ≡ unit_column laurent (dimension v) b
  unmoved = sym (rows-product v r f U (unit-column (dimension v) b) [] U none-adds (unit-column (dimension v) b) (λ a p. sym (laurent_ring.laws.add_zero (entry laurent.zero U a 0) refl)))
