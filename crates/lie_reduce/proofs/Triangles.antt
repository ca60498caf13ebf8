-- Triangular factors as matrices, and by their entries.
use Rattle.std.proofs.Common.{◌≡◌, ◌≢◌, ℕ, ◌<◌, cond, eqb, refl, sym, ap, ap₂, ◌∙◌, inl, inr, subst, arith}
use Rattle.std.proofs.lemmas.Bool.{ltb-true, lt-ltb, le-ltb, cases_lt, cases_eq, eq-eqb, ne_eqb}
use Rattle.lie_ring.specs.Rings.{IsElem, sum_below}
use Rattle.lie_ring.specs.SumLemmas.{sum-same, sum-only, sum-elem}
use Rattle.lie_ring.specs.Matrices.{Matrix, table, entry, product, product_entry, product_term}
use Rattle.lie_ring.specs.MatrixLemmas.{entry-table, table-same, table-shaped}
use Rattle.lie_field.specs.FiniteField.{FiniteField}
use Rattle.lie_field.specs.FieldRing.{field_ring, field_is_ring}
use Rattle.lie_field.specs.Quotient.{order, add, mul}
use Rattle.lie_field.specs.Algebra.FieldTest.{is_lawful}
use Rattle.lie_field.specs.Algebra.Laws
use Rattle.lie_field.specs.Algebra.Powers
use Rattle.lie_reduce.specs.Triangular.{IsSquare, IsUpperUnitriangular, IsLowerUnitriangular, IsInvertibleDiagonal, AreFactors, OneFactors}
use Rattle.lie_reduce.specs.Elimination.{Factored, AreApart, above, below, outer, outer_from}
use Rattle.lie_reduce.proofs.FieldFacts.{mul_is_elem, zero_plus}
use Rattle.lie_reduce.proofs.Steps.{corner-below, above-kept, above-one, above-zero, below-kept, below-one, below-zero}
use Rattle.lie_reduce.proofs.Exact.{agree}

module _ (f : FiniteField) (n : ℕ) where
  -- the entries of a product with a diagonal matrix between
  product-diagonal : (U D L : Matrix ℕ) → IsSquare (field_ring f) n U → IsSquare (field_ring f) n D → IsSquare (field_ring f) n L
      → ((i j : ℕ) → i < n → j < n → i ≢ j → entry 0 D i j ≡ 0)
      → (i j : ℕ) → i < n → j < n
      → entry 0 (product (field_ring f) U (product (field_ring f) D L)) i j
      ≡ sum_below (field_ring f) n (λ c. mul f.given (entry 0 U i c) (mul f.given (entry 0 D c c) (entry 0 L c j)))
  product-diagonal U D L u d l beside i j p q =
      let R = field_ring f in
      let r = (is_lawful f).ring in
      let U_height : U.height ≡ n = ap (λ M. M.height) u.shape in
      let U_width : U.width ≡ n = ap (λ M. M.width) u.shape in
      let D_height : D.height ≡ n = ap (λ M. M.height) d.shape in
      let D_width : D.width ≡ n = ap (λ M. M.width) d.shape in
      let L_width : L.width ≡ n = ap (λ M. M.width) l.shape in
      entry-table 0 U.height L.width (product_entry R U (product R D L)) i j (omega (arith, p, U_height)) (omega (arith, q, L_width))
      ∙ ap (λ m. sum_below R m (product_term R U (product R D L) i j)) U_width
      ∙ sum-same R n (product_term R U (product R D L) i j) (λ c. mul f.given (entry 0 U i c) (mul f.given (entry 0 D c c) (entry 0 L c j))) (λ c s.
      ap (mul f.given (entry 0 U i c))
      (entry-table 0 D.height L.width (product_entry R D L) c j (omega (arith, s, D_height)) (omega (arith, q, L_width))
      ∙ ap (λ m. sum_below R m (product_term R D L c j)) D_width
      ∙ sum-only R (field_is_ring f).laws n c (product_term R D L c j) s
      (λ e _. mul_is_elem f (entry 0 D c e) (entry 0 L e j))
      (λ e t other. ap (λ y. mul f.given y (entry 0 L e j)) (beside c e s t (λ same. other (sym same))) ∙ Laws.zero_mul f.given r (entry 0 L e j))))

  -- an entry of a square matrix is below q
  entry_below : (M : Matrix ℕ) → IsSquare (field_ring f) n M → (i j : ℕ) → i < n → j < n → entry 0 M i j < order f.given
  entry_below M m i j p q =
      let height : M.height ≡ n = ap (λ N. N.height) m.shape in
      let width : M.width ≡ n = ap (λ N. N.width) m.shape in
      ltb-true (entry 0 M i j) (order f.given) (m.elem i j (omega (arith, p, height)) (omega (arith, q, width)))

-- factors of a matrix, by their entries
pub factored : (f : FiniteField) (M U D L : Matrix ℕ) → AreFactors f M U D L → Factored f M.height (entry 0 M)
factored f M U D L x =
    let n = M.height in
    record {
      u = entry 0 U;
      d = λ c. entry 0 D c c;
      l = entry 0 L;
      u_one = x.upper.diagonal;
      u_zero = x.upper.below;
      u_below = entry_below f n U x.upper.square;
      d_unit = x.diagonal.units;
      d_below = λ i p. entry_below f n D x.diagonal.square i i p p;
      l_one = x.lower.diagonal;
      l_zero = x.lower.above;
      l_below = entry_below f n L x.lower.square;
      sums = λ i j p q. ap (λ N. entry 0 N i j) x.product ∙ product-diagonal f n U D L x.upper.square x.diagonal.square x.lower.square x.diagonal.beside i j p q;
    }

-- the factors are the only ones
pub one_factors : OneFactors
unfolding factored
one_factors f M U D L U' D' L' x y =
    let n = M.height in
    let a = factored f M U D L x in
    let b = factored f M U' D' L' y in
    let same = agree f n (entry 0 M) a b in (
      x.upper.square.shape
          ∙ table-same n n (entry 0 U) (entry 0 U') (λ i j p q. elim (cases_lt i j) [
            | inl less ↦ (same j q).column i less
            | inr more ↦ elim (cases_lt j i) [
              | inl under ↦ x.upper.below i j p under ∙ sym (y.upper.below i j p under)
              | inr over ↦ let e : i ≡ j = omega (arith, more, over) in ap (entry 0 U i) (sym e) ∙ x.upper.diagonal i p ∙ sym (ap (entry 0 U' i) (sym e) ∙ y.upper.diagonal i p)
            ]
          ])
          ∙ sym y.upper.square.shape,
      x.diagonal.square.shape
          ∙ table-same n n (entry 0 D) (entry 0 D') (λ i j p q. elim (cases_eq i j) [
            | inl e ↦ ap (entry 0 D i) (sym e) ∙ (same i p).diagonal ∙ sym (ap (entry 0 D' i) (sym e))
            | inr h ↦ x.diagonal.beside i j p q h ∙ sym (y.diagonal.beside i j p q h)
          ])
          ∙ sym y.diagonal.square.shape,
      x.lower.square.shape
          ∙ table-same n n (entry 0 L) (entry 0 L') (λ i j p q. elim (cases_lt j i) [
            | inl less ↦ (same i p).row j less
            | inr more ↦ elim (cases_lt i j) [
              | inl over ↦ x.lower.above i j q over ∙ sym (y.lower.above i j q over)
              | inr under ↦ let e : i ≡ j = omega (arith, more, under) in ap (entry 0 L i) (sym e) ∙ x.lower.diagonal i p ∙ sym (ap (entry 0 L' i) (sym e) ∙ y.lower.diagonal i p)
            ]
          ])
          ∙ sym y.lower.square.shape,
    )

-- ---- the factors that the array has in the end
module _ (f : FiniteField) (n : ℕ) (P : ℕ → ℕ → ℕ) (small : (i j : ℕ) → i < n → j < n → P i j < order f.given) where
  one_small : 1 < order f.given
  one_small = Powers.one_below f.given (is_lawful f).ring

  table_square : (g : ℕ → ℕ → ℕ) → ((i j : ℕ) → i < n → j < n → g i j < order f.given) → IsSquare (field_ring f) n (table n n g)
  table_square g below_q = record {
    shape = table-shaped 0 n n g;
    elem = λ i j p q. subst (IsElem (field_ring f)) (sym (entry-table 0 n n g i j p q)) (lt-ltb (g i j) (order f.given) (below_q i j p q));
  }

  -- the upper unitriangular one
  pub upper_of : IsUpperUnitriangular (field_ring f) n (table n n (above P))
  upper_of = record {
    square = table_square (above P) (λ i j p q. elim (cases_lt i j) [
      | inl less ↦ subst (λ x. x < order f.given) (sym (above-kept P i j less)) (small i j p q)
      | inr more ↦ elim (cases_lt j i) [
        | inl under ↦ subst (λ x. x < order f.given) (sym (above-zero P i j under)) (omega (arith, one_small))
        | inr over ↦ let e : i ≡ j = omega (arith, more, over) in subst (λ y. above P i y < order f.given) e (subst (λ x. x < order f.given) (sym (above-one P i)) one_small)
      ]
    ]);
    diagonal = λ i p. entry-table 0 n n (above P) i i p p ∙ above-one P i;
    below = λ i j p q. entry-table 0 n n (above P) i j p (omega (arith, p, q)) ∙ above-zero P i j q;
  }

  -- the lower unitriangular one
  pub lower_of : IsLowerUnitriangular (field_ring f) n (table n n (below P))
  lower_of = record {
    square = table_square (below P) (λ i j p q. elim (cases_lt j i) [
      | inl less ↦ subst (λ x. x < order f.given) (sym (below-kept P i j less)) (small i j p q)
      | inr more ↦ elim (cases_lt i j) [
        | inl over ↦ subst (λ x. x < order f.given) (sym (below-zero P i j over)) (omega (arith, one_small))
        | inr under ↦ let e : i ≡ j = omega (arith, more, under) in subst (λ y. below P i y < order f.given) e (subst (λ x. x < order f.given) (sym (below-one P i)) one_small)
      ]
    ]);
    diagonal = λ i p. entry-table 0 n n (below P) i i p p ∙ below-one P i;
    above = λ i j q p. entry-table 0 n n (below P) i j (omega (arith, p, q)) q ∙ below-zero P i j p;
  }

  -- the entries of the diagonal one
  abbrev pub on_diagonal : ℕ → ℕ → ℕ
  on_diagonal i j = cond (eqb i j) (P i j) 0

  on_diagonal-same : (i : ℕ) → on_diagonal i i ≡ P i i
  on_diagonal-same i = ap (λ b. cond b (P i i) 0) (eq-eqb i i refl)

  on_diagonal-other : (i j : ℕ) → i ≢ j → on_diagonal i j ≡ 0
  on_diagonal-other i j h = ap (λ b. cond b (P i j) 0) (ne_eqb i j h)

  -- it is diagonal and invertible
  pub diagonal_of : ((c : ℕ) → c < n → P c c ≢ 0) → IsInvertibleDiagonal (field_ring f) n (table n n on_diagonal)
  diagonal_of units = record {
    square = table_square on_diagonal (λ i j p q. elim (cases_eq i j) [
      | inl e ↦ subst (λ y. on_diagonal i y < order f.given) e (subst (λ x. x < order f.given) (sym (on_diagonal-same i)) (small i i p p))
      | inr h ↦ subst (λ x. x < order f.given) (sym (on_diagonal-other i j h)) (omega (arith, one_small))
    ]);
    beside = λ i j p q h. entry-table 0 n n on_diagonal i j p q ∙ on_diagonal-other i j h;
    units = λ i p e. units i p (sym (entry-table 0 n n on_diagonal i i p p ∙ on_diagonal-same i) ∙ e);
  }

  -- their product is the matrix that was taken apart
  pub factors_of : (M : Matrix ℕ) → M.height ≡ n → M ≡ table n n (entry 0 M) → AreApart f n 0 (entry 0 M) P
      → AreFactors f M (table n n (above P)) (table n n on_diagonal) (table n n (below P))
  factors_of M height shape apart =
      let R = field_ring f in
      let U = table n n (above P) in
      let D = table n n on_diagonal in
      let L = table n n (below P) in
      let d = diagonal_of (λ c p. apart.units c (omega arith) p) in
      let term = λ (i j c : ℕ). mul f.given (entry 0 U i c) (mul f.given (entry 0 D c c) (entry 0 L c j)) in
      let whole : M ≡ product R U (product R D L) =
      shape
      ∙ table-same n n (entry 0 M) (product_entry R U (product R D L)) (λ i j p q.
      apart.sums i j p q
      ∙ ap₂ (add f.given) (corner-below P 0 i j (omega arith)) (sum-same R n (outer_from f.given 0 P i j) (outer f.given P i j) (λ c _. ap (λ b. cond b 0 (outer f.given P i j c)) (le-ltb c 0 (omega arith))))
      ∙ zero_plus f (sum_below R n (outer f.given P i j)) (ltb-true _ (order f.given) (sum-elem R (field_is_ring f).laws n (outer f.given P i j) (λ c _. mul_is_elem f _ _)))
      ∙ sum-same R n (outer f.given P i j) (term i j) (λ c s.
      sym (ap₂ (mul f.given) (entry-table 0 n n (above P) i c p s)
      (ap₂ (mul f.given) (entry-table 0 n n on_diagonal c c s s ∙ on_diagonal-same c) (entry-table 0 n n (below P) c j s q))))
      ∙ sym (product-diagonal f n U D L upper_of.square d.square lower_of.square d.beside i j p q)
      ∙ entry-table 0 n n (product_entry R U (product R D L)) i j p q)
      in
      subst (λ m. (IsUpperUnitriangular R m U) → (IsInvertibleDiagonal R m D) → (IsLowerUnitriangular R m L) → AreFactors f M U D L) height
      (λ a b c. record { upper = a; diagonal = b; lower = c; product = whole })
      upper_of d lower_of
