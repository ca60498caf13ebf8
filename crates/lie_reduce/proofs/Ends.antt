-- From the array to the matrix: what the elimination tells of it.
use Rattle.std.proofs.Common.{◌≡◌, ℕ, ◌+◌, ◌*◌, ◌<◌, List, length, refl, sym, ap, ◌∙◌, arith}
use Rattle.std.proofs.lemmas.Bool.{ltb-true}
use Rattle.lie_ring.specs.Matrices.{Matrix, table, entry, EachElem}
use Rattle.lie_ring.specs.MatrixLemmas.{table-same}
use Rattle.lie_field.specs.FiniteField.{FiniteField}
use Rattle.lie_field.specs.FieldRing.{field_ring}
use Rattle.lie_field.specs.Quotient.{order}
use Rattle.lie_dense.specs.Flat.{place, square_of}
use Rattle.lie_dense.proofs.FlatLemmas.{square-entry, place_below}
use Rattle.lie_reduce.specs.Triangular.{AreFactors, HasNoFactors}
use Rattle.lie_reduce.specs.Elimination.{Factored, AreApart, HasNoCorners}
use Rattle.lie_reduce.specs.Factors.{part_entry}
use Rattle.lie_reduce.specs.declared.parts.Part.TheVariants.{Upper, Diagonal, Lower}
use Rattle.lie_reduce.proofs.Triangles.{factored, factors_of}

-- factors of a matrix with the same entries
factored-same : (f : FiniteField) (n : ℕ) (M N : ℕ → ℕ → ℕ) → ((i j : ℕ) → i < n → j < n → M i j ≡ N i j) → Factored f n M → Factored f n N
factored-same f n M N same x = record {
  u = x.u;
  d = x.d;
  l = x.l;
  u_one = x.u_one;
  u_zero = x.u_zero;
  u_below = x.u_below;
  d_unit = x.d_unit;
  d_below = x.d_below;
  l_one = x.l_one;
  l_zero = x.l_zero;
  l_below = x.l_below;
  sums = λ i j p q. sym (same i j p q) ∙ x.sums i j p q;
}

module _ (f : FiniteField) (M : Matrix ℕ) (xs : List ℕ) (is : square_of M.height xs ≡ M) where
  same_entry : (i j : ℕ) → i < M.height → j < M.height → entry 0 M i j ≡ place M.height xs i j
  same_entry i j p q = ap (λ N. entry 0 N i j) (sym is) ∙ square-entry M.height xs i j p q

  -- an array without factors is that of a matrix without factors
  pub no_factors : HasNoCorners f M.height (place M.height xs) → HasNoFactors f M
  no_factors none U D L x = none (factored-same f M.height (entry 0 M) (place M.height xs) same_entry (factored f M U D L x))

  -- the factors that stand in the array in the end
  pub all_factors : (ys : List ℕ) → length ys ≡ M.height * M.height → EachElem (field_ring f) ys → AreApart f M.height 0 (place M.height xs) (place M.height ys)
      → AreFactors f M (table M.height M.height (part_entry Upper (place M.height ys))) (table M.height M.height (part_entry Diagonal (place M.height ys))) (table M.height M.height (part_entry Lower (place M.height ys)))
  all_factors ys long elems apart =
      let n = M.height in
      factors_of f n (place n ys)
      (λ i j p q. ltb-true (place n ys i j) (order f.given) (elems (i * n + j) (let b = place_below n i j p q in omega (arith, b, long))))
      M refl
      (sym is ∙ shape)
      (record {
        units = apart.units;
        sums = λ i j p q. same_entry i j p q ∙ apart.sums i j p q;
        left = λ x i j p q. absurd (let never : ⊥ = omega (arith, p) in never);
      })
    where
      shape : square_of M.height xs ≡ table M.height M.height (entry 0 M)
      shape = table-same M.height M.height (place M.height xs) (entry 0 M) (λ i j p q. sym (same_entry i j p q))
