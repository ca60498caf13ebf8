-- The powers of the matrix of e_r in the adjoint module, column by column: first what is general.
use Rattle.std.proofs.Common.{◌≡◌, ◌≢◌, ℕ, zero, suc, ◌<◌, ℤ, pos, ◌*ℤ◌, refl, sym, ap, subst, ◌∙◌, arith, cond, eqb}
use Rattle.std.proofs.Math.IntN.{*ℤ-zero}
use Rattle.std.proofs.lemmas.Bool.{eq-eqb, ne_eqb}
use Rattle.std.proofs.lemmas.Int.{ints}
use Rattle.lie_ring.specs.Rings.{sum_below}
use Rattle.lie_ring.specs.Integers.{integers}
use Rattle.lie_ring.specs.IntegerLaws.{integers_commutative}
use Rattle.lie_ring.specs.Matrices.{Matrix, entry, product_entry}
use Rattle.lie_ring.specs.MatrixLemmas.{entry-table}
use Rattle.lie_ring.specs.SumLemmas.{sum-same, sum-zeros, sum-only}
use Rattle.lie_datum.specs.RootList.{RootDatum}
use Rattle.lie_const.specs.StructureConstants.{Table}
use Rattle.lie_const.specs.Adjoint.{adjoint_dimension, basis_vector, bracket, bracket_matrix, matrix_power}
pub use Rattle.lie_weight.specs.AdjointParts.{power_entry}

-- a sum of integers with one term that is not zero
pub int_sum-only : (n i : ℕ) (f : ℕ → ℤ) → i < n → ((k : ℕ) → k < n → k ≢ i → f k ≡ pos 0) → sum_below integers n f ≡ f i
int_sum-only n i f l z = sum-only integers integers_commutative n i f l (λ _ _. refl) z

pub int_sum-zeros : (n : ℕ) (f : ℕ → ℤ) → ((k : ℕ) → k < n → f k ≡ pos 0) → sum_below integers n f ≡ pos 0
int_sum-zeros n f z = sum-zeros integers integers_commutative n f z

power-height : (n : ℕ) (e : Matrix ℤ) (k : ℕ) → e.height ≡ n → (matrix_power n e k).height ≡ n
power-height n e zero h = refl
power-height n e (suc k) h = h

power-width : (n : ℕ) (e : Matrix ℤ) (k : ℕ) → (matrix_power n e k).width ≡ n
power-width n e zero = refl
power-width n e (suc k) = power-width n e k

module _ (d : RootDatum) (n : Table) (r : ℤ) where
  -- what e_r does to a basis vector
  abbrev pub bracket_at : ℕ → ℕ → ℤ
  bracket_at i j = bracket d n r (basis_vector d i) (basis_vector d j)

  bracket_entry : (i j : ℕ) → i < adjoint_dimension d → j < adjoint_dimension d → entry (pos 0) (bracket_matrix d n r) i j ≡ bracket_at i j
  unfolding bracket_matrix
  bracket_entry i j p q = entry-table (pos 0) (adjoint_dimension d) (adjoint_dimension d) (λ i j. bracket_at i j) i j p q

  bracket_width : (bracket_matrix d n r).width ≡ adjoint_dimension d
  unfolding bracket_matrix
  bracket_width = refl

  bracket_height : (bracket_matrix d n r).height ≡ adjoint_dimension d
  unfolding bracket_matrix
  bracket_height = refl

  -- e_r^0 is 1
  pub power-none : (i j : ℕ) → i < adjoint_dimension d → j < adjoint_dimension d → power_entry d n r 0 i j ≡ cond (eqb i j) (pos 1) (pos 0)
  power-none i j p q = entry-table (pos 0) (adjoint_dimension d) (adjoint_dimension d) (λ i j. cond (eqb i j) (pos 1) (pos 0)) i j p q

  -- e_r^(k+1) v = e_r (e_r^k v)
  pub power-next : (k i j : ℕ) → i < adjoint_dimension d → j < adjoint_dimension d →
      power_entry d n r (suc k) i j ≡ sum_below integers (adjoint_dimension d) (λ p. bracket_at i p *ℤ power_entry d n r k p j)
  power-next k i j p q =
      let E = bracket_matrix d n r in
      let P = matrix_power (adjoint_dimension d) E k in
      entry-table (pos 0) E.height P.width (product_entry integers E P) i j (subst (λ h. i < h) (sym bracket_height) p) (subst (λ w. j < w) (sym (power-width (adjoint_dimension d) E k)) q)
      ∙ ap (λ w. sum_below integers w (λ p. entry (pos 0) E i p *ℤ entry (pos 0) P p j)) bracket_width
      ∙ sum-same integers (adjoint_dimension d) _ _ (λ l m. ap (λ x. x *ℤ entry (pos 0) P l j) (bracket_entry i l p m))

  -- a column of zeros stays one
  pub power-zero : (k j : ℕ) → j < adjoint_dimension d → ((p : ℕ) → p < adjoint_dimension d → power_entry d n r k p j ≡ pos 0) → (i : ℕ) → i < adjoint_dimension d → power_entry d n r (suc k) i j ≡ pos 0
  power-zero k j q z i p = power-next k i j p q ∙ int_sum-zeros (adjoint_dimension d) _ (λ l m. ap (λ x. bracket_at i l *ℤ x) (z l m) ∙ *ℤ-zero (bracket_at i l))

  -- a column with one entry
  pub power-one : (k j u : ℕ) → j < adjoint_dimension d → u < adjoint_dimension d → ((p : ℕ) → p < adjoint_dimension d → p ≢ u → power_entry d n r k p j ≡ pos 0) →
      (i : ℕ) → i < adjoint_dimension d → power_entry d n r (suc k) i j ≡ bracket_at i u *ℤ power_entry d n r k u j
  power-one k j u q l z i p =
      power-next k i j p q
      ∙ int_sum-only (adjoint_dimension d) u (λ l. bracket_at i l *ℤ power_entry d n r k l j) l (λ l m o. ap (λ x. bracket_at i l *ℤ x) (z l m o) ∙ *ℤ-zero (bracket_at i l))

  -- the first power
  pub power-first : (i j : ℕ) → i < adjoint_dimension d → j < adjoint_dimension d → power_entry d n r 1 i j ≡ bracket_at i j
  power-first i j p q =
      power-one 0 j j q q (λ l m o. power-none l j m q ∙ ap (λ t. cond t (pos 1) (pos 0)) (ne_eqb l j o)) i p
      ∙ ap (λ x. bracket_at i j *ℤ x) (power-none j j q q ∙ ap (λ t. cond t (pos 1) (pos 0)) (eq-eqb j j refl))
      ∙ times_one (bracket_at i j)
    where
      times_one : (x : ℤ) → x *ℤ pos 1 ≡ x
      times_one x = omega (arith, ints)
