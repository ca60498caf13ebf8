-- A side of a relation on one basis vector, as a column that the factors act on, the last first.
-- Own: the columns; that matrices with equal columns are equal is in any text on algebra.
use Rattle.std.proofs.Common.{◌≡◌, ℕ, ◌<◌, ℤ, List, [], ◌∷◌, cond, eqb, refl, sym, ap, ◌∙◌, arith}
use Rattle.std.proofs.lemmas.Bool.{eq-eqb, ne_eqb}
use Rattle.lie_ring.specs.Rings.{RingOn, IsElem, IsRing, sum_below}
use Rattle.lie_ring.specs.RingLemmas.{zero_mul, mul_zero, one_mul, add_mul}
use Rattle.lie_ring.specs.SumLemmas.{sum-elem, sum-same, sum-add, sum-only}
use Rattle.lie_ring.specs.Matrices.{Matrix, entry, product, product_entry, product_term, AllElem, IsShaped}
use Rattle.lie_ring.specs.MatrixLemmas.{entry-table, table-shaped, matrix-same}
use Rattle.lie_ring.specs.MatrixElements.{table-elem}
use Rattle.lie_ring.specs.MatrixLaws.{product-assoc, one-product}
use Rattle.lie_datum.specs.RootList.{RootDatum}
use Rattle.lie_const.specs.Modules.{Module, dimension, top, root_element, root_element_entry}
use Rattle.lie_identities.specs.AuditRelations.{Variables, Factor, factor_matrix, side_matrix}
use Rattle.lie_identities.specs.Columns.{unit_column, side_column, moved_entry}
use Rattle.lie_identities.proofs.FactorLemmas.{AreVariables, AreFactorsOver, cond-elem, step-elem, factor-elem, factor-width, side-height, side-elem}

module _ {A : Type 0} (R : RingOn A) (ring : IsRing R) where
  unit-elem : (n b : ℕ) → AllElem R (unit_column R n b)
  unit-elem n b = table-elem R ring n 1 _ (λ a _ _ _. cond-elem R ring (eqb a b) R.one R.zero ring.laws.one_elem ring.laws.zero_elem)

  -- the product with the column of b has the entries of the column b
  pub product-unit : (M : Matrix A) (n a b : ℕ) → M.width ≡ n → AllElem R M → a < M.height → b < n → entry R.zero (product R M (unit_column R n b)) a 0 ≡ entry R.zero M a b
  product-unit M n a b shape elem p q =
      let V = unit_column R n b in
      let at = λ (k : ℕ) (r : k < n). entry-table R.zero n 1 (λ a _. cond (eqb a b) R.one R.zero) k 0 r (omega arith) in
      let e = λ (k : ℕ) (r : k < M.width). elem a k p r in
      let c : b < M.width = omega (arith, shape, q) in
      entry-table R.zero M.height 1 (product_entry R M V) a 0 p (omega arith)
      ∙ sum-only R ring.laws M.width b (product_term R M V a 0) c
      (λ k r. ring.laws.mul_elem _ _ (e k r) (unit-elem n b k 0 (omega (arith, shape, r)) (omega arith)))
      (λ k r apart. ap (R.mul (entry R.zero M a k)) (at k (omega (arith, shape, r)) ∙ ap (λ x. cond x R.one R.zero) (ne_eqb k b apart)) ∙ mul_zero R ring.laws (entry R.zero M a k) (e k r))
      ∙ ap (R.mul (entry R.zero M a b)) (at b q ∙ ap (λ x. cond x R.one R.zero) (eq-eqb b b refl))
      ∙ ring.laws.mul_one (entry R.zero M a b) (e b c)

  -- square matrices with equal columns are equal
  pub same-columns : (M N : Matrix A) (n : ℕ) → IsShaped R.zero M → IsShaped R.zero N → M.height ≡ n → M.width ≡ n → N.height ≡ n → N.width ≡ n → AllElem R M → AllElem R N
      → ((b : ℕ) → b < n → product R M (unit_column R n b) ≡ product R N (unit_column R n b)) → M ≡ N
  same-columns M N n p q mh mw nh nw e g same = matrix-same R.zero M N p q (mh ∙ sym nh) (mw ∙ sym nw) (λ a b r s.
      sym (product-unit M n a b mw e r (omega (arith, mw, s)))
      ∙ ap (λ V. entry R.zero V a 0) (same b (omega (arith, mw, s)))
      ∙ product-unit N n a b nw g (omega (arith, mh, nh, r)) (omega (arith, mw, s)))

  -- the entries beside the identity are elements
  pub moved-elem : (v : Module) (r : ℤ) (f : A) (a b : ℕ) → IsElem R f → IsElem R (moved_entry R v r f a b)
  moved-elem v r f a b p = sum-elem R ring.laws (top v r) _ (λ k _. step-elem R ring v r f a b k p)

  -- X_r(f) times a column: the column, and what the entries beside the identity add
  pub root-product : (v : Module) (r : ℤ) (f : A) (V : Matrix A) (a j : ℕ) → IsElem R f → V.height ≡ dimension v → AllElem R V → a < dimension v → j < V.width →
      entry R.zero (product R (root_element R v r f) V) a j ≡ R.add (entry R.zero V a j) (sum_below R (dimension v) (λ b. R.mul (moved_entry R v r f a b) (entry R.zero V b j)))
  unfolding root_element
  root-product v r f V a j p shape elem q s =
      let n = dimension v in
      let one_at = λ (b : ℕ). cond (eqb a b) R.one R.zero in
      let m = moved_entry R v r f a in
      let e = λ (b : ℕ) (c : b < n). elem b j (omega (arith, shape, c)) s in
      let o = λ (b : ℕ). cond-elem R ring (eqb a b) R.one R.zero ring.laws.one_elem ring.laws.zero_elem in
      entry-table R.zero n V.width (product_entry R (root_element R v r f) V) a j q s
      ∙ sum-same R n _ (λ b. R.add (R.mul (one_at b) (entry R.zero V b j)) (R.mul (m b) (entry R.zero V b j))) (λ b c.
      ap (λ x. R.mul x (entry R.zero V b j)) (entry-table R.zero n n (root_element_entry R v r f) a b q c)
      ∙ add_mul R ring.laws (one_at b) (m b) (entry R.zero V b j) (o b) (moved-elem v r f a b p) (e b c))
      ∙ sum-add R ring.laws n _ _ (λ b c. ring.laws.mul_elem _ _ (o b) (e b c)) (λ b c. ring.laws.mul_elem _ _ (moved-elem v r f a b p) (e b c))
      ∙ ap (λ x. R.add x (sum_below R n (λ b. R.mul (m b) (entry R.zero V b j))))
      (sum-only R ring.laws n a (λ b. R.mul (one_at b) (entry R.zero V b j)) q (λ b c. ring.laws.mul_elem _ _ (o b) (e b c))
      (λ b c apart. ap (λ x. R.mul x (entry R.zero V b j)) (ap (λ t. cond t R.one R.zero) (ne_eqb a b (λ h. apart (sym h)))) ∙ zero_mul R ring.laws (entry R.zero V b j) (e b c))
      ∙ ap (λ t. R.mul (cond t R.one R.zero) (entry R.zero V a j)) (eq-eqb a a refl)
      ∙ one_mul R ring.laws (entry R.zero V a j) (e a q))

module _ {A : Type 0} (y : Variables A) (d : RootDatum) (v : Module) (ring : IsRing y.ring) (over : AreVariables y) where
  -- the column of a side is the side times the column of the basis vector
  pub side-column : (xs : List (Factor A)) (b : ℕ) → AreFactorsOver y.ring xs → product y.ring (side_matrix y d v xs) (unit_column y.ring (dimension v) b) ≡ side_column y d v xs b
  side-column [] b p = one-product y.ring ring (unit_column y.ring (dimension v) b) (table-shaped y.ring.zero (dimension v) 1 (λ a _. cond (eqb a b) y.ring.one y.ring.zero)) (unit-elem y.ring ring (dimension v) b)
  side-column (x ∷ xs) b p =
      product-assoc y.ring ring (factor_matrix y d v x) (side_matrix y d v xs) (unit_column y.ring (dimension v) b)
      (factor-width y d v ring over x ∙ sym (side-height y d v ring over xs)) (side-width xs) (factor-elem y d v ring over x p.0) (side-elem y d v ring over xs p.1) (unit-elem y.ring ring (dimension v) b)
      ∙ ap (product y.ring (factor_matrix y d v x)) (side-column xs b p.1)
    where
      side-width : (xs : List (Factor A)) → (side_matrix y d v xs).width ≡ dimension v
      side-width [] = refl
      side-width (x ∷ xs) = side-width xs

module _ {A : Type 0} (y : Variables A) (d : RootDatum) (v : Module) where
  -- a side is square
  pub side-wide : (xs : List (Factor A)) → (side_matrix y d v xs).width ≡ dimension v
  side-wide [] = refl
  side-wide (x ∷ xs) = side-wide xs

  pub side-shaped : (xs : List (Factor A)) → IsShaped y.ring.zero (side_matrix y d v xs)
  side-shaped [] = table-shaped y.ring.zero (dimension v) (dimension v) (λ i j. cond (eqb i j) y.ring.one y.ring.zero)
  side-shaped (x ∷ xs) = table-shaped y.ring.zero (factor_matrix y d v x).height (side_matrix y d v xs).width (product_entry y.ring (factor_matrix y d v x) (side_matrix y d v xs))
