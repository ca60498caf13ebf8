-- The degrees of the entries of a side are at most the sum of those of its factors.
-- Own: the degrees, which bound the exponents that are met where a side is multiplied out.
use Rattle.std.proofs.Common.{◌≡◌, ℕ, zero, suc, ◌+◌, ◌*◌, ◌<◌, ◌≤◌, ℤ, pos, List, [], ◌∷◌, ◌++◌, cond, eqb, true, false, Bool, refl, sym, ◌∙◌, subst, arith}
use Rattle.std.specs.Prelude.{max}
use Rattle.lie_ring.specs.Rings.{RingOn, IsElem, IsRing, sum_below}
use Rattle.lie_ring.specs.Powers.{power}
use Rattle.lie_ring.specs.SumLemmas.{sum-elem}
use Rattle.lie_ring.specs.Matrices.{Matrix, entry, product, product_entry, product_term, AllElem}
use Rattle.lie_ring.specs.MatrixLemmas.{entry-table}
use Rattle.lie_datum.specs.RootList.{RootDatum}
use Rattle.lie_const.specs.Modules.{Module, dimension, top, divided_power, root_element, root_element_entry}
use Rattle.lie_poly.specs.Polynomials.{Polynomial, laurent, degree}
use Rattle.lie_poly.specs.LaurentLaws.{laurent_ring}
use Rattle.lie_identities.specs.Audit.{laurent_variables}
use Rattle.lie_identities.specs.Columns.{factor_degree, side_degree}
use Rattle.lie_identities.specs.AuditRelations.{Factor, RootElement, CorootElement, coroot_power, factor_matrix, side_matrix}
use Rattle.lie_identities.proofs.FactorLemmas.{polynomials, power-elem, cond-elem, step-elem, factor-width, side-height}

-- no entry has a degree above D
abbrev pub HasDegree : {A : Type 0} → RingOn A → Matrix A → ℕ → Type 0
HasDegree R M D = (i j : ℕ) → i < M.height → j < M.width → R.degree (entry R.zero M i j) ≤ D

-- the greater of two numbers that are at most D
max_within : (a b D : ℕ) → a ≤ D → b ≤ D → max a b ≤ D
max_within a b D p q = grind arith

module _ {A : Type 0} (R : RingOn A) (ring : IsRing R) where
  -- the degree of a sum
  pub sum-degree : (n : ℕ) (f : ℕ → A) (D : ℕ) → ((k : ℕ) → k < n → IsElem R (f k)) → ((k : ℕ) → k < n → R.degree (f k) ≤ D) → R.degree (sum_below R n f) ≤ D
  sum-degree zero f D p h = let e = ring.sized.degree_zero in omega (arith, e)
  sum-degree (suc n) f D p h =
      let a = sum-degree n f D (λ k q. p k (omega (arith, q))) (λ k q. h k (omega (arith, q))) in
      let c = ring.sized.degree_add (sum_below R n f) (f n) (sum-elem R ring.laws n f (λ k q. p k (omega (arith, q)))) (p n (omega arith)) in
      let m = max_within (R.degree (sum_below R n f)) (R.degree (f n)) D a (h n (omega arith)) in
      omega (arith, c, m)

  -- the degree of a power
  pub power-degree : (f : A) (k n : ℕ) → IsElem R f → k ≤ n → R.degree (power R f k) ≤ n * R.degree f
  power-degree f zero n p l = let e = ring.sized.degree_one in omega (arith, e)
  power-degree f (suc k) zero p l = absurd (omega (arith, l))
  power-degree f (suc k) (suc n) p l =
      let a = power-degree f k n p (omega (arith, l)) in
      let m = ring.sized.degree_mul (power R f k) f (power-elem R ring f k p) p in
      let e : suc n * R.degree f ≡ n * R.degree f + R.degree f = omega arith in
      omega (arith, a, m, e)

  -- the degrees of a product
  pub product-degree : (M N : Matrix A) (D E : ℕ) → M.width ≡ N.height → AllElem R M → AllElem R N → HasDegree R M D → HasDegree R N E → HasDegree R (product R M N) (D + E)
  product-degree M N D E shape p q a b i j c e =
      subst (λ x. R.degree x ≤ D + E) (sym (entry-table R.zero M.height N.width (product_entry R M N) i j c e))
      (sum-degree M.width (product_term R M N i j) (D + E)
      (λ k l. ring.laws.mul_elem _ _ (p i k c l) (q k j (omega (arith, shape, l)) e))
      (λ k l. (let m = ring.sized.degree_mul (entry R.zero M i k) (entry R.zero N k j) (p i k c l) (q k j (omega (arith, shape, l)) e) in
      let x = a i k c l in
      let z = b k j (omega (arith, shape, l)) e in
      omega (arith, m, x, z))))

  unit-degree : (b : Bool) (D : ℕ) → R.degree (cond b R.one R.zero) ≤ D
  unit-degree true D = let e = ring.sized.degree_one in omega (arith, e)
  unit-degree false D = let e = ring.sized.degree_zero in omega (arith, e)

  -- the degrees of X_r(f)
  pub root-degree : (v : Module) (r : ℤ) (f : A) → IsElem R f → HasDegree R (root_element R v r f) (top v r * R.degree f)
  unfolding root_element
  root-degree v r f p i j c e =
      let n = dimension v in
      let D = top v r * R.degree f in
      let g = λ (k : ℕ). R.mul (power R f (suc k)) (R.of_int (entry (pos 0) (divided_power v r (suc k)) i j)) in
      let pg = λ (k : ℕ) (l : k < top v r). step-elem R ring v r f i j k p in
      let terms = sum-degree (top v r) g D pg (λ k l. (let m = ring.sized.degree_mul (power R f (suc k)) (R.of_int (entry (pos 0) (divided_power v r (suc k)) i j)) (power-elem R ring f (suc k) p) (ring.integers.int_elem _) in
      let o = ring.sized.degree_int (entry (pos 0) (divided_power v r (suc k)) i j) in
      let w = power-degree f (suc k) (top v r) p l in
      omega (arith, m, o, w))) in
      let both = ring.sized.degree_add (cond (eqb i j) R.one R.zero) (sum_below R (top v r) g) (cond-elem R ring (eqb i j) R.one R.zero ring.laws.one_elem ring.laws.zero_elem) (sum-elem R ring.laws (top v r) g pg) in
      let m = max_within (R.degree (cond (eqb i j) R.one R.zero)) (R.degree (sum_below R (top v r) g)) D (unit-degree (eqb i j) D) terms in
      subst (λ x. R.degree x ≤ D) (sym (entry-table R.zero n n (root_element_entry R v r f) i j c e)) (omega (arith, both, m))

module _ (d : RootDatum) (v : Module) (light : (i a : ℕ) → a < dimension v → degree (coroot_power laurent_variables d v i a) ≤ 800000000) where
  diagonal-degree : (b : Bool) (x : Polynomial) → degree x ≤ 800000000 → degree (cond b x laurent.zero) ≤ 800000000
  diagonal-degree true x p = p
  diagonal-degree false x p = let e = laurent_ring.sized.degree_zero in omega (arith, e)

  factor-degree : (x : Factor Polynomial) → HasDegree laurent (factor_matrix laurent_variables d v x) (factor_degree v x)
  factor-degree (RootElement r f) a b c e = root-degree laurent laurent_ring v r f refl a b c e
  factor-degree (CorootElement i) a b c e =
      subst (λ x. degree x ≤ 800000000) (sym (entry-table laurent.zero (dimension v) (dimension v) (λ a b. cond (eqb a b) (coroot_power laurent_variables d v i a) laurent.zero) a b c e))
      (diagonal-degree (eqb a b) (coroot_power laurent_variables d v i a) (light i a c))

  -- the degrees of a side
  pub side-degree : (xs : List (Factor Polynomial)) → HasDegree laurent (side_matrix laurent_variables d v xs) (side_degree v xs)
  side-degree [] a b c e =
      subst (λ x. degree x ≤ 0) (sym (entry-table laurent.zero (dimension v) (dimension v) (λ i j. cond (eqb i j) laurent.one laurent.zero) a b c e)) (unit-degree laurent laurent_ring (eqb a b) 0)
  side-degree (x ∷ xs) a b c e =
      product-degree laurent laurent_ring (factor_matrix laurent_variables d v x) (side_matrix laurent_variables d v xs) (factor_degree v x) (side_degree v xs) (factor-width laurent_variables d v laurent_ring polynomials x ∙ sym (side-height laurent_variables d v laurent_ring polynomials xs))
      (λ i j _ _. refl) (λ i j _ _. refl) (factor-degree x) (side-degree xs) a b c e

-- the degree of the last factors
pub degree-last : (v : Module) (ys xs : List (Factor Polynomial)) → side_degree v xs ≤ side_degree v (ys ++ xs)
degree-last v [] xs = omega arith
degree-last v (y ∷ ys) xs = let h = degree-last v ys xs in omega (arith, h)
