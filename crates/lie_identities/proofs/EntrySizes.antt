-- The sizes of the entries of a side are at most the entries of the product of the sizes of its factors.
-- Own: the sizes, which bound what is met where a side is multiplied out.
use Rattle.std.proofs.Common.{◌≡◌, ℕ, zero, suc, ◌*◌, ◌<◌, ◌≤◌, ℤ, pos, negsuc, ◌*ℤ◌, nat_abs, List, [], ◌∷◌, cond, eqb, true, false, Bool, refl, sym, ◌∙◌, subst, arith}
use Rattle.std.specs.Prelude.{◌≤ℤ◌}
use Rattle.std.proofs.lemmas.Int.{ints}
use Rattle.lie_ring.specs.Rings.{RingOn, IsElem, IsRing, sum_below}
use Rattle.lie_ring.specs.Integers.{integers}
use Rattle.lie_ring.specs.IntegerLaws.{integers_commutative}
use Rattle.lie_ring.specs.Powers.{power}
use Rattle.lie_ring.specs.SumLemmas.{sum-elem}
use Rattle.lie_ring.specs.Matrices.{Matrix, entry, identity, product, product_entry, product_term, AllElem}
use Rattle.lie_ring.specs.MatrixLemmas.{entry-table}
use Rattle.lie_datum.specs.RootList.{RootDatum}
use Rattle.lie_const.specs.Modules.{Module, dimension, top, divided_power, root_element, root_element_entry}
use Rattle.lie_identities.specs.AuditRelations.{Variables, Factor, RootElement, CorootElement, coroot_power, factor_matrix, side_matrix, size_entry, size_element, factor_size, side_size}
use Rattle.lie_identities.proofs.FactorLemmas.{AreVariables, AreFactorsOver, IsFactorOver, power-elem, cond-elem, step-elem, factor-elem, factor-height, factor-width, side-height, side-elem}
use Rattle.lie_identities.proofs.SizeLemmas.{times_monotone}

-- the sizes of the entries of M are at most the entries of S
abbrev pub IsWithinSizes : {A : Type 0} → RingOn A → Matrix A → Matrix ℤ → Type 0
IsWithinSizes R M S = (i j : ℕ) → i < M.height → j < M.width → pos (R.size (entry R.zero M i j)) ≤ℤ entry (pos 0) S i j

-- products of natural numbers under products of bounds
pub under_product : (a b : ℕ) (c e : ℤ) → pos a ≤ℤ c → pos b ≤ℤ e → pos (a * b) ≤ℤ (c *ℤ e)
under_product a b (negsuc c) e p q = absurd (omega (arith, ints, p))
under_product a b (pos c) (negsuc e) p q = absurd (omega (arith, ints, q))
under_product a b (pos c) (pos e) p q =
    let first = times_monotone (pos a) (pos c) (pos b) p (omega (arith, ints)) in
    let second = times_monotone (pos b) (pos e) (pos c) q (omega (arith, ints)) in
    let turn = integers_commutative.mul_comm (pos c) (pos b) refl refl in
    let also = integers_commutative.mul_comm (pos c) (pos e) refl refl in
    omega (arith, ints, first, second, turn, also)

module _ {A : Type 0} (R : RingOn A) (ring : IsRing R) where
  -- the size of a sum
  pub sum-size : (n : ℕ) (f : ℕ → A) (g : ℕ → ℤ) → ((k : ℕ) → k < n → IsElem R (f k)) → ((k : ℕ) → k < n → pos (R.size (f k)) ≤ℤ g k) → pos (R.size (sum_below R n f)) ≤ℤ sum_below integers n g
  sum-size zero f g p h = let e = ring.sized.size_zero in omega (arith, ints, e)
  sum-size (suc n) f g p h =
      let a = sum-size n f g (λ k q. p k (omega (arith, q))) (λ k q. h k (omega (arith, q))) in
      let b = h n (omega arith) in
      let c = ring.sized.size_add (sum_below R n f) (f n) (sum-elem R ring.laws n f (λ k q. p k (omega (arith, q)))) (p n (omega arith)) in
      omega (arith, ints, a, b, c)

  -- the size of a power
  pub power-size : (f : A) (k : ℕ) → IsElem R f → pos (R.size (power R f k)) ≤ℤ power integers (pos (R.size f)) k
  power-size f zero p = let e = ring.sized.size_one in omega (arith, ints, e)
  power-size f (suc k) p =
      let a = ring.sized.size_mul (power R f k) f (power-elem R ring f k p) p in
      let b = under_product (R.size (power R f k)) (R.size f) (power integers (pos (R.size f)) k) (pos (R.size f)) (power-size f k p) (omega (arith, ints)) in
      omega (arith, ints, a, b)

  -- the sizes of a product
  pub product-size : (M N : Matrix A) (S T : Matrix ℤ) → M.width ≡ N.height → S.height ≡ M.height → S.width ≡ M.width → T.width ≡ N.width → AllElem R M → AllElem R N
      → IsWithinSizes R M S → IsWithinSizes R N T → IsWithinSizes R (product R M N) (product integers S T)
  product-size M N S T shape sh sw tw p q a b i j c e =
      let terms = sum-size M.width (product_term R M N i j) (product_term integers S T i j)
      (λ k l. ring.laws.mul_elem _ _ (p i k c l) (q k j (omega (arith, shape, l)) e))
      (λ k l. (let m = ring.sized.size_mul (entry R.zero M i k) (entry R.zero N k j) (p i k c l) (q k j (omega (arith, shape, l)) e) in
      let u = under_product _ _ (entry (pos 0) S i k) (entry (pos 0) T k j) (a i k c l) (b k j (omega (arith, shape, l)) e) in
      omega (arith, ints, m, u))) in
      let left = entry-table R.zero M.height N.width (product_entry R M N) i j c e in
      let right = entry-table (pos 0) S.height T.width (product_entry integers S T) i j (omega (arith, sh, c)) (omega (arith, tw, e)) in
      subst (λ x. pos (R.size x) ≤ℤ entry (pos 0) (product integers S T) i j) (sym left)
      (subst (λ z. pos (R.size (product_entry R M N i j)) ≤ℤ z) (sym right)
      (subst (λ n. pos (R.size (product_entry R M N i j)) ≤ℤ sum_below integers n (product_term integers S T i j)) (sym sw) terms))

  -- the size of one of 1 and 0
  unit-size : (b : Bool) → pos (R.size (cond b R.one R.zero)) ≤ℤ cond b (pos 1) (pos 0)
  unit-size true = let e = ring.sized.size_one in omega (arith, ints, e)
  unit-size false = let e = ring.sized.size_zero in omega (arith, ints, e)

  -- the sizes of the identity
  identity-size : (n : ℕ) → IsWithinSizes R (identity R n) (identity integers n)
  identity-size n i j c e =
      subst (λ x. pos (R.size x) ≤ℤ entry (pos 0) (identity integers n) i j) (sym (entry-table R.zero n n (λ i j. cond (eqb i j) R.one R.zero) i j c e))
      (subst (λ z. pos (R.size (cond (eqb i j) R.one R.zero)) ≤ℤ z) (sym (entry-table (pos 0) n n (λ i j. cond (eqb i j) (pos 1) (pos 0)) i j c e)) (unit-size (eqb i j)))

  -- the sizes of X_r(f)
  pub root-size : (v : Module) (r : ℤ) (f : A) → IsElem R f → IsWithinSizes R (root_element R v r f) (size_element v r (R.size f))
  unfolding root_element
  root-size v r f p i j c e =
      let n = dimension v in
      let w = λ (k : ℕ). entry (pos 0) (divided_power v r (suc k)) i j in
      let g = λ (k : ℕ). R.mul (power R f (suc k)) (R.of_int (w k)) in
      let terms = sum-size (top v r) g (λ k. power integers (pos (R.size f)) (suc k) *ℤ pos (nat_abs (w k))) (λ k _. step-elem R ring v r f i j k p)
      (λ k _. (let m = ring.sized.size_mul (power R f (suc k)) (R.of_int (w k)) (power-elem R ring f (suc k) p) (ring.integers.int_elem (w k)) in
      let o = ring.sized.size_int (w k) in
      let u = under_product (R.size (power R f (suc k))) (R.size (R.of_int (w k))) (power integers (pos (R.size f)) (suc k)) (pos (nat_abs (w k))) (power-size f (suc k) p) (omega (arith, ints, o)) in
      omega (arith, ints, m, u))) in
      let one = unit-size (eqb i j) in
      let both = ring.sized.size_add (cond (eqb i j) R.one R.zero) (sum_below R (top v r) g) (cond-elem R ring (eqb i j) R.one R.zero ring.laws.one_elem ring.laws.zero_elem) (sum-elem R ring.laws (top v r) g (λ k _. step-elem R ring v r f i j k p)) in
      subst (λ x. pos (R.size x) ≤ℤ entry (pos 0) (size_element v r (R.size f)) i j) (sym (entry-table R.zero n n (root_element_entry R v r f) i j c e))
      (subst (λ z. pos (R.size (root_element_entry R v r f i j)) ≤ℤ z) (sym (entry-table (pos 0) n n (size_entry v r (R.size f)) i j c e)) (omega (arith, ints, terms, one, both)))

module _ {A : Type 0} (y : Variables A) (d : RootDatum) (v : Module) (ring : IsRing y.ring) (over : AreVariables y) (small : (e : ℤ) → y.ring.size (y.t_to e) ≤ 1) where
  diagonal-size : (b : Bool) (e : ℤ) → pos (y.ring.size (cond b (y.t_to e) y.ring.zero)) ≤ℤ cond b (pos 1) (pos 0)
  diagonal-size true e = let h = small e in omega (arith, ints, h)
  diagonal-size false e = let h = ring.sized.size_zero in omega (arith, ints, h)

  -- the sizes of a factor
  pub factor-size : (x : Factor A) → IsFactorOver y.ring x → IsWithinSizes y.ring (factor_matrix y d v x) (factor_size y.ring v x)
  factor-size (RootElement r f) p a b c e = root-size y.ring ring v r f p a b c e
  factor-size (CorootElement i) p a b c e =
      let n = dimension v in
      subst (λ x. pos (y.ring.size x) ≤ℤ entry (pos 0) (identity integers n) a b) (sym (entry-table y.ring.zero n n (λ a b. cond (eqb a b) (coroot_power y d v i a) y.ring.zero) a b c e))
      (subst (λ z. pos (y.ring.size (cond (eqb a b) (coroot_power y d v i a) y.ring.zero)) ≤ℤ z) (sym (entry-table (pos 0) n n (λ i j. cond (eqb i j) (pos 1) (pos 0)) a b c e)) (diagonal-size (eqb a b) _))

  factor_size-height : (x : Factor A) → (factor_size y.ring v x).height ≡ dimension v
  factor_size-height (RootElement r f) = refl
  factor_size-height (CorootElement i) = refl

  factor_size-width : (x : Factor A) → (factor_size y.ring v x).width ≡ dimension v
  factor_size-width (RootElement r f) = refl
  factor_size-width (CorootElement i) = refl

  side_size-width : (xs : List (Factor A)) → (side_size y.ring v xs).width ≡ dimension v
  side_size-width [] = refl
  side_size-width (x ∷ xs) = side_size-width xs

  pub side-width : (xs : List (Factor A)) → (side_matrix y d v xs).width ≡ dimension v
  side-width [] = refl
  side-width (x ∷ xs) = side-width xs

  -- the sizes of a side
  pub side-size : (xs : List (Factor A)) → AreFactorsOver y.ring xs → IsWithinSizes y.ring (side_matrix y d v xs) (side_size y.ring v xs)
  side-size [] p = identity-size y.ring ring (dimension v)
  side-size (x ∷ xs) p =
      product-size y.ring ring (factor_matrix y d v x) (side_matrix y d v xs) (factor_size y.ring v x) (side_size y.ring v xs)
      (factor-width y d v ring over x ∙ sym (side-height y d v ring over xs))
      (factor_size-height x ∙ sym (factor-height y d v ring over x)) (factor_size-width x ∙ sym (factor-width y d v ring over x)) (side_size-width xs ∙ sym (side-width xs))
      (factor-elem y d v ring over x p.0) (side-elem y d v ring over xs p.1) (factor-size x p.0) (side-size xs p.1)
