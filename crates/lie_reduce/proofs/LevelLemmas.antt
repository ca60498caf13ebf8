-- Products of matrices that raise levels: the map of the weights and the triangular factors are determined.
use Rattle.std.proofs.Common.{◌≡◌, ◌≢◌, ℕ, zero, suc, ◌<◌, cond, refl, sym, ap, ap₂, ◌∙◌, inl, inr, arith, eq-eqb}
use Rattle.std.specs.Prelude.{ℤ, pos, ◌+ℤ◌, ◌≤ℤ◌, ◌<ℤ◌, ◌⊎◌}
use Rattle.std.proofs.lemmas.Int.{ints}
use Rattle.std.proofs.lemmas.Bool.{cases_eq, ne_eqb}
use mathlib.Core.Logic.{⊎_elim}
use Rattle.lie_ring.specs.Rings.{RingOn, IsElem, IsRing, sum_below}
use Rattle.lie_ring.specs.RingLemmas.{mul_zero, zero_mul, one_mul}
use Rattle.lie_ring.specs.SumLemmas.{sum-only, sum-zeros}
use Rattle.lie_ring.specs.Matrices.{Matrix, entry, product, product_entry, product_term}
use Rattle.lie_ring.specs.MatrixLemmas.{entry-table}
use Rattle.lie_datum.specs.Vectors.{Vector, pairing}
use Rattle.lie_audit.specs.WeylWeights.{SameWeight}
use Rattle.lie_reduce.specs.Triangular.{IsSquare}
use Rattle.lie_reduce.specs.Levels.{unit_entry, Raises, Sends}

-- an order of integers, or its opposite
pub le_cases : (x y : ℤ) → (x ≤ℤ y) ⊎ (y <ℤ x)
le_cases x y = grind (arith, ints)

module _ {A : Type 0} (R : RingOn A) (ring : IsRing R) (n : ℕ) where
  pub unit_here : (i : ℕ) → unit_entry R i i ≡ R.one
  unit_here i = ap (λ b. cond b R.one R.zero) (eq-eqb i i refl)

  pub unit_other : (i j : ℕ) → i ≢ j → unit_entry R i j ≡ R.zero
  unit_other i j h = ap (λ b. cond b R.one R.zero) (ne_eqb i j h)

  height_is : (M : Matrix A) → IsSquare R n M → M.height ≡ n
  height_is M s = ap (λ N. N.height) s.shape

  width_is : (M : Matrix A) → IsSquare R n M → M.width ≡ n
  width_is M s = ap (λ N. N.width) s.shape

  pub element : (M : Matrix A) → IsSquare R n M → (i j : ℕ) → i < n → j < n → IsElem R (entry R.zero M i j)
  element M s i j p q = let h = height_is M s in let w = width_is M s in s.elem i j (omega (arith, p, h)) (omega (arith, q, w))

  pub term_elem : (M N : Matrix A) → IsSquare R n M → IsSquare R n N → (i j k : ℕ) → i < n → j < n → k < n → IsElem R (product_term R M N i j k)
  term_elem M N s t i j k p q r = ring.laws.mul_elem (entry R.zero M i k) (entry R.zero N k j) (element M s i k p r) (element N t k j r q)

  -- an entry of a product of square matrices
  pub product-sum_below : (M N : Matrix A) → IsSquare R n M → IsSquare R n N → (i j : ℕ) → i < n → j < n
      → entry R.zero (product R M N) i j ≡ sum_below R n (product_term R M N i j)
  product-sum_below M N s t i j p q =
      let h = height_is M s in
      let w = width_is N t in
      entry-table R.zero M.height N.width (product_entry R M N) i j (omega (arith, p, h)) (omega (arith, q, w))
      ∙ ap (λ m. sum_below R m (product_term R M N i j)) (width_is M s)

  -- an entry of a product in which one term alone is not 0
  pub product-only : (M N : Matrix A) → IsSquare R n M → IsSquare R n N → (i j k : ℕ) → i < n → j < n → k < n
      → ((l : ℕ) → l < n → l ≢ k → product_term R M N i j l ≡ R.zero) → entry R.zero (product R M N) i j ≡ product_term R M N i j k
  product-only M N s t i j k p q r zeros = product-sum_below M N s t i j p q ∙ sum-only R ring.laws n k (product_term R M N i j) r (λ l a. term_elem M N s t i j l p q a) zeros

  pub left_zero : (M N : Matrix A) → IsSquare R n N → (i j k : ℕ) → j < n → k < n → entry R.zero M i k ≡ R.zero → product_term R M N i j k ≡ R.zero
  left_zero M N t i j k q r e = ap (λ x. R.mul x (entry R.zero N k j)) e ∙ zero_mul R ring.laws (entry R.zero N k j) (element N t k j r q)

  pub right_zero : (M N : Matrix A) → IsSquare R n M → (i j k : ℕ) → i < n → k < n → entry R.zero N k j ≡ R.zero → product_term R M N i j k ≡ R.zero
  right_zero M N s i j k p r e = ap (R.mul (entry R.zero M i k)) e ∙ mul_zero R ring.laws (entry R.zero M i k) (element M s i k p r)

  module _ (level : ℕ → ℤ) (g : ℤ) (rising : pos 1 ≤ℤ g) where
    -- the diagonal is that of the identity
    pub raises-diagonal : (M : Matrix A) → Raises R n level g M → (i : ℕ) → i < n → entry R.zero M i i ≡ R.one
    raises-diagonal M u i p = ⊎_elim (λ d. d ∙ unit_here i) (λ up. absurd (let never : ⊥ = omega (arith, ints, up, rising) in never)) (u i i p p)

    -- 0 beside it where the level does not rise
    pub raises-zero : (M : Matrix A) → Raises R n level g M → (i j : ℕ) → i < n → j < n → i ≢ j → level i <ℤ (level j +ℤ g) → entry R.zero M i j ≡ R.zero
    raises-zero M u i j p q h flat = ⊎_elim (λ d. d ∙ unit_other i j h) (λ up. absurd (let never : ⊥ = omega (arith, ints, up, flat) in never)) (u i j p q)

    -- a product raises levels
    pub raises-product : (M N : Matrix A) → IsSquare R n M → IsSquare R n N → Raises R n level g M → Raises R n level g N → Raises R n level g (product R M N)
    raises-product M N s t u v i j p q = ⊎_elim
        (λ up. inr up)
        (λ flat. inl (⊎_elim
        (λ (same : i ≡ j).
        product-only M N s t i j i p q p (λ l a other. ⊎_elim
        (λ (d : entry R.zero M i l ≡ unit_entry R i l). left_zero M N t i j l q a (d ∙ unit_other i l (λ e. other (sym e))))
        (λ up. right_zero M N s i j l p a (raises-zero N v l j a q (λ e. other (e ∙ sym same)) (let lj = ap level same in omega (arith, ints, up, rising, lj))))
        (u i l p a))
        ∙ ap₂ R.mul (raises-diagonal M u i p) (ap (λ x. entry R.zero N x j) same ∙ raises-diagonal N v j q)
        ∙ ring.laws.mul_one R.one ring.laws.one_elem
        ∙ sym (ap (unit_entry R i) (sym same) ∙ unit_here i))
        (λ (h : i ≢ j).
        product-sum_below M N s t i j p q
        ∙ sum-zeros R ring.laws n (product_term R M N i j) (λ l a. ⊎_elim
        (λ (e : l ≡ i). right_zero M N s i j l p a (raises-zero N v l j a q (λ e'. h (sym e ∙ e')) (let li = ap level e in omega (arith, ints, flat, li))))
        (λ (other : l ≢ i). ⊎_elim
        (λ (d : entry R.zero M i l ≡ unit_entry R i l). left_zero M N t i j l q a (d ∙ unit_other i l (λ e. other (sym e))))
        (λ up. ⊎_elim
        (λ (e : l ≡ j). absurd (let lj = ap level e in let never : ⊥ = omega (arith, ints, up, flat, lj) in never))
        (λ (e' : l ≢ j). right_zero M N s i j l p a (raises-zero N v l j a q e' (omega (arith, ints, up, flat, rising))))
        (cases_eq l j))
        (u i l p a))
        (cases_eq l i))
        ∙ sym (unit_other i j h))
        (cases_eq i j)))
        (le_cases (level j +ℤ g) (level i))

    -- ---- peeling: where row i is g levels above column j, and one factor is 0 there, the product has the entry of the other
    pub product-second : (M N : Matrix A) → IsSquare R n M → IsSquare R n N → Raises R n level g M → Raises R n level g N
        → (i j : ℕ) → i < n → j < n → level i ≡ level j +ℤ g → entry R.zero M i j ≡ R.zero → entry R.zero (product R M N) i j ≡ entry R.zero N i j
    product-second M N s t u v i j p q at none =
        product-only M N s t i j i p q p (λ l a other. ⊎_elim
        (λ (d : entry R.zero M i l ≡ unit_entry R i l). left_zero M N t i j l q a (d ∙ unit_other i l (λ e. other (sym e))))
        (λ up. ⊎_elim
        (λ (e : l ≡ j). left_zero M N t i j l q a (ap (entry R.zero M i) e ∙ none))
        (λ (e' : l ≢ j). right_zero M N s i j l p a (raises-zero N v l j a q e' (omega (arith, ints, up, at, rising))))
        (cases_eq l j))
        (u i l p a))
        ∙ ap (λ x. R.mul x (entry R.zero N i j)) (raises-diagonal M u i p)
        ∙ one_mul R ring.laws (entry R.zero N i j) (element N t i j p q)

    pub product-first : (M N : Matrix A) → IsSquare R n M → IsSquare R n N → Raises R n level g M → Raises R n level g N
        → (i j : ℕ) → i < n → j < n → level i ≡ level j +ℤ g → entry R.zero N i j ≡ R.zero → entry R.zero (product R M N) i j ≡ entry R.zero M i j
    product-first M N s t u v i j p q at none =
        product-only M N s t i j j p q q (λ l a other. ⊎_elim
        (λ (e : l ≡ i). right_zero M N s i j l p a (ap (λ x. entry R.zero N x j) e ∙ none))
        (λ (e' : l ≢ i). ⊎_elim
        (λ (d : entry R.zero M i l ≡ unit_entry R i l). left_zero M N t i j l q a (d ∙ unit_other i l (λ e. e' (sym e))))
        (λ up. right_zero M N s i j l p a (raises-zero N v l j a q other (omega (arith, ints, up, at, rising))))
        (u i l p a))
        (cases_eq l i))
        ∙ ap (R.mul (entry R.zero M i j)) (raises-diagonal N v j q)
        ∙ ring.laws.mul_one (entry R.zero M i j) (element M s i j p q)

  -- ---- triangular factors: from a D' = D c with a raising and c lowering levels, both are 1 and D = D'
  pub factors_determined : (level down : ℕ → ℤ) → ((i : ℕ) → (level i +ℤ down i) ≡ pos 0) → (a c : Matrix A) (d e : ℕ → A)
      → Raises R n level (pos 1) a → Raises R n down (pos 1) c
      → ((x y : A) → IsElem R x → IsElem R y → R.mul x y ≡ R.zero → (x ≡ R.zero) ⊎ (y ≡ R.zero))
      → IsSquare R n a → IsSquare R n c → ((i : ℕ) → i < n → IsElem R (d i)) → ((i : ℕ) → i < n → IsElem R (e i))
      → ((i : ℕ) → i < n → d i ≢ R.zero) → ((i : ℕ) → i < n → e i ≢ R.zero)
      → ((i j : ℕ) → i < n → j < n → R.mul (entry R.zero a i j) (e j) ≡ R.mul (d i) (entry R.zero c i j))
      → (i j : ℕ) → i < n → j < n → (entry R.zero a i j ≡ unit_entry R i j) × (entry R.zero c i j ≡ unit_entry R i j) × (d i ≡ e i)
  factors_determined level down turned a c d e ua lc domain sa sc d_elem e_elem d_unit e_unit same i j p q =
      let one = raises-diagonal level (pos 1) (omega (arith, ints)) a ua in
      let one' = raises-diagonal down (pos 1) (omega (arith, ints)) c lc in
      let diagonal : d i ≡ e i =
      sym (ap (R.mul (d i)) (one' i p) ∙ ring.laws.mul_one (d i) (d_elem i p)) ∙ sym (same i i p p) ∙ ap (λ x. R.mul x (e i)) (one i p) ∙ one_mul R ring.laws (e i) (e_elem i p) in
      ⊎_elim
      (λ (at : i ≡ j).
      let first : entry R.zero a i j ≡ unit_entry R i j = ap (entry R.zero a i) (sym at) ∙ one i p ∙ sym (ap (unit_entry R i) (sym at) ∙ unit_here i) in
      let second : entry R.zero c i j ≡ unit_entry R i j = ap (entry R.zero c i) (sym at) ∙ one' i p ∙ sym (ap (unit_entry R i) (sym at) ∙ unit_here i) in
      (first, second, diagonal))
      (λ (h : i ≢ j).
      let none = unit_other i j h in
      let from_a : entry R.zero a i j ≡ R.zero → (entry R.zero a i j ≡ unit_entry R i j) × (entry R.zero c i j ≡ unit_entry R i j) × (d i ≡ e i) = λ az. (
        az ∙ sym none,
        ⊎_elim (λ (z : d i ≡ R.zero). absurd (d_unit i p z)) (λ (z : entry R.zero c i j ≡ R.zero). z ∙ sym none)
            (domain (d i) (entry R.zero c i j) (d_elem i p) (element c sc i j p q) (sym (same i j p q) ∙ ap (λ x. R.mul x (e j)) az ∙ zero_mul R ring.laws (e j) (e_elem j q))),
        diagonal,
      ) in
      let from_c : entry R.zero c i j ≡ R.zero → (entry R.zero a i j ≡ unit_entry R i j) × (entry R.zero c i j ≡ unit_entry R i j) × (d i ≡ e i) = λ cz. (
        ⊎_elim (λ (z : entry R.zero a i j ≡ R.zero). z ∙ sym none) (λ (z : e j ≡ R.zero). absurd (e_unit j q z))
            (domain (entry R.zero a i j) (e j) (element a sa i j p q) (e_elem j q) (same i j p q ∙ ap (R.mul (d i)) cz ∙ mul_zero R ring.laws (d i) (d_elem i p))),
        cz ∙ sym none,
        diagonal,
      ) in
      ⊎_elim
      (λ (z : entry R.zero a i j ≡ unit_entry R i j). from_a (z ∙ none))
      (λ up. ⊎_elim
      (λ (z : entry R.zero c i j ≡ unit_entry R i j). from_c (z ∙ none))
      (λ below. absurd (let x = turned i in let y = turned j in let never : ⊥ = omega (arith, ints, up, below, x, y) in never))
      (lc i j p q))
      (ua i j p q))
      (cases_eq i j)

  -- ---- the map of the weights is determined
  -- a sum that is not 0 has a term that is not 0
  pub some_term : ((x : A) → (x ≡ R.zero) ⊎ (x ≢ R.zero)) → (m : ℕ) (h : ℕ → A) → sum_below R m h ≢ R.zero → (k : ℕ) × (k < m) × (h k ≢ R.zero)
  some_term decide zero h apart = absurd (apart refl)
  some_term decide (suc m) h apart = ⊎_elim
      (λ (z : h m ≡ R.zero). ⊎_elim
      (λ (s : sum_below R m h ≡ R.zero). absurd (apart (ap₂ R.add s z ∙ ring.laws.add_zero R.zero ring.laws.zero_elem)))
      (λ s. let r = some_term decide m h s in (r.0, (let b = r.1 in omega (arith, b)), r.2))
      (decide (sum_below R m h)))
      (λ nz. (m, omega arith, nz))
      (decide (h m))

  module _ (decide : (x : A) → (x ≡ R.zero) ⊎ (x ≢ R.zero)) (weight : ℕ → Vector) (rho : Vector) where
    -- the level of a place
    abbrev pub level_of : ℕ → ℤ
    level_of i = pairing (weight i) rho

    pivot_side : (a b p q : Matrix A) (g h : Vector → Vector)
        → IsSquare R n a → IsSquare R n b → IsSquare R n p → IsSquare R n q
        → Raises R n level_of (pos 1) a → Raises R n level_of (pos 1) b → Sends R n weight p g → Sends R n weight q h
        → ((i j : ℕ) → i < n → j < n → entry R.zero (product R a q) i j ≡ entry R.zero (product R p b) i j)
        → (j : ℕ) → j < n → SameWeight (g (weight j)) (h (weight j)) ⊎ (pairing (h (weight j)) rho <ℤ pairing (g (weight j)) rho)
    pivot_side a b p q g h sa sb sp sq ua ub s t same j low =
        let found = s.full j low in
        let i = found.0 in
        let i_low = found.1 in
        let at : SameWeight (weight i) (g (weight j)) = s.to i j i_low low found.2 in
        let right : entry R.zero (product R p b) i j ≡ entry R.zero p i j =
        product-only p b sp sb i j j i_low low low (λ k k_low other. ⊎_elim
        (λ (z : entry R.zero p i k ≡ R.zero). left_zero p b sb i j k low k_low z)
        (λ (nz : entry R.zero p i k ≢ R.zero).
        let one : SameWeight (weight k) (weight j) = s.one_to_one (weight k) (weight j) (λ c. sym (s.to i k i_low k_low nz c) ∙ at c) in
        let flat = one rho in
        right_zero p b sp i j k i_low k_low (raises-zero level_of (pos 1) (omega (arith, ints)) b ub k j k_low low other (omega (arith, ints, flat))))
        (decide (entry R.zero p i k)))
        ∙ ap (R.mul (entry R.zero p i j)) (raises-diagonal level_of (pos 1) (omega (arith, ints)) b ub j low)
        ∙ ring.laws.mul_one (entry R.zero p i j) (element p sp i j i_low low) in
        let r = some_term decide n (product_term R a q i j) (λ z. found.2 (sym right ∙ sym (same i j i_low low) ∙ product-sum_below a q sa sq i j i_low low ∙ z)) in
        let k = r.0 in
        let k_low = r.1 in
        let a_not : entry R.zero a i k ≢ R.zero = λ z. r.2 (left_zero a q sq i j k low k_low z) in
        let q_not : entry R.zero q k j ≢ R.zero = λ z. r.2 (right_zero a q sa i j k i_low k_low z) in
        let to : SameWeight (weight k) (h (weight j)) = t.to k j k_low low q_not in
        ⊎_elim
        (λ (e : i ≡ k). inl (λ c. sym (at c) ∙ ap (λ x. pairing (weight x) c) e ∙ to c))
        (λ (other : i ≢ k). ⊎_elim
        (λ (d : entry R.zero a i k ≡ unit_entry R i k). absurd (a_not (d ∙ unit_other i k other)))
        (λ up. inr (let x = at rho in let y = to rho in omega (arith, ints, x, y, up)))
        (ua i k i_low k_low))
        (cases_eq i k)

    -- the map of the weights is determined
    pub pivots_determined : (a a' b b' p q : Matrix A) (g h : Vector → Vector)
        → IsSquare R n a → IsSquare R n a' → IsSquare R n b → IsSquare R n b' → IsSquare R n p → IsSquare R n q
        → Raises R n level_of (pos 1) a → Raises R n level_of (pos 1) a' → Raises R n level_of (pos 1) b → Raises R n level_of (pos 1) b'
        → Sends R n weight p g → Sends R n weight q h
        → ((i j : ℕ) → i < n → j < n → entry R.zero (product R a q) i j ≡ entry R.zero (product R p b) i j)
        → ((i j : ℕ) → i < n → j < n → entry R.zero (product R a' p) i j ≡ entry R.zero (product R q b') i j)
        → (j : ℕ) → j < n → SameWeight (g (weight j)) (h (weight j))
    pivots_determined a a' b b' p q g h sa sa' sb sb' sp sq ua ua' ub ub' s t same same' j low = ⊎_elim
        (λ is. is)
        (λ less. ⊎_elim
        (λ (is : SameWeight (h (weight j)) (g (weight j))). λ c. sym (is c))
        (λ more. absurd (let never : ⊥ = omega (arith, ints, less, more) in never))
        (pivot_side a' b' q p h g sa' sb' sq sp ua' ub' t s same' j low))
        (pivot_side a b p q g h sa sb sp sq ua ub s t same j low)
