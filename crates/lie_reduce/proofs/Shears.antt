-- Multiples of one column of a square matrix are added to later columns.
use Rattle.std.proofs.Common.{◌≡◌, ◌≢◌, ℕ, ◌<◌, ◌≤◌, cond, eqb, Bool, true, false, refl, sym, ap, ap₂, ◌∙◌, subst, arith, ⊎_elim, eq-eqb}
use Rattle.std.specs.Prelude.{nat_lt}
use Rattle.std.proofs.lemmas.Bool.{cases_eq, cases_lt, ne_eqb}
use Rattle.std.proofs.lemmas.Bool.Decides.{nat_tests}
use Rattle.lie_ring.specs.Rings.{RingOn, IsElem, IsRing}
use Rattle.lie_ring.specs.SumLemmas.{sum-only, sum-one_out, sum-zeros}
use Rattle.lie_ring.specs.Matrices.{Matrix, table, entry, identity, product, product_term}
use Rattle.lie_ring.specs.MatrixLemmas.{entry-table, table-shaped, table-same}
use Rattle.lie_reduce.specs.Triangular.{IsSquare, IsUpperUnitriangular}
use Rattle.lie_reduce.specs.Levels.{unit_entry}
use Rattle.lie_reduce.proofs.Peeling.{identity-square, product-square}
use Rattle.lie_reduce.proofs.LevelLemmas.{product-sum_below, product-only, term_elem, left_zero, right_zero, element, unit_here, unit_other}

module _ {A : Type 0} (R : RingOn A) (ring : IsRing R) (n k : ℕ) (inside : k < n) (c : ℕ → A) (c-elem : (b : ℕ) → b < n → IsElem R (c b)) where
  -- the identity, and c b in row k and each later column b
  abbrev pub shear_entry : ℕ → ℕ → A
  shear_entry a b = cond (eqb a k) (cond (nat_lt k b) (c b) (unit_entry R a b)) (unit_entry R a b)

  pub shear : Matrix A
  shear = table n n shear_entry

  late : (b : ℕ) → k < b → shear_entry k b ≡ c b
  late b less = let t : nat_lt k b ≡ true = grind (arith, nat_tests) in rw (eq-eqb k k refl, t) refl

  early : (a b : ℕ) → b ≤ k → shear_entry a b ≡ unit_entry R a b
  early a b more = let t : nat_lt k b ≡ false = grind (arith, nat_tests) in rw t (by (eqb a k))
    where
      by : (z : Bool) → cond z (unit_entry R a b) (unit_entry R a b) ≡ unit_entry R a b
      by true = refl
      by false = refl

  other : (a b : ℕ) → a ≢ k → shear_entry a b ≡ unit_entry R a b
  other a b h = rw (ne_eqb a k h) refl

  unit_elem : (z : Bool) → IsElem R (cond z R.one R.zero)
  unit_elem true = ring.laws.one_elem
  unit_elem false = ring.laws.zero_elem

  entry_elem : (a b : ℕ) → a < n → b < n → IsElem R (shear_entry a b)
  entry_elem a b p q = ⊎_elim
      (λ (row : a ≡ k). ⊎_elim
      (λ (less : k < b). subst (IsElem R) (sym (ap (λ x. shear_entry x b) row ∙ late b less)) (c-elem b q))
      (λ (more : b ≤ k). subst (IsElem R) (sym (early a b more)) (unit_elem (eqb a b)))
      (cases_lt k b))
      (λ (h : a ≢ k). subst (IsElem R) (sym (other a b h)) (unit_elem (eqb a b)))
      (cases_eq a k)

  is : (a b : ℕ) → a < n → b < n → entry R.zero shear a b ≡ shear_entry a b
  unfolding shear
  is a b p q = entry-table R.zero n n shear_entry a b p q

  pub shear-upper : IsUpperUnitriangular R n shear
  unfolding shear
  shear-upper = record {
    square = record { shape = table-shaped R.zero n n shear_entry; elem = λ a b p q. subst (IsElem R) (sym (is a b p q)) (entry_elem a b p q) };
    diagonal = λ i p. is i i p p ∙ corner i ∙ unit_here R ring n i;
    below = λ i j p less. is i j p (omega (arith, p, less)) ∙ beneath i j less ∙ unit_other R ring n i j (λ e. absurd (let never : ⊥ = omega (arith, e, less) in never));
  }
    where
      corner : (i : ℕ) → shear_entry i i ≡ unit_entry R i i
      corner i = ⊎_elim (λ (row : i ≡ k). early i i (omega (arith, row))) (λ (h : i ≢ k). other i i h) (cases_eq i k)

      beneath : (i j : ℕ) → j < i → shear_entry i j ≡ unit_entry R i j
      beneath i j less = ⊎_elim (λ (row : i ≡ k). early i j (omega (arith, row, less))) (λ (h : i ≢ k). other i j h) (cases_eq i k)

  module _ (M : Matrix A) (s : IsSquare R n M) (i b : ℕ) (p : i < n) (q : b < n) where
    -- an earlier column stays
    pub shear-early : b ≤ k → entry R.zero (product R M shear) i b ≡ entry R.zero M i b
    shear-early more =
        product-only R ring n M shear s shear-upper.square i b b p q q (λ l a h.
        right_zero R ring n M shear s i b l p a (is l b a q ∙ early l b more ∙ unit_other R ring n l b h))
        ∙ ap (R.mul (entry R.zero M i b)) (is b b q q ∙ early b b more ∙ unit_here R ring n b)
        ∙ ring.laws.mul_one (entry R.zero M i b) (element R ring n M s i b p q)

    -- a later one is changed
    pub shear-late : k < b → entry R.zero (product R M shear) i b ≡ R.add (entry R.zero M i b) (R.mul (entry R.zero M i k) (c b))
    shear-late less =
        let f = product_term R M shear i b in
        let g = λ (a : ℕ). cond (eqb a k) R.zero (f a) in
        let elems = λ (a : ℕ) (l : a < n). term_elem R ring n M shear s shear-upper.square i b a p q l in
        let away = λ (a : ℕ) (h : a ≢ k). (let e : g a ≡ f a = ap (λ z. cond z R.zero (f a)) (ne_eqb a k h) in e) in
        let gone : g k ≡ R.zero = ap (λ z. cond z R.zero (f k)) (eq-eqb k k refl) in
        let g-elems = λ (a : ℕ) (l : a < n). ⊎_elim
        (λ (row : a ≡ k). subst (IsElem R) (sym (ap g row ∙ gone)) ring.laws.zero_elem)
        (λ (h : a ≢ k). subst (IsElem R) (sym (away a h)) (elems a l))
        (cases_eq a k) in
        let zeros = λ (a : ℕ) (l : a < n) (h : a ≢ b). ⊎_elim
        (λ (row : a ≡ k). ap g row ∙ gone)
        (λ (o : a ≢ k). away a o ∙ right_zero R ring n M shear s i b a p l (is a b l q ∙ other a b o ∙ unit_other R ring n a b h))
        (cases_eq a k) in
        let apart : b ≢ k = λ e. (let never : ⊥ = omega (arith, e, less) in never) in
        product-sum_below R ring n M shear s shear-upper.square i b p q
        ∙ sum-one_out R ring.laws n k f g inside elems gone (λ a l h. away a h)
        ∙ ap₂ R.add
        (sum-only R ring.laws n b g q g-elems zeros ∙ away b apart
        ∙ ap (R.mul (entry R.zero M i b)) (is b b q q ∙ other b b apart ∙ unit_here R ring n b) ∙ ring.laws.mul_one (entry R.zero M i b) (element R ring n M s i b p q))
        (ap (R.mul (entry R.zero M i k)) (is k b inside q ∙ late b less))

module _ {A : Type 0} (R : RingOn A) (ring : IsRing R) (n : ℕ) where
  -- matrices with the same entries are equal
  pub same_square : (M N : Matrix A) → IsSquare R n M → IsSquare R n N → ((i j : ℕ) → i < n → j < n → entry R.zero M i j ≡ entry R.zero N i j) → M ≡ N
  same_square M N s t same = s.shape ∙ table-same n n (entry R.zero M) (entry R.zero N) same ∙ sym t.shape

  -- a product of upper unitriangular matrices is one
  pub upper-product : (M N : Matrix A) → IsUpperUnitriangular R n M → IsUpperUnitriangular R n N → IsUpperUnitriangular R n (product R M N)
  upper-product M N u v = record {
    square = product-square R ring n M N u.square v.square;
    diagonal = λ i p. product-only R ring n M N u.square v.square i i i p p p (λ k q h. ⊎_elim
        (λ (less : k < i). left_zero R ring n M N v.square i i k p q (u.below i k p less))
        (λ (more : i ≤ k). right_zero R ring n M N u.square i i k p q (v.below k i q (omega (arith, more, h))))
        (cases_lt k i))
        ∙ ap₂ R.mul (u.diagonal i p) (v.diagonal i p) ∙ ring.laws.mul_one R.one ring.laws.one_elem;
    below = λ i j p less. (let q : j < n = omega (arith, p, less) in
        product-sum_below R ring n M N u.square v.square i j p q
        ∙ sum-zeros R ring.laws n (product_term R M N i j) (λ k l. ⊎_elim
        (λ (early : k < i). left_zero R ring n M N v.square i j k q l (u.below i k p early))
        (λ (late : i ≤ k). right_zero R ring n M N u.square i j k p l (v.below k j l (omega (arith, late, less))))
        (cases_lt k i)));
  }

  pub upper-identity : IsUpperUnitriangular R n (identity R n)
  upper-identity = record {
    square = identity-square R ring n;
    diagonal = λ i p. entry-table R.zero n n (unit_entry R) i i p p ∙ unit_here R ring n i;
    below = λ i j p less. entry-table R.zero n n (unit_entry R) i j p (omega (arith, p, less)) ∙ unit_other R ring n i j (λ e. absurd (let never : ⊥ = omega (arith, e, less) in never));
  }
