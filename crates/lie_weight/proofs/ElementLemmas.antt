-- Root elements at 1 and -1: their entries are at most those of the bound, which has no entry below 0, and factors that they make.
use Rattle.std.proofs.Common.{◌≡◌, ℕ, zero, suc, ◌+◌, ◌*◌, ◌<◌, ◌≤◌, ℤ, pos, negsuc, neg_ℤ, ◌+ℤ◌, ◌*ℤ◌, nat_abs, unsigned_abs, refl, sym, ap, subst, ◌∙◌, arith, cond, eqb, Bool, true, false}
use Rattle.std.proofs.lemmas.Int.{ints, unsigned_abs-mul}
use Rattle.std.proofs.lemmas.Bool.{eq-eqb}
use Rattle.lie_ring.specs.Rings.{sum_below}
use Rattle.lie_ring.specs.Integers.{integers}
use Rattle.lie_ring.specs.Powers.{power}
use Rattle.lie_ring.specs.Matrices.{Matrix, table, entry, product, AllFit}
use Rattle.lie_ring.specs.MatrixLemmas.{entry-table}
use Rattle.lie_mat.specs.Wide.{nat_sum_below, IsWideProduct}
use Rattle.lie_datum.proofs.VectorLemmas.{abs_add}
use Rattle.lie_const.specs.Modules.{Module, dimension, top, divided_power, root_element, root_element_entry, weyl_element, weyl_inverse}
use Rattle.lie_weight.specs.declared.elements.Elements.{Elements}
use Rattle.lie_weight.specs.declared.factors.Factors.{Factors}
use Rattle.lie_weight.specs.Conjugation.{absolute_element, absolute_weyl}
use Rattle.lie_weight.specs.Factors.{IsOfSize, IsBelow, IsNatural, HasDiagonal, IsBoundedBy, absolute_entry, sandwich, HasSmallPowers, AreElements, AreFactors, AreModuleFactors}
use Rattle.lie_weight.proofs.SizeLemmas.{nat_sum-mono, nat_sum-bound, abs_sum, pos_sum, product-size, natural-product, diagonal-product}
use Rattle.lie_weight.proofs.FactorLemmas.{below_itself, inner_narrow, outer_narrow, sandwich_below}

-- ---- multiples by 1, -1 and 0
pub multiple_small : (s e : ℤ) → unsigned_abs s ≤ 1 → unsigned_abs (s *ℤ e) ≤ unsigned_abs e
multiple_small s e h = one (unsigned_abs s) (unsigned_abs e) (unsigned_abs (s *ℤ e)) (unsigned_abs-mul s e) h
  where
    one : (a b c : ℕ) → c ≡ a * b → a ≤ 1 → c ≤ b
    one zero b c e p = omega (arith, e)
    one (suc zero) b c e p = omega (arith, e)
    one (suc (suc a)) b c e p = absurd (omega (arith, p))

-- ---- powers of 1 and -1
pub power_small : (t : ℤ) (k : ℕ) → unsigned_abs t ≤ 1 → unsigned_abs (power integers t k) ≤ 1
power_small t zero h = omega arith
power_small t (suc k) h = let p = multiple_small (power integers t k) t (power_small t k h) in omega (arith, p, h)

-- ---- the entry of the identity
abbrev pub bit : Bool → ℕ
bit true = 1
bit false = 0

bit_is : (t : Bool) → cond t (pos 1) (pos 0) ≡ pos (bit t)
bit_is true = refl
bit_is false = refl

bit_small : (t : Bool) → bit t ≤ 1
bit_small true = omega arith
bit_small false = omega arith

-- ---- the entries of one root
module _ (v : Module) (r : ℤ) (i j : ℕ) where
  -- the sizes of what the powers add
  abbrev pub size_at : ℕ → ℕ
  size_at k = nat_abs (entry (pos 0) (divided_power v r (suc k)) i j)

  -- the entry of the bound as a number
  pub absolute_entry_is : absolute_entry v r i j ≡ pos (bit (eqb i j) + nat_sum_below (top v r) size_at)
  absolute_entry_is = ap (λ a. a +ℤ sum_below integers (top v r) (λ k. pos (size_at k))) (bit_is (eqb i j)) ∙ ap (λ a. pos (bit (eqb i j)) +ℤ a) (pos_sum (top v r) size_at)

  pub entry_small : (n : ℕ) → top v r ≤ 16 → ((k : ℕ) → size_at k ≤ n) → nat_abs (absolute_entry v r i j) ≤ 1 + 16 * n
  entry_small n few h =
      let s = nat_sum-bound (top v r) size_at n (λ k l. h k) in
      let b = bit_small (eqb i j) in
      let m = times_small (top v r) 16 n few in
      subst (λ a. nat_abs a ≤ 1 + 16 * n) (sym absolute_entry_is) (omega (arith, s, b, m))
    where
      times_small : (a b c : ℕ) → a ≤ b → a * c ≤ b * c
      times_small zero b c l = omega arith
      times_small (suc a) zero c l = absurd (omega (arith, l))
      times_small (suc a) (suc b) c l = let m = times_small a b c (omega (arith, l)) in rw (step a c, step b c) (omega (arith, m))
        where
          step : (a c : ℕ) → suc a * c ≡ a * c + c
          step a c = omega arith

  -- that of the root element at 1 or -1 is at most as large
  pub element_below : (t : ℤ) → unsigned_abs t ≤ 1 → nat_abs (root_element_entry integers v r t i j) ≤ nat_abs (absolute_entry v r i j)
  element_below t h =
      let a = abs_add (cond (eqb i j) (pos 1) (pos 0)) (sum_below integers (top v r) (λ k. power integers t (suc k) *ℤ entry (pos 0) (divided_power v r (suc k)) i j)) in
      let b = ap nat_abs (bit_is (eqb i j)) in
      let c = abs_sum (top v r) (λ k. power integers t (suc k) *ℤ entry (pos 0) (divided_power v r (suc k)) i j) in
      let d = nat_sum-mono (top v r) (λ k. nat_abs (power integers t (suc k) *ℤ entry (pos 0) (divided_power v r (suc k)) i j)) size_at (λ k l. term k) in
      let e = ap nat_abs absolute_entry_is in
      omega (arith, a, b, c, d, e)
    where
      term : (k : ℕ) → nat_abs (power integers t (suc k) *ℤ entry (pos 0) (divided_power v r (suc k)) i j) ≤ size_at k
      term k = multiple_small (power integers t (suc k)) (entry (pos 0) (divided_power v r (suc k)) i j) (power_small t (suc k) h)

  -- what the power k + 1 adds to the entry of the root element
  abbrev pub added : ℤ → ℕ → ℤ
  added t k = power integers t (suc k) *ℤ entry (pos 0) (divided_power v r (suc k)) i j

  -- the entries of 1 and of the first n powers together
  abbrev pub entry_upto : (ℕ → ℤ) → ℕ → ℤ
  entry_upto f n = cond (eqb i j) (pos 1) (pos 0) +ℤ sum_below integers n f

  -- one power more
  pub upto-more : (f : ℕ → ℤ) (k : ℕ) (s x : ℤ) → s ≡ entry_upto f k → x ≡ f k → s +ℤ x ≡ entry_upto f (k + 1)
  upto-more f k s x a b =
      let one : suc k ≡ k + 1 = omega arith in
      ap (λ z. s +ℤ z) b ∙ ap (λ z. z +ℤ f k) a ∙ moved (cond (eqb i j) (pos 1) (pos 0)) (sum_below integers k f) (f k) ∙ ap (entry_upto f) one
    where
      moved : (x y z : ℤ) → x +ℤ y +ℤ z ≡ x +ℤ (y +ℤ z)
      moved x y z = omega (arith, ints)

-- ---- the matrices of one root
module _ (v : Module) (r : ℤ) where
  entry-element : (t : ℤ) (i j : ℕ) → i < dimension v → j < dimension v → entry (pos 0) (root_element integers v r t) i j ≡ root_element_entry integers v r t i j
  unfolding root_element
  entry-element t i j a b = entry-table (pos 0) (dimension v) (dimension v) (root_element_entry integers v r t) i j a b

  entry-absolute : (i j : ℕ) → i < dimension v → j < dimension v → entry (pos 0) (absolute_element v r) i j ≡ absolute_entry v r i j
  unfolding absolute_element
  entry-absolute i j a b = entry-table (pos 0) (dimension v) (dimension v) (absolute_entry v r) i j a b

  pub element-size : (t : ℤ) → IsOfSize (dimension v) (root_element integers v r t)
  unfolding root_element
  element-size t = record { height = refl; width = refl }

  pub absolute-size : IsOfSize (dimension v) (absolute_element v r)
  unfolding absolute_element
  absolute-size = record { height = refl; width = refl }

  pub below : (t : ℤ) → unsigned_abs t ≤ 1 → IsBelow (dimension v) (root_element integers v r t) (absolute_element v r)
  below t h i j a b =
      let e = ap nat_abs (entry-element t i j a b) in
      let f = ap nat_abs (entry-absolute i j a b) in
      let l = element_below v r i j t h in
      omega (arith, e, f, l)

  pub natural : IsNatural (dimension v) (absolute_element v r)
  natural i j a b =
      let e = entry-absolute i j a b ∙ absolute_entry_is v r i j in
      e ∙ ap (λ t. pos (nat_abs t)) (sym e)

  pub diagonal : HasDiagonal (dimension v) (absolute_element v r)
  diagonal j l =
      let e = ap nat_abs (entry-absolute j j l l ∙ absolute_entry_is v r j j) in
      let o = ap bit (eq-eqb j j refl) in
      omega (arith, e, o)

  pub bounded : HasSmallPowers v r → IsBoundedBy (dimension v) 1601 (absolute_element v r)
  bounded s i j a b =
      let f = ap nat_abs (entry-absolute i j a b) in
      let l = entry_small v r i j 100 s.few (λ k. s.small k i j a b) in
      omega (arith, f, l)

-- ---- the factors of two roots
module _ (v : Module) (few : dimension v ≤ 1024) (r s : ℤ) (hr : HasSmallPowers v r) (hs : HasSmallPowers v s) where
  abbrev n : ℕ
  n = dimension v

  abbrev A : Matrix ℤ
  A = absolute_element v r

  abbrev B : Matrix ℤ
  B = absolute_element v s

  module _ (P Q : Matrix ℤ) (sP : IsOfSize n P) (sQ : IsOfSize n Q) (PA : IsBelow n P A) (QB : IsBelow n Q B) where
    pub elements_inner : ¬ IsWideProduct integers Q P
    elements_inner = inner_narrow n few A B P Q (absolute-size v r) (absolute-size v s) sP sQ (natural v r) (natural v s) (bounded v r hr) (bounded v s hs) PA QB

    pub elements_outer : ¬ IsWideProduct integers P (product integers Q P)
    elements_outer = outer_narrow n few A B P Q (absolute-size v r) (absolute-size v s) sP sQ (natural v r) (natural v s) (bounded v r hr) (bounded v s hs) PA QB

    pub elements_below : IsBelow n (sandwich P Q) (sandwich A B)
    elements_below = sandwich_below n few A B P Q (absolute-size v r) (absolute-size v s) sP sQ (natural v r) (natural v s) (bounded v r hr) (bounded v s hs) PA QB

  sandwich-size : (P Q : Matrix ℤ) → IsOfSize n P → IsOfSize n Q → IsOfSize n (sandwich P Q)
  sandwich-size P Q p q = product-size n P (product integers Q P) p (product-size n Q P q p)

  pub sandwich_natural : IsNatural n (sandwich A B)
  sandwich_natural = natural-product n A (product integers B A) (absolute-size v r) (product-size n B A (absolute-size v s) (absolute-size v r)) (natural v r) (natural-product n B A (absolute-size v s) (absolute-size v r) (natural v s) (natural v r))

  pub sandwich_diagonal : HasDiagonal n (sandwich A B)
  sandwich_diagonal = diagonal-product n A (product integers B A) (absolute-size v r) (product-size n B A (absolute-size v s) (absolute-size v r)) (natural v r) (natural-product n B A (absolute-size v s) (absolute-size v r) (natural v s) (natural v r)) (diagonal v r)
      (diagonal-product n B A (absolute-size v s) (absolute-size v r) (natural v s) (natural v r) (diagonal v s) (diagonal v r))

  -- the sandwiches of root elements are factors
  pub sandwiches : (w : Factors) → w.element ≡ sandwich (root_element integers v r (pos 1)) (root_element integers v s (negsuc 0)) → w.inverse ≡ sandwich (root_element integers v r (negsuc 0)) (root_element integers v s (pos 1)) → w.absolute ≡ sandwich A B →
      AllFit integers w.element → AllFit integers w.inverse → AllFit integers w.absolute → AreFactors n w
  sandwiches w e i a fe fi fa =
      let one : unsigned_abs (pos 1) ≤ 1 = omega arith in
      let less : unsigned_abs (negsuc 0) ≤ 1 = omega arith in
      let P = root_element integers v r (pos 1) in
      let Q = root_element integers v s (negsuc 0) in
      let P' = root_element integers v r (negsuc 0) in
      let Q' = root_element integers v s (pos 1) in
      record {
        element_size = subst (IsOfSize n) (sym e) (sandwich-size P Q (element-size v r (pos 1)) (element-size v s (negsuc 0)));
        inverse_size = subst (IsOfSize n) (sym i) (sandwich-size P' Q' (element-size v r (negsuc 0)) (element-size v s (pos 1)));
        absolute_size = subst (IsOfSize n) (sym a) (sandwich-size A B (absolute-size v r) (absolute-size v s));
        element_fit = fe;
        inverse_fit = fi;
        absolute_fit = fa;
        element_below = subst (λ t. IsBelow n w.element t) (sym a) (subst (λ t. IsBelow n t (sandwich A B)) (sym e) (elements_below P Q (element-size v r (pos 1)) (element-size v s (negsuc 0)) (below v r (pos 1) one) (below v s (negsuc 0) less)));
        inverse_below = subst (λ t. IsBelow n w.inverse t) (sym a) (subst (λ t. IsBelow n t (sandwich A B)) (sym i) (elements_below P' Q' (element-size v r (negsuc 0)) (element-size v s (pos 1)) (below v r (negsuc 0) less) (below v s (pos 1) one)));
        natural = subst (IsNatural n) (sym a) sandwich_natural;
        diagonal = subst (HasDiagonal n) (sym a) sandwich_diagonal;
      }

-- ---- the factors of a simple index
weyl_sandwich : (v : Module) (i : ℕ) → weyl_element integers v i ≡ sandwich (root_element integers v (pos i) (pos 1)) (root_element integers v (neg_ℤ (pos i)) (negsuc 0))
unfolding weyl_element
weyl_sandwich v i = refl

inverse_sandwich : (v : Module) (i : ℕ) → weyl_inverse integers v i ≡ sandwich (root_element integers v (pos i) (negsuc 0)) (root_element integers v (neg_ℤ (pos i)) (pos 1))
unfolding weyl_inverse
inverse_sandwich v i = refl

absolute_sandwich : (v : Module) (i : ℕ) → absolute_weyl v i ≡ sandwich (absolute_element v (pos i)) (absolute_element v (neg_ℤ (pos i)))
unfolding absolute_weyl
absolute_sandwich v i = refl

module _ (v : Module) (i : ℕ) (few : dimension v ≤ 1024) (hu : HasSmallPowers v (pos i)) (hd : HasSmallPowers v (neg_ℤ (pos i))) (x y : Elements) (ex : AreElements v (pos i) x) (ey : AreElements v (neg_ℤ (pos i)) y) where
  pub made_factors : (w : Factors) → w.element ≡ sandwich x.plus y.minus → w.inverse ≡ sandwich x.minus y.plus → w.absolute ≡ sandwich x.absolute y.absolute → AllFit integers w.element → AllFit integers w.inverse → AllFit integers w.absolute → AreModuleFactors v i w
  made_factors w e f a fe ff fa =
      let e' = e ∙ ap (λ t. sandwich t y.minus) ex.plus ∙ ap (sandwich (root_element integers v (pos i) (pos 1))) ey.minus in
      let f' = f ∙ ap (λ t. sandwich t y.plus) ex.minus ∙ ap (sandwich (root_element integers v (pos i) (negsuc 0))) ey.plus in
      let a' = a ∙ ap (λ t. sandwich t y.absolute) ex.absolute ∙ ap (sandwich (absolute_element v (pos i))) ey.absolute in
      record {
        element = e' ∙ sym (weyl_sandwich v i);
        inverse = f' ∙ sym (inverse_sandwich v i);
        absolute = a' ∙ sym (absolute_sandwich v i);
        factors = sandwiches v few (pos i) (neg_ℤ (pos i)) hu hd w e' f' a' fe ff fa;
      }

  -- no product of theirs is too wide
  pub first_inner : ¬ IsWideProduct integers y.minus x.plus
  first_inner = subst (λ t. ¬ IsWideProduct integers t x.plus) (sym ey.minus) (subst (λ t. ¬ IsWideProduct integers (root_element integers v (neg_ℤ (pos i)) (negsuc 0)) t) (sym ex.plus)
      (elements_inner v few (pos i) (neg_ℤ (pos i)) hu hd (root_element integers v (pos i) (pos 1)) (root_element integers v (neg_ℤ (pos i)) (negsuc 0)) (element-size v (pos i) (pos 1)) (element-size v (neg_ℤ (pos i)) (negsuc 0)) (below v (pos i) (pos 1) (omega arith)) (below v (neg_ℤ (pos i)) (negsuc 0) (omega arith))))

  pub first_outer : ¬ IsWideProduct integers x.plus (product integers y.minus x.plus)
  first_outer = subst (λ t. ¬ IsWideProduct integers x.plus (product integers t x.plus)) (sym ey.minus) (subst (λ t. ¬ IsWideProduct integers t (product integers (root_element integers v (neg_ℤ (pos i)) (negsuc 0)) t)) (sym ex.plus)
      (elements_outer v few (pos i) (neg_ℤ (pos i)) hu hd (root_element integers v (pos i) (pos 1)) (root_element integers v (neg_ℤ (pos i)) (negsuc 0)) (element-size v (pos i) (pos 1)) (element-size v (neg_ℤ (pos i)) (negsuc 0)) (below v (pos i) (pos 1) (omega arith)) (below v (neg_ℤ (pos i)) (negsuc 0) (omega arith))))

  pub second_inner : ¬ IsWideProduct integers y.plus x.minus
  second_inner = subst (λ t. ¬ IsWideProduct integers t x.minus) (sym ey.plus) (subst (λ t. ¬ IsWideProduct integers (root_element integers v (neg_ℤ (pos i)) (pos 1)) t) (sym ex.minus)
      (elements_inner v few (pos i) (neg_ℤ (pos i)) hu hd (root_element integers v (pos i) (negsuc 0)) (root_element integers v (neg_ℤ (pos i)) (pos 1)) (element-size v (pos i) (negsuc 0)) (element-size v (neg_ℤ (pos i)) (pos 1)) (below v (pos i) (negsuc 0) (omega arith)) (below v (neg_ℤ (pos i)) (pos 1) (omega arith))))

  pub second_outer : ¬ IsWideProduct integers x.minus (product integers y.plus x.minus)
  second_outer = subst (λ t. ¬ IsWideProduct integers x.minus (product integers t x.minus)) (sym ey.plus) (subst (λ t. ¬ IsWideProduct integers t (product integers (root_element integers v (neg_ℤ (pos i)) (pos 1)) t)) (sym ex.minus)
      (elements_outer v few (pos i) (neg_ℤ (pos i)) hu hd (root_element integers v (pos i) (negsuc 0)) (root_element integers v (neg_ℤ (pos i)) (pos 1)) (element-size v (pos i) (negsuc 0)) (element-size v (neg_ℤ (pos i)) (pos 1)) (below v (pos i) (negsuc 0) (omega arith)) (below v (neg_ℤ (pos i)) (pos 1) (omega arith))))

  pub third_inner : ¬ IsWideProduct integers y.absolute x.absolute
  third_inner = subst (λ t. ¬ IsWideProduct integers t x.absolute) (sym ey.absolute) (subst (λ t. ¬ IsWideProduct integers (absolute_element v (neg_ℤ (pos i))) t) (sym ex.absolute)
      (elements_inner v few (pos i) (neg_ℤ (pos i)) hu hd (absolute_element v (pos i)) (absolute_element v (neg_ℤ (pos i))) (absolute-size v (pos i)) (absolute-size v (neg_ℤ (pos i))) (below_itself (dimension v) (absolute_element v (pos i))) (below_itself (dimension v) (absolute_element v (neg_ℤ (pos i))))))

  pub third_outer : ¬ IsWideProduct integers x.absolute (product integers y.absolute x.absolute)
  third_outer = subst (λ t. ¬ IsWideProduct integers x.absolute (product integers t x.absolute)) (sym ey.absolute) (subst (λ t. ¬ IsWideProduct integers t (product integers (absolute_element v (neg_ℤ (pos i))) t)) (sym ex.absolute)
      (elements_outer v few (pos i) (neg_ℤ (pos i)) hu hd (absolute_element v (pos i)) (absolute_element v (neg_ℤ (pos i))) (absolute-size v (pos i)) (absolute-size v (neg_ℤ (pos i))) (below_itself (dimension v) (absolute_element v (pos i))) (below_itself (dimension v) (absolute_element v (neg_ℤ (pos i))))))

-- ---- the tables of the entries
pub element_table : (v : Module) (r t : ℤ) → table (dimension v) (dimension v) (root_element_entry integers v r t) ≡ root_element integers v r t
unfolding root_element
element_table v r t = refl

pub absolute_table : (v : Module) (r : ℤ) → table (dimension v) (dimension v) (absolute_entry v r) ≡ absolute_element v r
unfolding absolute_element
absolute_table v r = refl

-- ---- the sizes of the elements of a root
pub record HaveSize (n : ℕ) (x : Elements) : Type 0 where
  pub plus : IsOfSize n x.plus
  pub minus : IsOfSize n x.minus
  pub absolute : IsOfSize n x.absolute

pub elements_sizes : (v : Module) (r : ℤ) (x : Elements) → AreElements v r x → HaveSize (dimension v) x
elements_sizes v r x e = record {
  plus = subst (IsOfSize (dimension v)) (sym e.plus) (element-size v r (pos 1));
  minus = subst (IsOfSize (dimension v)) (sym e.minus) (element-size v r (negsuc 0));
  absolute = subst (IsOfSize (dimension v)) (sym e.absolute) (absolute-size v r);
}

pub across : (n : ℕ) (A B : Matrix ℤ) → IsOfSize n A → IsOfSize n B → A.width ≡ B.height
across n A B p q = p.width ∙ sym q.height
