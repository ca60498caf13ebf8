-- The elements of a field as a type, those that are not 0 (units), and their powers by whole numbers.
-- Own: the operations are total, and each law holds at every value, so no law has a premise `a < q`.
use Rattle.std.proofs.Common.{◌≡◌, ℕ, zero, suc, ◌<◌, eqb, Bool, true, false, not, T, refl, sym, ap, ap₂, ◌∙◌, subst, arith}
use Rattle.std.specs.Prelude.{ℤ, pos, negsuc, neg_ℤ, ◌+ℤ◌, ◌*ℤ◌, ◌≢◌, ◌⊎◌}
use Rattle.std.proofs.Common.{inl, inr}
use mathlib.Core.Logic.{⊎_elim}
use Rattle.std.proofs.lemmas.Bool.{ltb-true, cases_eq}
use Rattle.std.proofs.lemmas.Int.{ints}
use Rattle.std.proofs.Math.Facts.{eqb_no, no_eqb}
use lib.Dec.{T_prop}
use mathlib.Core.HLevel.{Σ_prop_path}
use Rattle.lie_base.specs.Below.{Below, same_below, at_number, is_below}
use Rattle.lie_field.specs.Quotient.{order, add, mul, neg, inv, power, power_int, of_int}
use Rattle.lie_field.specs.FiniteField.{FiniteField}
use Rattle.lie_field.specs.Algebra.FieldTest.{is_lawful}
use Rattle.lie_field.specs.FieldRing.{field_is_ring}
use Rattle.lie_field.specs.Algebra.Laws
use Rattle.lie_field.specs.Algebra.Powers
use Rattle.lie_field.specs.Algebra.IntegerPowers.{power_int-add}
use Rattle.lie_field.specs.Units.{IsUnit}
use Rattle.lie_ring.specs.IntegerLaws.{integers_commutative}
use Rattle.lie_ring.specs.Integers.{integers}
use Rattle.lie_ring.specs.RingLemmas.{mul_zero, mul_neg}

-- an element
abbrev pub Elem : FiniteField → Type 0
Elem f = Below (order f.given)

-- an element that is not 0
pub record NonZero (f : FiniteField) : Type 0 where
  pub element : Elem f
  pub nonzero : T (not (eqb element.number 0))

-- values with equal numbers are equal
pub same_nonzero : (f : FiniteField) (a b : NonZero f) → a.element.number ≡ b.element.number → a ≡ b
same_nonzero f a b e =
    let elements : a.element ≡ b.element = same_below (order f.given) a.element b.element e in
    let pairs : ◌≡◌ {A = (x : Elem f) × T (not (eqb x.number 0))} (a.element, a.nonzero) (b.element, b.nonzero) = Σ_prop_path (λ x. T_prop _) elements in
    λ i. record { element = (pairs i).0; nonzero = (pairs i).1 }

module _ (f : FiniteField) where
  -- q is at least 2
  pub order_large : 1 < order f.given
  order_large = Powers.one_below f.given (is_lawful f).ring

  -- q is positive
  pub order_positive : 0 < order f.given
  order_positive = let l = order_large in omega (arith, l)

  -- 0
  unfoldable pub zero_elem : Elem f
  zero_elem = at_number (order f.given) 0 order_positive

  -- 1
  unfoldable pub one_elem : Elem f
  one_elem = at_number (order f.given) 1 order_large

  -- the sum
  unfoldable pub elem_add : Elem f → Elem f → Elem f
  elem_add a b = at_number (order f.given) (add f.given a.number b.number) (Laws.add_below f.given (is_lawful f).ring a.number b.number)

  -- the negative
  unfoldable pub elem_neg : Elem f → Elem f
  elem_neg a = at_number (order f.given) (neg f.given a.number) (Laws.neg_below f.given (is_lawful f).ring a.number)

  -- the product
  unfoldable pub elem_mul : Elem f → Elem f → Elem f
  elem_mul a b = at_number (order f.given) (mul f.given a.number b.number) (Laws.mul_below f.given (is_lawful f).ring a.number b.number)

  -- the inverse, of an element that is not 0
  unfoldable pub elem_inv : Elem f → Elem f
  elem_inv a = at_number (order f.given) (inv f.given a.number) (Powers.inv-below f.given (is_lawful f) a.number)

  -- a whole number in the field
  unfoldable pub elem_int : ℤ → Elem f
  elem_int n = at_number (order f.given) (of_int f.given n) (ltb-true _ (order f.given) ((field_is_ring f).integers.int_elem n))

  -- ---- the numbers of the results
  pub zero_elem-number : zero_elem.number ≡ 0
  unfolding zero_elem
  zero_elem-number = refl

  pub one_elem-number : one_elem.number ≡ 1
  unfolding one_elem
  one_elem-number = refl

  pub elem_add-number : (a b : Elem f) → (elem_add a b).number ≡ add f.given a.number b.number
  unfolding elem_add
  elem_add-number a b = refl

  pub elem_neg-number : (a : Elem f) → (elem_neg a).number ≡ neg f.given a.number
  unfolding elem_neg
  elem_neg-number a = refl

  pub elem_mul-number : (a b : Elem f) → (elem_mul a b).number ≡ mul f.given a.number b.number
  unfolding elem_mul
  elem_mul-number a b = refl

  pub elem_inv-number : (a : Elem f) → (elem_inv a).number ≡ inv f.given a.number
  unfolding elem_inv
  elem_inv-number a = refl

  pub elem_int-number : (n : ℤ) → (elem_int n).number ≡ of_int f.given n
  unfolding elem_int
  elem_int-number n = refl

  -- ---- the laws of a field, at every value
  -- elements with equal numbers are equal
  same : {a b : Elem f} → a.number ≡ b.number → a ≡ b
  same {a} {b} e = same_below (order f.given) a b e

  pub elem_add_assoc : (a b c : Elem f) → elem_add (elem_add a b) c ≡ elem_add a (elem_add b c)
  unfolding elem_add
  elem_add_assoc a b c = same (Laws.add_assoc f.given (is_lawful f).ring a.number b.number c.number)

  pub elem_add_comm : (a b : Elem f) → elem_add a b ≡ elem_add b a
  unfolding elem_add
  elem_add_comm a b = same (Laws.add_comm f.given (is_lawful f).ring a.number b.number)

  pub elem_add_zero : (a : Elem f) → elem_add a zero_elem ≡ a
  unfolding elem_add zero_elem
  elem_add_zero a = same (Laws.add_zero f.given (is_lawful f).ring a.number (is_below (order f.given) a))

  pub elem_add_neg : (a : Elem f) → elem_add a (elem_neg a) ≡ zero_elem
  unfolding elem_add elem_neg zero_elem
  elem_add_neg a = same (Laws.add_neg f.given (is_lawful f).ring a.number)

  pub elem_mul_assoc : (a b c : Elem f) → elem_mul (elem_mul a b) c ≡ elem_mul a (elem_mul b c)
  unfolding elem_mul
  elem_mul_assoc a b c = same (Laws.mul_assoc f.given (is_lawful f).ring a.number b.number c.number)

  pub elem_mul_comm : (a b : Elem f) → elem_mul a b ≡ elem_mul b a
  unfolding elem_mul
  elem_mul_comm a b = same (Laws.mul_comm f.given (is_lawful f).ring a.number b.number)

  pub elem_mul_one : (a : Elem f) → elem_mul a one_elem ≡ a
  unfolding elem_mul one_elem
  elem_mul_one a = same (Laws.mul_one f.given (is_lawful f).ring a.number (is_below (order f.given) a))

  pub elem_mul_add : (a b c : Elem f) → elem_mul a (elem_add b c) ≡ elem_add (elem_mul a b) (elem_mul a c)
  unfolding elem_mul elem_add
  elem_mul_add a b c = same (Laws.mul-add f.given (is_lawful f).ring a.number b.number c.number)

  -- the number of an element that is not 0 is positive
  pub number_positive : (a : Elem f) → ¬ (a ≡ zero_elem) → 0 < a.number
  unfolding zero_elem
  number_positive a h = let apart : a.number ≢ 0 = λ e. h (same e) in omega (arith, apart)

  pub elem_mul_inv : (a : Elem f) → ¬ (a ≡ zero_elem) → elem_mul a (elem_inv a) ≡ one_elem
  unfolding elem_mul elem_inv one_elem
  elem_mul_inv a h = same (Powers.mul-inv f.given (is_lawful f) a.number (number_positive a h) (is_below (order f.given) a))

  -- 1 is not 0
  pub one_not_zero : ¬ (one_elem ≡ zero_elem)
  unfolding one_elem zero_elem
  one_not_zero e = let n : ◌≡◌ {A = ℕ} 1 0 = ap (λ (x : Elem f). x.number) e in omega (arith, n)

  -- an element is 0 or not
  pub zero_or_not : (a : Elem f) → (a ≡ zero_elem) ⊎ (¬ (a ≡ zero_elem))
  unfolding zero_elem
  zero_or_not a = ⊎_elim (λ (e : a.number ≡ 0). inl (same e)) (λ (h : ¬ (a.number ≡ 0)). inr (λ (e : a ≡ zero_elem). h (ap (λ (x : Elem f). x.number) e))) (cases_eq a.number 0)

  -- ---- the elements that are not 0, a commutative group
  positive_number : (a : NonZero f) → 0 < a.element.number
  positive_number a = let h = eqb_no a.nonzero in omega (arith, h)

  -- units with equal numbers are equal
  same_unit : {a b : NonZero f} → a.element.number ≡ b.element.number → a ≡ b
  same_unit {a} {b} e = same_nonzero f a b e

  -- a product of elements that are not 0 is not 0
  pub mul_apart : (a b : NonZero f) → mul f.given a.element.number b.element.number ≢ 0
  mul_apart a b =
      let x = a.element.number in
      let y = b.element.number in
      let p = positive_number a in
      let q = positive_number b in
      λ e. (let z = Powers.no_zero_divisors f.given (is_lawful f) x y p (is_below (order f.given) a.element) (is_below (order f.given) b.element) e in omega (arith, z, q))

  -- an inverse is not 0
  pub inv_apart : (a : NonZero f) → inv f.given a.element.number ≢ 0
  inv_apart a =
      let x = a.element.number in
      let d = is_lawful f in
      λ e. (let n : ◌≡◌ {A = ℕ} 1 0 = sym (Powers.mul-inv f.given d x (positive_number a) (is_below (order f.given) a.element)) ∙ ap (mul f.given x) e ∙ Laws.mul_zero f.given d.ring x in omega (arith, n))

  -- the number 1 is not 0
  pub one_apart : ◌≢◌ {A = ℕ} 1 0
  one_apart = omega arith

  -- 1, as a unit
  unfoldable pub unit_one : NonZero f
  unit_one = record { element = at_number (order f.given) 1 order_large; nonzero = no_eqb one_apart }

  -- the product of units
  unfoldable pub unit_mul : NonZero f → NonZero f → NonZero f
  unit_mul a b = record {
    element = at_number (order f.given) (mul f.given a.element.number b.element.number) (Laws.mul_below f.given (is_lawful f).ring a.element.number b.element.number);
    nonzero = no_eqb (mul_apart a b);
  }

  -- the inverse of a unit
  unfoldable pub unit_inv : NonZero f → NonZero f
  unit_inv a = record {
    element = at_number (order f.given) (inv f.given a.element.number) (Powers.inv-below f.given (is_lawful f) a.element.number);
    nonzero = no_eqb (inv_apart a);
  }

  -- the units' operations are those of the elements
  pub unit_one-element : unit_one.element ≡ one_elem
  unfolding unit_one one_elem
  unit_one-element = refl

  pub unit_mul-element : (a b : NonZero f) → (unit_mul a b).element ≡ elem_mul a.element b.element
  unfolding unit_mul elem_mul
  unit_mul-element a b = refl

  pub unit_inv-element : (a : NonZero f) → (unit_inv a).element ≡ elem_inv a.element
  unfolding unit_inv elem_inv
  unit_inv-element a = refl

  -- and their numbers are those of the operations on numbers
  pub unit_mul-number : (a b : NonZero f) → (unit_mul a b).element.number ≡ mul f.given a.element.number b.element.number
  unfolding unit_mul
  unit_mul-number a b = refl

  pub unit_inv-number : (a : NonZero f) → (unit_inv a).element.number ≡ inv f.given a.element.number
  unfolding unit_inv
  unit_inv-number a = refl

  pub unit_one-number : unit_one.element.number ≡ 1
  unfolding unit_one
  unit_one-number = refl

  pub unit_assoc : (a b c : NonZero f) → unit_mul (unit_mul a b) c ≡ unit_mul a (unit_mul b c)
  unfolding unit_mul
  unit_assoc a b c = same_unit (Laws.mul_assoc f.given (is_lawful f).ring a.element.number b.element.number c.element.number)

  pub unit_comm : (a b : NonZero f) → unit_mul a b ≡ unit_mul b a
  unfolding unit_mul
  unit_comm a b = same_unit (Laws.mul_comm f.given (is_lawful f).ring a.element.number b.element.number)

  pub unit_mul_one : (a : NonZero f) → unit_mul a unit_one ≡ a
  unfolding unit_mul unit_one
  unit_mul_one a = same_unit (Laws.mul_one f.given (is_lawful f).ring a.element.number (is_below (order f.given) a.element))

  pub unit_mul_inv : (a : NonZero f) → unit_mul a (unit_inv a) ≡ unit_one
  unfolding unit_mul unit_inv unit_one
  unit_mul_inv a = same_unit (Powers.mul-inv f.given (is_lawful f) a.element.number (positive_number a) (is_below (order f.given) a.element))

  -- a unit is not 0
  pub unit_not_zero : (a : NonZero f) → ¬ (a.element ≡ zero_elem)
  unfolding zero_elem
  unit_not_zero a e = eqb_no a.nonzero (ap (λ (x : Elem f). x.number) e)

  -- the inverse is the only one
  pub unit_inv_only : (a b : NonZero f) → unit_mul a b ≡ unit_one → b ≡ unit_inv a
  unit_inv_only a b e =
      sym (unit_mul_one b)
      ∙ ap (unit_mul b) (sym (unit_mul_inv a))
      ∙ sym (unit_assoc b a (unit_inv a))
      ∙ ap (λ x. unit_mul x (unit_inv a)) (unit_comm b a ∙ e)
      ∙ unit_comm unit_one (unit_inv a) ∙ unit_mul_one (unit_inv a)

  -- (a b) (c d) = (a c) (b d)
  pub unit_middle : (a b c d : NonZero f) → unit_mul (unit_mul a b) (unit_mul c d) ≡ unit_mul (unit_mul a c) (unit_mul b d)
  unit_middle a b c d =
      unit_assoc a b (unit_mul c d)
      ∙ ap (unit_mul a) (sym (unit_assoc b c d) ∙ ap (λ x. unit_mul x d) (unit_comm b c) ∙ unit_assoc c b d)
      ∙ sym (unit_assoc a c (unit_mul b d))

  -- the inverse of a product is the product of the inverses
  pub unit_inv_mul : (a b : NonZero f) → unit_inv (unit_mul a b) ≡ unit_mul (unit_inv a) (unit_inv b)
  unit_inv_mul a b =
      sym (unit_inv_only (unit_mul a b) (unit_mul (unit_inv a) (unit_inv b))
      (unit_middle a b (unit_inv a) (unit_inv b) ∙ ap₂ unit_mul (unit_mul_inv a) (unit_mul_inv b) ∙ unit_mul_one unit_one))

  -- the inverse of the inverse is the unit itself
  pub unit_inv_inv : (a : NonZero f) → unit_inv (unit_inv a) ≡ a
  unit_inv_inv a = sym (unit_inv_only (unit_inv a) a (unit_comm (unit_inv a) a ∙ unit_mul_inv a))

  -- the inverse of 1 is 1
  pub unit_inv_one : unit_inv unit_one ≡ unit_one
  unit_inv_one = sym (unit_inv_only unit_one unit_one (unit_mul_one unit_one))

  -- ---- powers
  unfoldable pub unit_power : NonZero f → ℕ → NonZero f
  unit_power a zero = unit_one
  unit_power a (suc n) = unit_mul (unit_power a n) a

  -- where the exponent is negative, the power of the inverse
  unfoldable pub unit_power_int : NonZero f → ℤ → NonZero f
  unit_power_int a (pos n) = unit_power a n
  unit_power_int a (negsuc n) = unit_power (unit_inv a) (suc n)

  -- the powers of 1 are 1
  pub unit_power-one : (n : ℕ) → unit_power unit_one n ≡ unit_one
  unfolding unit_power
  unit_power-one zero = refl
  unit_power-one (suc n) = ap (λ x. unit_mul x unit_one) (unit_power-one n) ∙ unit_mul_one unit_one

  -- a power of a product is the product of the powers
  pub unit_power-mul : (a b : NonZero f) (n : ℕ) → unit_power (unit_mul a b) n ≡ unit_mul (unit_power a n) (unit_power b n)
  unfolding unit_power
  unit_power-mul a b zero = sym (unit_mul_one unit_one)
  unit_power-mul a b (suc n) = ap (λ x. unit_mul x (unit_mul a b)) (unit_power-mul a b n) ∙ unit_middle (unit_power a n) (unit_power b n) a b

  -- a power of the inverse is the inverse of the power
  pub unit_power-inv : (a : NonZero f) (n : ℕ) → unit_power (unit_inv a) n ≡ unit_inv (unit_power a n)
  unfolding unit_power
  unit_power-inv a zero = sym unit_inv_one
  unit_power-inv a (suc n) = ap (λ x. unit_mul x (unit_inv a)) (unit_power-inv a n) ∙ sym (unit_inv_mul (unit_power a n) a)

  -- and so for whole exponents
  pub power_one : (n : ℤ) → unit_power_int unit_one n ≡ unit_one
  unfolding unit_power_int
  power_one (pos n) = unit_power-one n
  power_one (negsuc n) = ap (λ x. unit_power x (suc n)) unit_inv_one ∙ unit_power-one (suc n)

  -- (a b)^n = a^n b^n
  pub power_mul : (a b : NonZero f) (n : ℤ) → unit_power_int (unit_mul a b) n ≡ unit_mul (unit_power_int a n) (unit_power_int b n)
  unfolding unit_power_int
  power_mul a b (pos n) = unit_power-mul a b n
  power_mul a b (negsuc n) = ap (λ x. unit_power x (suc n)) (unit_inv_mul a b) ∙ unit_power-mul (unit_inv a) (unit_inv b) (suc n)

  -- a^(-n) is the inverse of a^n
  pub power_neg : (a : NonZero f) (n : ℤ) → unit_power_int a (neg_ℤ n) ≡ unit_inv (unit_power_int a n)
  unfolding unit_power_int unit_power
  power_neg a (pos zero) = sym unit_inv_one
  power_neg a (pos (suc n)) = unit_power-inv a (suc n)
  power_neg a (negsuc n) = sym (unit_inv_inv (unit_power a (suc n))) ∙ ap unit_inv (sym (unit_power-inv a (suc n)))

  -- the numbers of powers
  pub unit_power-number : (a : NonZero f) (n : ℕ) → (unit_power a n).element.number ≡ power f.given a.element.number n
  unfolding unit_power unit_one unit_mul power
  unit_power-number a zero = refl
  unit_power-number a (suc n) = ap (λ x. mul f.given x a.element.number) (unit_power-number a n)

  -- the powers are those of the numbers
  pub power-number : (a : NonZero f) (n : ℤ) → (unit_power_int a n).element.number ≡ power_int f.given a.element.number n
  unfolding unit_power_int power_int unit_inv
  power-number a (pos n) = unit_power-number a n
  power-number a (negsuc n) = unit_power-number (unit_inv a) (suc n)

  -- a^0 = 1
  pub power_zero : (a : NonZero f) → unit_power_int a (pos 0) ≡ unit_one
  unfolding unit_power_int unit_power
  power_zero a = refl

  -- a^1 = a
  pub power_first : (a : NonZero f) → unit_power_int a (pos 1) ≡ a
  unfolding unit_power_int unit_power
  power_first a = unit_comm unit_one a ∙ unit_mul_one a

  -- a^(m + n) = a^m a^n
  pub power_add : (a : NonZero f) (m n : ℤ) → unit_power_int a (m +ℤ n) ≡ unit_mul (unit_power_int a m) (unit_power_int a n)
  power_add a m n = same_unit
      (power-number a (m +ℤ n)
      ∙ power_int-add f.given (is_lawful f) a.element.number (positive_number a) (is_below (order f.given) a.element) m n
      ∙ sym (unit_mul-number (unit_power_int a m) (unit_power_int a n) ∙ ap₂ (mul f.given) (power-number a m) (power-number a n)))

  -- m n + m = m (n + 1)
  one_more : (m : ℤ) (n : ℕ) → (m *ℤ pos n) +ℤ m ≡ m *ℤ pos (suc n)
  one_more m n =
      let e : pos n +ℤ pos 1 ≡ pos (suc n) = omega (arith, ints) in
      ap (λ x. (m *ℤ pos n) +ℤ x) (sym (integers_commutative.mul_one m refl)) ∙ sym (integers_commutative.mul_add m (pos n) (pos 1) refl refl refl) ∙ ap (λ x. m *ℤ x) e

  -- a^(m n) = (a^m)^n, where n is a natural number
  natural_power : (a : NonZero f) (m : ℤ) (n : ℕ) → unit_power_int a (m *ℤ pos n) ≡ unit_power_int (unit_power_int a m) (pos n)
  natural_power a m zero = ap (unit_power_int a) (mul_zero integers integers_commutative m refl) ∙ power_zero a ∙ sym (power_zero (unit_power_int a m))
  natural_power a m (suc n) =
      let e : pos n +ℤ pos 1 ≡ pos (suc n) = omega (arith, ints) in
      ap (unit_power_int a) (sym (one_more m n))
      ∙ power_add a (m *ℤ pos n) m
      ∙ ap₂ unit_mul (natural_power a m n) (sym (power_first (unit_power_int a m)))
      ∙ sym (power_add (unit_power_int a m) (pos n) (pos 1))
      ∙ ap (unit_power_int (unit_power_int a m)) e

  -- a^(m n) = (a^m)^n
  pub power_power : (a : NonZero f) (m n : ℤ) → unit_power_int a (m *ℤ n) ≡ unit_power_int (unit_power_int a m) n
  power_power a m (pos n) = natural_power a m n
  power_power a m (negsuc n) =
      ap (unit_power_int a) (mul_neg integers integers_commutative m (pos (suc n)) refl refl)
      ∙ power_neg a (m *ℤ pos (suc n))
      ∙ ap unit_inv (natural_power a m (suc n))
      ∙ sym (power_neg (unit_power_int a m) (pos (suc n)))

  -- ---- units by their numbers
  -- a positive number is not 0
  pub positive_apart : (a : ℕ) → 0 < a → a ≢ 0
  positive_apart a above = omega (arith, above)

  -- the unit with a given number
  abbrev pub unit_at : (a : ℕ) → IsUnit f a → NonZero f
  unit_at a h = record { element = at_number (order f.given) a h.1; nonzero = no_eqb (positive_apart a h.0) }

  -- the number of an element that is not 0 is that of a unit
  pub IsUnit-number : (a : NonZero f) → IsUnit f a.element.number
  IsUnit-number a = (positive_number a, is_below (order f.given) a.element)

  -- ---- the element itself, where it is not 0, else one
  unfoldable pub nonzero_by : (a : Elem f) (b : Bool) → not (eqb a.number 0) ≡ b → NonZero f
  nonzero_by a true e = record { element = a; nonzero = subst T (sym e) tt }
  nonzero_by a false e = unit_one

  -- an element as a unit, where 0 is read as 1
  unfoldable pub as_nonzero : Elem f → NonZero f
  as_nonzero a = nonzero_by a (not (eqb a.number 0)) refl

  -- where it is not 0, it is the element itself
  nonzero_by-element : (a : Elem f) (b : Bool) (e : not (eqb a.number 0) ≡ b) → T b → (nonzero_by a b e).element ≡ a
  unfolding nonzero_by
  nonzero_by-element a true e t = refl
  nonzero_by-element a false e t = absurd t

  -- where it is not 0, it is the element itself
  pub as_nonzero-element : (a : Elem f) → ¬ (a ≡ zero_elem) → (as_nonzero a).element ≡ a
  unfolding as_nonzero zero_elem
  as_nonzero-element a h = nonzero_by-element a (not (eqb a.number 0)) refl (no_eqb (λ e. h (same e)))

  -- units with equal elements are equal
  pub same_element : {a b : NonZero f} → a.element ≡ b.element → a ≡ b
  same_element {a} {b} e = same_unit (ap (λ (x : Elem f). x.number) e)
