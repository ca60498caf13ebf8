-- A finite field as a ring on the numbers below its order: a roomy one, in which sizes and degrees are 0.
-- The degree is that of a ring's element; `degree` of `Quotient.antt` is the degree of the field over the integers modulo p.
use Rattle.std.proofs.Common.{◌≡◌, ℕ, ltb, true, refl, arith}
use Rattle.std.specs.Prelude.{ℤ, pos, negsuc}
use Rattle.std.proofs.lemmas.Bool.{ltb-true, lt-ltb}
use Rattle.lie_ring.specs.Rings.{RingOn, IsCommutativeRing, IsFromIntegers, IsSized, IsRing}
use Rattle.lie_ring.specs.FromNaturals.{from_naturals, integers_from_naturals}
use Rattle.lie_field.specs.Quotient.{order, add, mul, neg, of_int}
use Rattle.lie_field.specs.FiniteField.{FiniteField}
use Rattle.lie_field.specs.Algebra.FieldTest.{is_lawful}
use Rattle.lie_field.specs.Algebra.Laws.{add_comm, add_assoc, add_zero, add_neg, mul_comm, mul_assoc, mul_one, mul-add, add_below, mul_below, neg_below}
use Rattle.lie_field.specs.Algebra.Powers.{one_below}
use Rattle.lie_field.specs.Algebra.Scalars.{of_nat, of_nat-below, of_nat-zero, of_nat-one, of_nat-plus, of_nat-times}

-- the elements are the numbers below q, and each has size and degree 0
abbrev pub field_ring : FiniteField → RingOn ℕ
field_ring f = record {
  is_elem = λ a. ltb a (order f.given);
  zero = 0;
  one = 1;
  add = add f.given;
  neg = neg f.given;
  mul = mul f.given;
  of_int = of_int f.given;
  size = λ _. 0;
  degree = λ _. 0;
  roomy = true;
}

-- the elements are a commutative ring with one
field_commutative : (f : FiniteField) → IsCommutativeRing (field_ring f)
field_commutative f =
    let d = is_lawful f in
    let r = d.ring in
    let large = one_below f.given r in
    record {
      zero_elem = lt-ltb 0 (order f.given) (omega (arith, large));
      one_elem = lt-ltb 1 (order f.given) large;
      add_elem = λ a b _ _. lt-ltb _ (order f.given) (add_below f.given r a b);
      neg_elem = λ a _. lt-ltb _ (order f.given) (neg_below f.given r a);
      mul_elem = λ a b _ _. lt-ltb _ (order f.given) (mul_below f.given r a b);
      add_assoc = λ a b c _ _ _. add_assoc f.given r a b c;
      add_comm = λ a b _ _. add_comm f.given r a b;
      add_zero = λ a p. add_zero f.given r a (ltb-true a (order f.given) p);
      add_neg = λ a _. add_neg f.given r a;
      mul_assoc = λ a b c _ _ _. mul_assoc f.given r a b c;
      mul_comm = λ a b _ _. mul_comm f.given r a b;
      mul_one = λ a p. mul_one f.given r a (ltb-true a (order f.given) p);
      mul_add = λ a b c _ _ _. mul-add f.given r a b c;
    }

-- a negative whole number is read as the negative of a natural number
of_int-is : (f : FiniteField) (n : ℤ) → of_int f.given n ≡ from_naturals (field_ring f) (of_nat f.given) n
unfolding of_int of_nat
of_int-is f (pos n) = refl
of_int-is f (negsuc n) = refl

-- `of_int` is the homomorphism from the integers
field_integers : (f : FiniteField) → IsFromIntegers (field_ring f)
field_integers f =
    let r = (is_lawful f).ring in
    integers_from_naturals (field_ring f) (field_commutative f) (of_nat f.given)
    (λ n. lt-ltb _ (order f.given) (of_nat-below f.given r n))
    (of_nat-zero f.given r) (of_nat-one f.given r) (of_nat-plus f.given r) (of_nat-times f.given r) (of_int-is f)

-- sizes and degrees are 0
field_sized : (f : FiniteField) → IsSized (field_ring f)
field_sized f = record {
  size_zero = refl;
  size_one = omega arith;
  size_int = λ n. omega arith;
  size_neg = λ a _. refl;
  size_add = λ a b _ _. omega arith;
  size_mul = λ a b _ _. omega arith;
  degree_zero = refl;
  degree_one = refl;
  degree_int = λ _. refl;
  degree_neg = λ _ _. refl;
  degree_add = λ _ _ _ _. omega arith;
  degree_mul = λ _ _ _ _. omega arith;
  roomy_size = λ _ _ _. refl;
  roomy_degree = λ _ _ _. refl;
}

-- a finite field is a roomy ring
pub field_is_ring : (f : FiniteField) → IsRing (field_ring f)
field_is_ring f = record { laws = field_commutative f; integers = field_integers f; sized = field_sized f }
