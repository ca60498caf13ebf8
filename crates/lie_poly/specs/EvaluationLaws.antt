-- Evaluation is a homomorphism.
-- For proofs: no public clause cites it.
use Rattle.std.proofs.Common.{◌≡◌, ℕ, [], ◌∷◌, ◌++◌, refl, ap₂, ◌∙◌}
use Rattle.std.specs.Prelude.{ℤ, pos}
use Rattle.std.proofs.lemmas.Bool.{lt-ltb}
use Rattle.lie_ring.specs.Rings.{RingOn, IsElem, IsRing, IsHom}
use Rattle.lie_ring.specs.RingLemmas.{mul_middle}
use Rattle.lie_field.specs.Quotient.{order, mul, power_int, of_int}
use Rattle.lie_field.specs.FiniteField.{FiniteField}
use Rattle.lie_field.specs.FieldRing.{field_ring, field_is_ring}
use Rattle.lie_field.specs.Algebra.FieldTest.{is_lawful}
use Rattle.lie_field.specs.Algebra.Laws.{mul_one, mul_below}
use Rattle.lie_field.specs.Algebra.Powers.{one_below}
use Rattle.lie_field.specs.Algebra.IntegerPowers.{power_int-below, power_int-add, power_int-none}
use Rattle.lie_field.specs.Units.{IsUnit}
use Rattle.lie_poly.specs.Terms.{Exponents, term, shift, products, total_over}
use Rattle.lie_poly.specs.Totals.{total-elem, total-append, total-collect, total-products, total-scale}
use Rattle.lie_poly.specs.Polynomials.{monomial, laurent}
use Rattle.lie_poly.specs.Evaluation.{monomial_at, evaluation}

-- f is multiplicative, as t^i u^j is in the exponents i, j
pub record IsMonomial {A : Type 0} (R : RingOn A) (f : Exponents → A) : Type 0 where
  pub elem : (e : Exponents) → IsElem R (f e)
  pub one : f (pos 0, pos 0) ≡ R.one
  pub mul : (d e : Exponents) → f (shift d e) ≡ R.mul (f d) (f e)

-- the sum of the c f(i, j) is a homomorphism, where f is multiplicative
pub total-hom : {A : Type 0} (R : RingOn A) (f : Exponents → A) → IsRing R → IsMonomial R f → IsHom laurent R (λ p. total_over R f p.terms)
total-hom R f ring mono = record {
  elem = λ p _. total-elem R ring f mono.elem p.terms;
  zero = refl;
  one =
      total-collect R ring f mono.elem (term (pos 0, pos 0) (pos 1) ∷ [])
      ∙ ring.laws.add_zero (R.mul (R.of_int (pos 1)) (f (pos 0, pos 0))) (ring.laws.mul_elem (R.of_int (pos 1)) (f (pos 0, pos 0)) (ring.integers.int_elem (pos 1)) (mono.elem (pos 0, pos 0)))
      ∙ ap₂ R.mul ring.integers.int_one mono.one ∙ ring.laws.mul_one R.one ring.laws.one_elem;
  add = λ p q _ _. total-collect R ring f mono.elem (p.terms ++ q.terms) ∙ total-append R ring f mono.elem p.terms q.terms;
  mul = λ p q _ _.
      let at_q = total_over R f q.terms in
      let q_elem = total-elem R ring f mono.elem q.terms in
      total-collect R ring f mono.elem (products p.terms q.terms)
      ∙ total-products R ring f p.terms q.terms mono.elem
      ∙ (λ i. total_over R (λ d. total_over R (λ e. mono.mul d e i) q.terms) p.terms)
      ∙ (λ i. total_over R (λ d. total-scale R ring (f d) f q.terms (mono.elem d) mono.elem i) p.terms)
      ∙ (λ i. total_over R (λ d. ring.laws.mul_comm (f d) at_q (mono.elem d) q_elem i) p.terms)
      ∙ total-scale R ring at_q f p.terms q_elem mono.elem
      ∙ ring.laws.mul_comm at_q (total_over R f p.terms) q_elem (total-elem R ring f mono.elem p.terms);
}

-- t^i u^j is multiplicative in the exponents
pub monomial_at-is : (f : FiniteField) (t u : ℕ) → IsUnit f t → IsUnit f u → IsMonomial (field_ring f) (monomial_at f t u)
monomial_at-is f t u at_t at_u =
    let d = is_lawful f in
    let r = d.ring in
    let g = f.given in
    let R = field_ring f in
    let power_elem = λ (a : ℕ) (n : ℤ). lt-ltb (power_int g a n) (order g) (power_int-below g d a n) in
    record {
      elem = λ e. lt-ltb _ (order g) (mul_below g r (power_int g t e.0) (power_int g u e.1));
      one = ap₂ (mul g) (power_int-none g t) (power_int-none g u) ∙ mul_one g r 1 (one_below g r);
      mul = λ d1 e.
          ap₂ (mul g) (power_int-add g d t at_t.0 at_t.1 d1.0 e.0) (power_int-add g d u at_u.0 at_u.1 d1.1 e.1)
          ∙ mul_middle R (field_is_ring f).laws (power_int g t d1.0) (power_int g t e.0) (power_int g u d1.1) (power_int g u e.1)
          (power_elem t d1.0) (power_elem t e.0) (power_elem u d1.1) (power_elem u e.1);
    }

-- t^i u^j is an element
pub monomial_at-elem : (f : FiniteField) (t u : ℕ) (e : Exponents) → IsElem (field_ring f) (monomial_at f t u e)
monomial_at-elem f t u e = lt-ltb _ (order f.given) (mul_below f.given (is_lawful f).ring (power_int f.given t e.0) (power_int f.given u e.1))

-- evaluation at units is a homomorphism
pub evaluation_hom : (f : FiniteField) (t u : ℕ) → IsUnit f t → IsUnit f u → IsHom laurent (field_ring f) (evaluation f t u)
evaluation_hom f t u at_t at_u = total-hom (field_ring f) (monomial_at f t u) (field_is_ring f) (monomial_at-is f t u at_t at_u)

-- the value of c t^i u^j
pub evaluation-monomial : (f : FiniteField) (t u : ℕ) (c i j : ℤ) → evaluation f t u (monomial c i j) ≡ mul f.given (of_int f.given c) (monomial_at f t u (i, j))
evaluation-monomial f t u c i j =
    let R = field_ring f in
    let ring = field_is_ring f in
    let v = monomial_at f t u (i, j) in
    total-collect R ring (monomial_at f t u) (monomial_at-elem f t u) (term (i, j) c ∷ [])
    ∙ ring.laws.add_zero (R.mul (R.of_int c) v) (ring.laws.mul_elem (R.of_int c) v (ring.integers.int_elem c) (monomial_at-elem f t u (i, j)))
