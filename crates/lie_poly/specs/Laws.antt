-- The laws of Laurent polynomials, as statements. `src/laws.rt` publishes each.
-- Source: Lang, Algebra, II.3 (group rings).
use Rattle.std.specs.Prelude.{◌≡◌, ◌≢◌, ℕ, ℤ, pos, ◌+ℤ◌, neg_ℤ, ◌⊎◌}
use Rattle.lie_ring.specs.Rings.{IsHom}
use Rattle.lie_ring.specs.Integers.{integers}
use Rattle.lie_field.specs.Quotient.{mul, of_int, power_int}
use Rattle.lie_field.specs.FiniteField.{FiniteField}
use Rattle.lie_field.specs.FieldRing.{field_ring}
use Rattle.lie_poly.specs.Terms.{total_over}
use Rattle.lie_poly.specs.Polynomials.{Polynomial, coefficient, monomial, plus, negative, product, laurent}
use Rattle.lie_field.specs.Units.{IsUnit}
use Rattle.lie_poly.specs.Evaluation.{evaluation}

-- polynomials with the same coefficients are equal
abbrev pub PolynomialsAreCoefficients : Type 0
PolynomialsAreCoefficients = (p q : Polynomial) → ((i j : ℤ) → coefficient p i j ≡ coefficient q i j) → p ≡ q

-- the coefficients of monomials, sums, negatives and products; those of a product are a convolution:
-- the sum of the c b over the terms c t^k u^l of p, where b is the coefficient of q at (i - k, j - l)
pub record IsCoefficientwise (p q : Polynomial) (i j : ℤ) : Type 0 where
  pub of_plus : coefficient (plus p q) i j ≡ coefficient p i j +ℤ coefficient q i j
  pub of_negative : coefficient (negative p) i j ≡ neg_ℤ (coefficient p i j)
  pub of_product : coefficient (product p q) i j ≡ total_over integers (λ d. coefficient q (i +ℤ neg_ℤ d.0) (j +ℤ neg_ℤ d.1)) p.terms

-- the coefficients of c t^i u^j
pub record HasOneCoefficient (c i j : ℤ) : Type 0 where
  pub here : coefficient (monomial c i j) i j ≡ c
  pub elsewhere : (k l : ℤ) → (k ≢ i) ⊎ (l ≢ j) → coefficient (monomial c i j) k l ≡ pos 0

-- the operations are those on coefficients
pub record OperationsAreCoefficientwise : Type 0 where
  pub of_monomial : (c i j : ℤ) → HasOneCoefficient c i j
  pub of_operations : (p q : Polynomial) (i j : ℤ) → IsCoefficientwise p q i j

-- evaluation at elements that are not 0 is a homomorphism to the field
abbrev pub EvaluationIsHomomorphism : Type 0
EvaluationIsHomomorphism = (f : FiniteField) (t u : ℕ) → IsUnit f t → IsUnit f u → IsHom laurent (field_ring f) (evaluation f t u)

-- the value of c t^i u^j is the product of c and the powers
abbrev pub MonomialsHaveValues : Type 0
MonomialsHaveValues = (f : FiniteField) (t u : ℕ) (c i j : ℤ) → evaluation f t u (monomial c i j) ≡ mul f.given (of_int f.given c) (mul f.given (power_int f.given t i) (power_int f.given u j))
