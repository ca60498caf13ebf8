-- The value of a Laurent polynomial at elements t and u of a finite field.
-- Source: Lang, Algebra, II.3 (evaluation of polynomials).
--
--   t^i u^j                         monomial_at f t u     a negative exponent is a power of the inverse
--   the sum of the c t^i u^j        evaluation f t u p    over the terms of p, in the field f
use Rattle.std.specs.Prelude.{ℕ, ◌≢◌, ◌≤ℤ◌, pos, ◌⊎◌, All}
use Rattle.lie_field.specs.Quotient.{mul, power_int}
use Rattle.lie_field.specs.FiniteField.{FiniteField}
use Rattle.lie_field.specs.FieldRing.{field_ring}
use Rattle.lie_poly.specs.Terms.{Exponents, total_over}
use Rattle.lie_poly.specs.Polynomials.{Polynomial}

-- t^i u^j
abbrev pub monomial_at : FiniteField → ℕ → ℕ → Exponents → ℕ
monomial_at f t u e = mul f.given (power_int f.given t e.0) (power_int f.given u e.1)

-- the value of p at t and u
abbrev pub evaluation : FiniteField → ℕ → ℕ → Polynomial → ℕ
evaluation f t u p = total_over (field_ring f) (monomial_at f t u) p.terms

-- t is not 0 where an exponent of t is negative
abbrev pub IsDefinedInT : Polynomial → ℕ → Type 0
IsDefinedInT p t = (t ≢ 0) ⊎ All (λ x. pos 0 ≤ℤ x.exponents.0) p.terms

-- u is not 0 where an exponent of u is negative
abbrev pub IsDefinedInU : Polynomial → ℕ → Type 0
IsDefinedInU p u = (u ≢ 0) ⊎ All (λ x. pos 0 ≤ℤ x.exponents.1) p.terms
