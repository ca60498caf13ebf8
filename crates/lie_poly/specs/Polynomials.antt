-- Laurent polynomials in t and u with integer coefficients, and their ring.
-- Source: Lang, Algebra, II.3 (group rings).
-- Own: a polynomial is its canonical list of terms, so it is determined by its coefficients (`src/laws.rt`).
--
--   c at t^i u^j       coefficient p i j
--   c t^i u^j          monomial c i j
--   p + q, -p, p q     plus, negative, product
--   Z[t^±1, u^±1]      laurent              sizes are sums of absolute coefficients, degrees greatest absolute exponents
use Rattle.std.specs.Prelude.{◌≡◌, ℕ, ℤ, pos, neg_ℤ, true, false, T, [], ◌∷◌, ◌++◌, map}
use Rattle.std.specs.Coded.{Coded, coded_ℤ, coded×, coded_list}
use base.Stored.{coded_via}
use lib.Dec.{T_prop}
use mathlib.Core.HLevel.{Σ_prop_path}
use Rattle.lie_ring.specs.Rings.{RingOn}
use Rattle.lie_poly.specs.Terms.{Exponents, Term, Terms, term, is_canonical, coefficient_in, collect, products, size_of, degree_of}
use Rattle.lie_poly.specs.Canonical.{canonical-collect}

-- a Laurent polynomial is the list of its terms: exponents strictly rise, and no coefficient is 0
pub record Polynomial : Type 0 where
  pub terms : Terms
  pub canonical : T (is_canonical terms)

-- polynomials with equal terms are equal
pub same_polynomial : (p q : Polynomial) → p.terms ≡ q.terms → p ≡ q
same_polynomial p q e =
    let pairs : ◌≡◌ {A = (xs : Terms) × T (is_canonical xs)} (p.terms, p.canonical) (q.terms, q.canonical) = Σ_prop_path (λ xs. T_prop _) e in
    λ i. record { terms = (pairs i).0; canonical = (pairs i).1 }

-- terms with equal parts are equal
pub same_term : (x y : Term) → ◌≡◌ {A = Exponents × ℤ} (x.exponents, x.coefficient) (y.exponents, y.coefficient) → x ≡ y
same_term x y e = λ i. record { exponents = (e i).0; coefficient = (e i).1 }

-- a polynomial is stored as its terms
abbrev pub polynomial_code : Coded Polynomial
polynomial_code = coded_via (coded_list (coded_via (coded× (coded× coded_ℤ coded_ℤ) coded_ℤ) (λ x. (x.exponents, x.coefficient)) same_term)) (λ p. p.terms) same_polynomial

-- the coefficient of t^i u^j
abbrev pub coefficient : Polynomial → ℤ → ℤ → ℤ
coefficient p i j = coefficient_in p.terms (i, j)

-- what the terms of a list add up to
abbrev pub polynomial : Terms → Polynomial
polynomial xs = record { terms = collect xs; canonical = canonical-collect xs }

-- c t^i u^j
abbrev pub monomial : ℤ → ℤ → ℤ → Polynomial
monomial c i j = polynomial (term (i, j) c ∷ [])

-- the integer c
abbrev pub constant : ℤ → Polynomial
constant c = monomial c (pos 0) (pos 0)

-- p + q
abbrev pub plus : Polynomial → Polynomial → Polynomial
plus p q = polynomial (p.terms ++ q.terms)

-- -p
abbrev pub negative : Polynomial → Polynomial
negative p = polynomial (map (λ x. term x.exponents (neg_ℤ x.coefficient)) p.terms)

-- p q
abbrev pub product : Polynomial → Polynomial → Polynomial
product p q = polynomial (products p.terms q.terms)

-- the sum of the absolute values of the coefficients
abbrev pub size : Polynomial → ℕ
size p = size_of p.terms

-- the greatest absolute exponent
abbrev pub degree : Polynomial → ℕ
degree p = degree_of p.terms

-- the ring of the Laurent polynomials: all are elements, and it is not roomy
abbrev pub laurent : RingOn Polynomial
laurent = record {
  is_elem = λ _. true;
  zero = polynomial [];
  one = constant (pos 1);
  add = plus;
  neg = negative;
  mul = product;
  of_int = constant;
  size = size;
  degree = degree;
  roomy = false;
}
