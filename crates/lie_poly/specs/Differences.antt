-- The first difference of two Laurent polynomials.
-- Own: the order, by the exponent of t, then of u, both rising.
--
--   the coefficients of p              coefficient p             at (i, j)
--   f and g first differ at (i, j)     IsFirstDifference f g i j a b
use Rattle.std.specs.Prelude.{◌≡◌, ◌≢◌, ℤ}
use Rattle.std.specs.declared.cmp.Ordering.TheVariants.{Less}
use Rattle.lie_poly.specs.Terms.{Terms, exponents_cmp, coefficient_in}

-- the coefficients of a canonical list
abbrev pub coefficients_of : Terms → ℤ → ℤ → ℤ
coefficients_of xs i j = coefficient_in xs (i, j)

-- f is a and g is b at (i, j), these differ, and f and g are equal before it
pub record IsFirstDifference (f g : ℤ → ℤ → ℤ) (i j a b : ℤ) : Type 0 where
  pub of_first : a ≡ f i j
  pub of_second : b ≡ g i j
  pub differ : a ≢ b
  pub before : (k l : ℤ) → exponents_cmp (k, l) (i, j) ≡ Less → f k l ≡ g k l
