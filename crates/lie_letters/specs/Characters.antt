-- Roots at torus vectors and coroots at units: products of powers, and vectors of powers, of elements that are not 0.
-- Source: Carter, Simple Groups of Lie Type, 7.1 (the diagonal subgroup).
--
--   v(t), the product of the t_j^(v_j)     monomial f t v
--   (a^(y_1), .., a^(y_n))                 powers f a n y
use Rattle.std.specs.Prelude.{◌≡◌, ℕ, zero, suc, List, [], ◌∷◌, length}
use Rattle.std.proofs.Common.{refl, ap}
use Rattle.lie_field.specs.FiniteField.{FiniteField}
use Rattle.lie_field.specs.Elements.{NonZero, unit_one, unit_mul, unit_power_int}
use Rattle.lie_datum.specs.Vectors.{Vector}

-- the product of the powers of the entries
unfoldable pub monomial : (f : FiniteField) → List (NonZero f) → Vector → NonZero f
monomial f [] v = unit_one f
monomial f (t ∷ ts) [] = unit_one f
monomial f (t ∷ ts) (c ∷ v) = unit_mul f (unit_power_int f t c) (monomial f ts v)

-- n powers of a unit; an exponent past the end is 0
unfoldable pub powers : (f : FiniteField) → NonZero f → ℕ → Vector → List (NonZero f)
powers f a zero y = []
powers f a (suc n) [] = unit_one f ∷ powers f a n []
powers f a (suc n) (c ∷ y) = unit_power_int f a c ∷ powers f a n y

-- there are n of them
pub length-powers : (f : FiniteField) (a : NonZero f) (n : ℕ) (y : Vector) → length (powers f a n y) ≡ n
unfolding powers
length-powers f a zero y = refl
length-powers f a (suc n) [] = ap suc (length-powers f a n [])
length-powers f a (suc n) (c ∷ y) = ap suc (length-powers f a n y)
