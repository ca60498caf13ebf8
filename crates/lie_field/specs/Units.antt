-- The units of a finite field, by their numbers, and the laws of their powers.
-- Source: Lang, Algebra, I.1 and I.2 (powers in monoids and groups).
--
--   a unit         IsUnit f a                  an element that is not 0
--   a^n            power_int f.given a n       for an integer n
--   1 / a          inv f.given a
use Rattle.std.specs.Prelude.{◌≡◌, ℕ, ◌<◌, ℤ, pos, ◌+ℤ◌, ◌*ℤ◌, neg_ℤ}
use Rattle.lie_field.specs.Quotient.{order, mul, inv, power_int}
use Rattle.lie_field.specs.FiniteField.{FiniteField}

-- the number of an element that is not 0
abbrev pub IsUnit : FiniteField → ℕ → Type 0
IsUnit f a = (0 < a) × (a < order f.given)

-- the powers of units
pub record HasPowerLaws (f : FiniteField) : Type 0 where
  -- a^n is a unit, 1^n = 1, a^0 = 1, a^1 = a
  pub unit : (a : ℕ) → IsUnit f a → (n : ℤ) → IsUnit f (power_int f.given a n)
  pub one : (n : ℤ) → power_int f.given 1 n ≡ 1
  pub at_zero : (a : ℕ) → power_int f.given a (pos 0) ≡ 1
  pub at_one : (a : ℕ) → IsUnit f a → power_int f.given a (pos 1) ≡ a
  -- a^(m + n) = a^m a^n
  pub at_sum : (a : ℕ) → IsUnit f a → (m n : ℤ)
      → power_int f.given a (m +ℤ n) ≡ mul f.given (power_int f.given a m) (power_int f.given a n)
  -- a^(m n) = (a^m)^n
  pub at_product : (a : ℕ) → IsUnit f a → (m n : ℤ)
      → power_int f.given a (m *ℤ n) ≡ power_int f.given (power_int f.given a m) n
  -- a^(-n) = 1 / a^n
  pub at_negative : (a : ℕ) → IsUnit f a → (n : ℤ) → power_int f.given a (neg_ℤ n) ≡ inv f.given (power_int f.given a n)
  -- (a b)^n = a^n b^n
  pub of_product : (a b : ℕ) → IsUnit f a → IsUnit f b → (n : ℤ)
      → power_int f.given (mul f.given a b) n ≡ mul f.given (power_int f.given a n) (power_int f.given b n)

-- every finite field has these laws
abbrev pub UnitsHavePowers : Type 0
UnitsHavePowers = (f : FiniteField) → HasPowerLaws f
