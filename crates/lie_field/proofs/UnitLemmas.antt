-- The laws of powers of units, by numbers.
use Rattle.std.proofs.Common.{◌≡◌, ℕ, sym, ap, ap₂, ◌∙◌, subst}
use Rattle.std.specs.Prelude.{ℤ, pos, ◌+ℤ◌, ◌*ℤ◌, neg_ℤ}
use Rattle.lie_field.specs.Quotient.{mul, inv, power_int}
use Rattle.lie_field.specs.FiniteField.{FiniteField}
use Rattle.lie_field.specs.Elements.{NonZero, unit_one, unit_mul, unit_power_int, unit_one-number, unit_mul-number, unit_inv-number, power-number, power_one, power_first, power_add, power_power, power_neg, power_mul, unit_at, IsUnit-number}
use Rattle.lie_field.specs.Algebra.IntegerPowers.{power_int-none}
use Rattle.lie_field.specs.Units.{IsUnit, HasPowerLaws}

module _ (f : FiniteField) where
  -- equal units have equal numbers
  number : {a b : NonZero f} → a ≡ b → a.element.number ≡ b.element.number
  number e = ap (λ x. x.element.number) e

  -- the number of a power
  power_of : (a : ℕ) (h : IsUnit f a) (n : ℤ) → (unit_power_int f (unit_at f a h) n).element.number ≡ power_int f.given a n
  power_of a h n = power-number f (unit_at f a h) n

  -- the laws of powers
  pub power_laws : HasPowerLaws f
  power_laws = record {
    unit = λ a h n. subst (IsUnit f) (power_of a h n) (IsUnit-number f (unit_power_int f (unit_at f a h) n));
    one = λ n.
        ap (λ x. power_int f.given x n) (sym (unit_one-number f)) ∙ sym (power-number f (unit_one f) n) ∙ number (power_one f n) ∙ unit_one-number f;
    at_zero = λ a. power_int-none f.given a;
    at_one = λ a h. sym (power_of a h (pos 1)) ∙ number (power_first f (unit_at f a h));
    at_sum = λ a h m n.
        let x = unit_at f a h in
        sym (power_of a h (m +ℤ n)) ∙ number (power_add f x m n) ∙ unit_mul-number f (unit_power_int f x m) (unit_power_int f x n)
        ∙ ap₂ (mul f.given) (power_of a h m) (power_of a h n);
    at_product = λ a h m n.
        let x = unit_at f a h in
        sym (power_of a h (m *ℤ n)) ∙ number (power_power f x m n) ∙ power-number f (unit_power_int f x m) n
        ∙ ap (λ b. power_int f.given b n) (power_of a h m);
    at_negative = λ a h n.
        let x = unit_at f a h in
        sym (power_of a h (neg_ℤ n)) ∙ number (power_neg f x n) ∙ unit_inv-number f (unit_power_int f x n)
        ∙ ap (inv f.given) (power_of a h n);
    of_product = λ a b h k n.
        let x = unit_at f a h in
        let y = unit_at f b k in
        ap (λ c. power_int f.given c n) (sym (unit_mul-number f x y)) ∙ sym (power-number f (unit_mul f x y) n)
        ∙ number (power_mul f x y n) ∙ unit_mul-number f (unit_power_int f x n) (unit_power_int f y n)
        ∙ ap₂ (mul f.given) (power_of a h n) (power_of b k n);
  }
