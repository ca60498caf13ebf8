-- The entry of a root element over a finite field, power by power.
-- Own: the order of the sum.
use Rattle.std.proofs.Common.{◌≡◌, ℕ, suc, ◌<◌, ◌+◌, ℤ, pos, cond, eqb, sym, ap, ap₂, ◌∙◌, arith}
use Rattle.lie_ring.specs.Rings.{sum_below}
use Rattle.lie_ring.specs.RingLemmas.{one_mul}
use Rattle.lie_ring.specs.Powers.{power}
use Rattle.lie_ring.specs.Matrices.{entry}
use Rattle.std.proofs.lemmas.Bool.{lt-ltb}
use Rattle.lie_field.specs.FiniteField.{FiniteField}
use Rattle.lie_field.specs.Quotient.{order, add, mul, of_int}
use Rattle.lie_field.specs.FieldRing.{field_ring, field_is_ring}
use Rattle.lie_field.specs.Algebra.FieldTest.{is_lawful}
use Rattle.lie_field.specs.Algebra.Laws.{add_assoc, add_zero}
use Rattle.lie_const.specs.Modules.{Module, divided_power}

module _ (f : FiniteField) (v : Module) (r : ℤ) (a : ℕ) (row col : ℕ) where
  -- what E_r^(k+1) adds
  abbrev pub term : ℕ → ℕ
  term k = mul f.given (power (field_ring f) a (suc k)) (of_int f.given (entry (pos 0) (divided_power v r (suc k)) row col))

  -- the entry up to E_r^(k)
  abbrev pub partial : ℕ → ℕ
  partial k = add f.given (cond (eqb row col) 1 0) (sum_below (field_ring f) k term)

  -- no power
  pub partial-first : (s : ℕ) → s ≡ cond (eqb row col) 1 0 → s < order f.given → s ≡ partial 0
  partial-first s e h = sym (ap (λ x. add f.given x 0) (sym e) ∙ add_zero f.given (is_lawful f).ring s h)

  -- one power more
  pub partial-more : (k s p e : ℕ) → s ≡ partial k → p ≡ power (field_ring f) a (suc k) → e ≡ of_int f.given (entry (pos 0) (divided_power v r (k + 1)) row col) → add f.given s (mul f.given p e) ≡ partial (k + 1)
  partial-more k s p e x y z =
      let one : suc k ≡ k + 1 = omega arith in
      ap₂ (add f.given) x (ap₂ (mul f.given) y (z ∙ ap (λ m. of_int f.given (entry (pos 0) (divided_power v r m) row col)) (sym one)))
      ∙ add_assoc f.given (is_lawful f).ring (cond (eqb row col) 1 0) (sum_below (field_ring f) k term) (term k)
      ∙ ap partial one

-- the first power
pub power-first : (f : FiniteField) (a : ℕ) → a < order f.given → a ≡ power (field_ring f) a 1
power-first f a h = sym (one_mul (field_ring f) (field_is_ring f).laws a (lt-ltb a (order f.given) h))

-- and the next
pub power-next : (f : FiniteField) (a k p : ℕ) → p ≡ power (field_ring f) a (suc k) → mul f.given p a ≡ power (field_ring f) a (suc (k + 1))
power-next f a k p e = let one : suc k ≡ k + 1 = omega arith in ap (λ x. mul f.given x a) e ∙ ap (λ m. power (field_ring f) a (suc m)) one
