-- The part of a Laurent polynomial with a given exponent of t: the sum of the coefficients there.
use Rattle.std.proofs.Common.{◌≡◌, ◌≢◌, ℕ, zero, suc, cond, refl, ap, ◌∙◌, arith, true, false, Bool}
use Rattle.std.specs.Prelude.{ℤ, pos, ◌+ℤ◌, ◌*ℤ◌, ◌⊎◌}
use Rattle.std.specs.Ordering.{int_eq}
use Rattle.std.proofs.lemmas.Int.{ints}
use mathlib.Core.Logic.{⊎_elim}
use Rattle.lie_ring.specs.Rings.{sum_below}
use Rattle.lie_ring.specs.Integers.{integers}
use Rattle.lie_ring.specs.IntegerLaws.{integers_ring}
use Rattle.lie_poly.specs.Terms.{Exponents, shift}
use Rattle.lie_poly.specs.Totals.{total-scale}
use Rattle.lie_poly.specs.Polynomials.{Polynomial, monomial, constant, laurent}
use Rattle.lie_poly.specs.LaurentLaws.{total, over_add, over_mul, over_monomial}
use Rattle.lie_audit.proofs.Supports.{Supported}

-- 1 where the exponent of t is e
abbrev pub at_power : ℤ → Exponents → ℤ
at_power e d = cond (int_eq d.0 e) (pos 1) (pos 0)

-- the sum of the coefficients there
pub part_at : ℤ → Polynomial → ℤ
part_at e p = total (at_power e) p.terms

-- of a product with an integer
pub part-constant : (e : ℤ) (p : Polynomial) (z : ℤ) → part_at e (laurent.mul p (constant z)) ≡ part_at e p *ℤ z
unfolding part_at
part-constant e p z =
    over_mul (at_power e) p (constant z)
    ∙ (λ k. total (λ d. inner d k) p.terms)
    ∙ total-scale integers integers_ring z (at_power e) p.terms refl (λ _. refl)
    ∙ integers_ring.laws.mul_comm z (total (at_power e) p.terms) refl refl
  where
    inner : (d : Exponents) → total (λ x. at_power e (shift d x)) (constant z).terms ≡ z *ℤ at_power e d
    inner d =
        over_monomial (λ x. at_power e (shift d x)) z (pos 0) (pos 0)
        ∙ (let none : d.0 +ℤ pos 0 ≡ d.0 = omega (arith, ints) in ap (λ y. (z *ℤ cond (int_eq y e) (pos 1) (pos 0)) +ℤ pos 0) none)
        ∙ (let y = z *ℤ at_power e d in let last : y +ℤ pos 0 ≡ y = omega (arith, ints) in last)

-- of a sum
pub part-sum : (e : ℤ) (n : ℕ) (g : ℕ → Polynomial) → part_at e (sum_below laurent n g) ≡ sum_below integers n (λ k. part_at e (g k))
unfolding part_at
part-sum e zero g = refl
part-sum e (suc n) g = over_add (at_power e) (sum_below laurent n g) (g n) ∙ ap (λ x. x +ℤ total (at_power e) (g n).terms) (part-sum e n g)

-- of t^e
part-here : (e : ℤ) → part_at e (monomial (pos 1) e (pos 0)) ≡ pos 1
unfolding part_at
part-here e = over_monomial (at_power e) (pos 1) e (pos 0) ∙ ap (λ b. (pos 1 *ℤ cond b (pos 1) (pos 0)) +ℤ pos 0) (same_int e) ∙ omega (arith, ints)
  where
    same_int : (x : ℤ) → int_eq x x ≡ true
    same_int x = grind (arith, ints)

-- of t^e or 0
pub part-cond : (e : ℤ) (b : Bool) → part_at e (cond b (monomial (pos 1) e (pos 0)) laurent.zero) ≡ cond b (pos 1) (pos 0)
unfolding part_at
part-cond e true = part-here e
part-cond e false = refl

-- a part that is not 0 has an exponent of the set
pub part-found : (e x y : ℤ) (S : Exponents → Type 0) (p : Polynomial) → Supported S p → ((d : Exponents) → S d → d.0 ≡ e → x ≡ y) → part_at e p ≢ pos 0 → x ≡ y
unfolding part_at
part-found e x y S p here goal apart = ⊎_elim
    (λ (same : x ≡ y). same)
    (λ (other : x ≢ y). absurd (apart (here (at_power e) (λ d s. ap (λ b. cond b (pos 1) (pos 0)) (not_equal d.0 e (λ at. other (goal d s at)))))))
    (int_cases x y)
  where
    not_equal : (a b : ℤ) → a ≢ b → int_eq a b ≡ false
    not_equal a b h = grind (arith, ints)

    int_cases : (a b : ℤ) → (a ≡ b) ⊎ (a ≢ b)
    int_cases a b = grind (arith, ints)
