-- Laurent polynomials all of whose terms have their exponents in a set.
-- Own: the set is tested by functions on exponents, so that no term has to be picked out.
use Rattle.std.proofs.Common.{◌≡◌, ℕ, zero, suc, ◌<◌, refl, ap, ap₂, ◌∙◌, arith}
use Rattle.std.specs.Prelude.{ℤ, pos, ◌+ℤ◌, ◌*ℤ◌, ◌⊎◌, neg_ℤ}
use Rattle.std.proofs.lemmas.Int.{ints}
use mathlib.Core.Logic.{⊎_elim}
use Rattle.lie_ring.specs.Rings.{sum_below}
use Rattle.lie_poly.specs.Terms.{Exponents, shift}
use Rattle.lie_poly.specs.Polynomials.{Polynomial, monomial, plus, negative, product, laurent}
use Rattle.lie_poly.specs.LaurentLaws.{total, over_add, over_neg, over_mul, over_monomial}

-- the terms of p have their exponents in S: what is 0 on S adds up to 0 over them
abbrev pub Supported : (Exponents → Type 0) → Polynomial → Type 0
Supported S p = (f : Exponents → ℤ) → ((d : Exponents) → S d → f d ≡ pos 0) → total f p.terms ≡ pos 0

-- 0 has no terms
pub supported-zero : (S : Exponents → Type 0) → Supported S laurent.zero
supported-zero S f z = refl

-- a sum
pub supported-plus : (S : Exponents → Type 0) (p q : Polynomial) → Supported S p → Supported S q → Supported S (plus p q)
supported-plus S p q a b f z = over_add f p q ∙ ap₂ ◌+ℤ◌ (a f z) (b f z)

-- a negative
pub supported-negative : (S : Exponents → Type 0) (p : Polynomial) → Supported S p → Supported S (negative p)
supported-negative S p a f z = over_neg f p ∙ ap neg_ℤ (a f z)

-- a product: exponents add up
pub supported-product : (S T U : Exponents → Type 0) (p q : Polynomial) → Supported S p → Supported T q → ((d e : Exponents) → S d → T e → U (shift d e)) → Supported U (product p q)
supported-product S T U p q a b join f z = over_mul f p q ∙ a (λ d. total (λ e. f (shift d e)) q.terms) (λ d s. b (λ e. f (shift d e)) (λ e t. z (shift d e) (join d e s t)))

-- a monomial that is 0, or whose exponents are in the set
pub supported-monomial : (S : Exponents → Type 0) (c i j : ℤ) → (c ≡ pos 0) ⊎ S (i, j) → Supported S (monomial c i j)
supported-monomial S c i j here f z = over_monomial f c i j ∙ ⊎_elim
    (λ (none : c ≡ pos 0). ap (λ x. (x *ℤ f (i, j)) +ℤ pos 0) none ∙ omega (arith, ints))
    (λ (in_S : S (i, j)). ap (λ x. (c *ℤ x) +ℤ pos 0) (z (i, j) in_S) ∙ omega (arith, ints))
    here

-- a sum of many
pub supported-sum : (S : Exponents → Type 0) (n : ℕ) (g : ℕ → Polynomial) → ((k : ℕ) → k < n → Supported S (g k)) → Supported S (sum_below laurent n g)
supported-sum S zero g a = supported-zero S
supported-sum S (suc n) g a = supported-plus S (sum_below laurent n g) (g n) (supported-sum S n g (λ k p. a k (omega (arith, p)))) (a n (omega arith))
