-- Monomials: their sizes, degrees and products, and the monomials of the terms of a commutator.
use Rattle.std.proofs.Common.{◌≡◌, ℕ, zero, suc, ◌≤◌, ℤ, pos, negsuc, neg_ℤ, ◌+ℤ◌, ◌*ℤ◌, nat_abs, [], ◌∷◌, cond, true, false, Bool, refl, sym, ap, ap₂, subst, ◌∙◌, arith, add-zero, inl, inr, ◌⊎◌}
use mir.Syntax.{w32, w128}
use mir.Val.{to_z, of_z}
use Rattle.std.specs.Ordering.{int_eq}
use Rattle.std.proofs.lemmas.Int.{ints, to_z-of_z, fits_signed_from_abs}
use Rattle.lie_datum.proofs.VectorLemmas.{abs_mul}
use Rattle.lie_ring.specs.Integers.{integers}
use Rattle.lie_ring.specs.IntegerLaws.{integers_commutative}
use Rattle.lie_ring.specs.RingLemmas.{mul_zero, zero_mul}
use Rattle.lie_ring.specs.Powers.{power}
use Rattle.lie_const.specs.declared.term.Term.{Term as CommutatorTerm}
use Rattle.lie_const.specs.CommutatorTerms.{sign}
use Rattle.lie_poly.specs.Terms.{Terms, term, keep, collect, products, size_of, degree_of}
use Rattle.lie_poly.specs.Canonical.{zero_is}
use Rattle.lie_poly.specs.Polynomials.{same_polynomial, monomial, constant, laurent, product, size, degree}
use Rattle.lie_identities.specs.AuditRelations.{term_value}
use Rattle.lie_identities.specs.Audit.{laurent_variables}
use Rattle.lie_identities.specs.Sides.{IsSmallTerm}

-- the size of c t^i u^j
pub size-monomial : (c i j : ℤ) → size (monomial c i j) ≡ nat_abs c
size-monomial c i j = elim (int_eq c (pos 0)) as (λ b. int_eq c (pos 0) ≡ b → size_of (cond b [] (term (i, j) c ∷ [])) ≡ nat_abs c) [
  | true ↦ λ e. sym (ap nat_abs (zero_is c e))
  | false ↦ λ _. add-zero (nat_abs c)
] refl

-- its degree
pub degree-monomial : (c i j : ℤ) (n : ℕ) → nat_abs i ≤ n → nat_abs j ≤ n → degree (monomial c i j) ≤ n
degree-monomial c i j n p q = by (int_eq c (pos 0))
  where
    by : (b : Bool) → degree_of (cond b [] (term (i, j) c ∷ [])) ≤ n
    by true = omega arith
    by false = omega arith

-- monomials with equal coefficients and exponents
pub same-monomial : (a b i k j l : ℤ) → a ≡ b → i ≡ k → j ≡ l → monomial a i j ≡ monomial b k l
same-monomial a b i k j l p q r = λ t. monomial (p t) (q t) (r t)

-- the product of two monomials
pub product-monomial : (a i j b k l : ℤ) → product (monomial a i j) (monomial b k l) ≡ monomial (a *ℤ b) (i +ℤ k) (j +ℤ l)
product-monomial a i j b k l = same_polynomial (product (monomial a i j) (monomial b k l)) (monomial (a *ℤ b) (i +ℤ k) (j +ℤ l)) (by (int_eq a (pos 0)) (int_eq b (pos 0)) refl refl)
  where
    kept : ℤ → Terms
    kept n = keep (term (i +ℤ k, j +ℤ l) n) []

    by : (p q : Bool) → int_eq a (pos 0) ≡ p → int_eq b (pos 0) ≡ q → collect (products (cond p [] (term (i, j) a ∷ [])) (cond q [] (term (k, l) b ∷ []))) ≡ keep (term (i +ℤ k, j +ℤ l) (a *ℤ b)) []
    by true q e f = sym (ap (λ n. keep (term (i +ℤ k, j +ℤ l) n) []) (ap (λ n. n *ℤ b) (zero_is a e) ∙ zero_mul integers integers_commutative b refl))
    by false true e f = sym (ap (λ n. keep (term (i +ℤ k, j +ℤ l) n) []) (ap (λ n. a *ℤ n) (zero_is b f) ∙ mul_zero integers integers_commutative a refl))
    by false false e f = refl

-- ---- the powers of -t and of u
negative_t : laurent.neg (laurent_variables.t_to (pos 1)) ≡ monomial (negsuc 0) (pos 1) (pos 0)
negative_t = refl

pub power-negative_t : (n : ℕ) → power laurent (laurent.neg (laurent_variables.t_to (pos 1))) n ≡ monomial (sign n) (pos n) (pos 0)
power-negative_t zero = refl
power-negative_t (suc n) =
    ap (λ p. product p (monomial (negsuc 0) (pos 1) (pos 0))) (power-negative_t n)
    ∙ product-monomial (sign n) (pos n) (pos 0) (negsuc 0) (pos 1) (pos 0)
    ∙ same-monomial (sign n *ℤ negsuc 0) (neg_ℤ (sign n)) (pos n +ℤ pos 1) (pos (suc n)) (pos 0 +ℤ pos 0) (pos 0) (turned (sign n)) (omega (arith, ints)) (omega (arith, ints))
  where
    turned : (x : ℤ) → x *ℤ negsuc 0 ≡ neg_ℤ x
    turned x = omega (arith, ints)

pub power-u : (n : ℕ) → power laurent laurent_variables.u n ≡ monomial (pos 1) (pos 0) (pos n)
power-u zero = refl
power-u (suc n) =
    ap (λ p. product p (monomial (pos 1) (pos 0) (pos 1))) (power-u n)
    ∙ product-monomial (pos 1) (pos 0) (pos n) (pos 1) (pos 0) (pos 1)
    ∙ same-monomial (pos 1 *ℤ pos 1) (pos 1) (pos 0 +ℤ pos 0) (pos 0) (pos n +ℤ pos 1) (pos (suc n)) (omega (arith, ints)) (omega (arith, ints)) (omega (arith, ints))

-- C_ijrs (-t)^i u^j
pub term_value-monomial : (x : CommutatorTerm) → term_value laurent_variables x ≡ monomial (x.value *ℤ sign x.i) (pos x.i) (pos x.j)
term_value-monomial x =
    ap (λ p. product (constant x.value) (product p (power laurent laurent_variables.u x.j))) (power-negative_t x.i)
    ∙ ap (λ p. product (constant x.value) (product (monomial (sign x.i) (pos x.i) (pos 0)) p)) (power-u x.j)
    ∙ ap (product (constant x.value)) (product-monomial (sign x.i) (pos x.i) (pos 0) (pos 1) (pos 0) (pos x.j) ∙ same-monomial (sign x.i *ℤ pos 1) (sign x.i) (pos x.i +ℤ pos 0) (pos x.i) (pos 0 +ℤ pos x.j) (pos x.j) (integers_commutative.mul_one (sign x.i) refl) (omega (arith, ints)) (omega (arith, ints)))
    ∙ product-monomial x.value (pos 0) (pos 0) (sign x.i) (pos x.i) (pos x.j)
    ∙ same-monomial (x.value *ℤ sign x.i) (x.value *ℤ sign x.i) (pos 0 +ℤ pos x.i) (pos x.i) (pos 0 +ℤ pos x.j) (pos x.j) refl (omega (arith, ints)) (omega (arith, ints))

-- eta t
pub sign-monomial : (n : ℤ) → laurent.mul (laurent.of_int n) (laurent_variables.t_to (pos 1)) ≡ monomial n (pos 1) (pos 0)
sign-monomial n = product-monomial n (pos 0) (pos 0) (pos 1) (pos 1) (pos 0) ∙ same-monomial (n *ℤ pos 1) n (pos 0 +ℤ pos 1) (pos 1) (pos 0 +ℤ pos 0) (pos 0) (integers_commutative.mul_one n refl) (omega (arith, ints)) (omega (arith, ints))

-- ---- small numbers, as a program reads them
pub small128 : (z : ℤ) → nat_abs z ≤ 64 → to_z w128 (of_z w128 z) ≡ z
small128 z l = to_z-of_z w128 z (fits_signed_from_abs w128 z (omega (arith, l)))

pub small32 : (z : ℤ) → nat_abs z ≤ 64 → to_z w32 (of_z w32 z) ≡ z
small32 z l = to_z-of_z w32 z (fits_signed_from_abs w32 z (omega (arith, l)))

-- the monomial of a term, as it is made
pub read-term : (x : CommutatorTerm) (s i j : ℤ) → IsSmallTerm x → s ≡ sign x.i → (s ≡ pos 1) ⊎ (s ≡ negsuc 0) → i ≡ pos x.i → j ≡ pos x.j
    → monomial (to_z w128 (of_z w128 (to_z w128 (of_z w128 x.value) *ℤ to_z w128 (of_z w128 s)))) (to_z w32 (of_z w32 i)) (to_z w32 (of_z w32 j)) ≡ term_value laurent_variables x
read-term x s i j small e unit p q =
    let one = small128 x.value small.value in
    let two = small128 s (unit_small s unit) in
    let both : to_z w128 (of_z w128 x.value) *ℤ to_z w128 (of_z w128 s) ≡ x.value *ℤ sign x.i = ap₂ ◌*ℤ◌ one (two ∙ e) in
    let bound : nat_abs (x.value *ℤ sign x.i) ≤ 64 = product_small x.value (sign x.i) small.value (subst (λ z. nat_abs z ≤ 1) e (unit_one s unit)) in
    same-monomial (to_z w128 (of_z w128 (to_z w128 (of_z w128 x.value) *ℤ to_z w128 (of_z w128 s)))) (x.value *ℤ sign x.i) (to_z w32 (of_z w32 i)) (pos x.i) (to_z w32 (of_z w32 j)) (pos x.j)
    (ap (λ z. to_z w128 (of_z w128 z)) both ∙ small128 (x.value *ℤ sign x.i) bound)
    (ap (λ z. to_z w32 (of_z w32 z)) p ∙ small32 (pos x.i) (let h = small.i in omega (arith, h)))
    (ap (λ z. to_z w32 (of_z w32 z)) q ∙ small32 (pos x.j) (let h = small.j in omega (arith, h)))
    ∙ sym (term_value-monomial x)
  where
    unit_one : (s : ℤ) → (s ≡ pos 1) ⊎ (s ≡ negsuc 0) → nat_abs s ≤ 1
    unit_one s (inl e) = subst (λ z. nat_abs z ≤ 1) (sym e) (omega arith)
    unit_one s (inr e) = subst (λ z. nat_abs z ≤ 1) (sym e) (omega arith)

    unit_small : (s : ℤ) → (s ≡ pos 1) ⊎ (s ≡ negsuc 0) → nat_abs s ≤ 64
    unit_small s u = let h = unit_one s u in omega (arith, h)

    product_small : (a b : ℤ) → nat_abs a ≤ 64 → nat_abs b ≤ 1 → nat_abs (a *ℤ b) ≤ 64
    product_small a b l m = let h = abs_mul a b 64 1 l m in omega (arith, h)

-- eta t, as it is made
pub read-sign : (n : ℤ) → (n ≡ pos 1) ⊎ (n ≡ negsuc 0) → monomial (to_z w128 (of_z w128 n)) (pos 1) (pos 0) ≡ laurent.mul (laurent.of_int n) (laurent_variables.t_to (pos 1))
read-sign n (inl e) = ap (λ z. monomial z (pos 1) (pos 0)) (small128 n (subst (λ z. nat_abs z ≤ 64) (sym e) (omega arith))) ∙ sym (sign-monomial n)
read-sign n (inr e) = ap (λ z. monomial z (pos 1) (pos 0)) (small128 n (subst (λ z. nat_abs z ≤ 64) (sym e) (omega arith))) ∙ sym (sign-monomial n)
