-- The coefficients of monomials, sums, negatives and products.
-- For proofs: no public clause cites it.
use Rattle.std.proofs.Common.{◌≡◌, refl, sym, ap, ap₂, ◌∙◌, cond, true, false, arith}
use Rattle.std.specs.Prelude.{ℤ, pos, ◌+ℤ◌, ◌*ℤ◌, neg_ℤ, ◌⊎◌}
use Rattle.std.specs.Ordering.{is_eq}
use Rattle.std.proofs.lemmas.Int.{ints}
use Rattle.std.proofs.lemmas.Cmp.{tied_itself}
use mathlib.Core.Logic.{⊎_elim}
use Rattle.lie_poly.specs.Terms.{Exponents, exponents_cmp, shift}
use Rattle.lie_poly.specs.Canonical.{exponents_total, exact_exponents, eq_is}
use Rattle.lie_poly.specs.Polynomials.{Polynomial, coefficient, monomial, plus, negative, product}
use Rattle.lie_poly.specs.LaurentLaws.{delta, total, coefficient-total, same_coefficients, over_add, over_neg, over_mul, over_monomial}
use Rattle.lie_poly.specs.Laws.{PolynomialsAreCoefficients, HasOneCoefficient, OperationsAreCoefficientwise}

-- polynomials with the same coefficients are equal
pub coefficients_determine : PolynomialsAreCoefficients
coefficients_determine p q same = same_coefficients p q (λ e. same e.0 e.1)

-- a coefficient is the sum over delta
at_delta : (p : Polynomial) (i j : ℤ) → coefficient p i j ≡ total (delta (i, j)) p.terms
at_delta p i j = coefficient-total (i, j) p.terms p.canonical

-- delta at its own exponents, and elsewhere
delta-here : (e : Exponents) → delta e e ≡ pos 1
delta-here e = ap (λ o. cond (is_eq o) (pos 1) (pos 0)) (tied_itself exponents_total e)

-- delta is 0 at other exponents
delta-elsewhere : (d e : Exponents) → (d ≡ e → ⊥) → delta d e ≡ pos 0
delta-elsewhere d e apart = elim (is_eq (exponents_cmp d e)) as (λ b. is_eq (exponents_cmp d e) ≡ b → cond b (pos 1) (pos 0) ≡ pos 0) [
  | true ↦ λ t. absurd (apart (exact_exponents d e (eq_is (exponents_cmp d e) t)))
  | false ↦ λ _. refl
] refl

-- delta turned by a shift
delta-shift : (e d c : Exponents) → delta e (shift d c) ≡ delta (e.0 +ℤ neg_ℤ d.0, e.1 +ℤ neg_ℤ d.1) c
delta-shift e d c =
    let e' : Exponents = (e.0 +ℤ neg_ℤ d.0, e.1 +ℤ neg_ℤ d.1) in
    elim (is_eq (exponents_cmp e' c)) as (λ b. is_eq (exponents_cmp e' c) ≡ b → delta e (shift d c) ≡ cond b (pos 1) (pos 0)) [
      | true ↦ λ t.
          let same = exact_exponents e' c (eq_is (exponents_cmp e' c) t) in
          let first : e.0 ≡ d.0 +ℤ c.0 = let h : e.0 +ℤ neg_ℤ d.0 ≡ c.0 = ap (λ (x : Exponents). x.0) same in omega (arith, ints, h) in
          let second : e.1 ≡ d.1 +ℤ c.1 = let h : e.1 +ℤ neg_ℤ d.1 ≡ c.1 = ap (λ (x : Exponents). x.1) same in omega (arith, ints, h) in
          let is : e ≡ shift d c = λ i. (first i, second i) in
          ap (λ x. delta x (shift d c)) is ∙ delta-here (shift d c)
      | false ↦ λ t. delta-elsewhere e (shift d c) (λ is.
          let first : e.0 +ℤ neg_ℤ d.0 ≡ c.0 = let h : e.0 ≡ d.0 +ℤ c.0 = ap (λ (x : Exponents). x.0) is in omega (arith, ints, h) in
          let second : e.1 +ℤ neg_ℤ d.1 ≡ c.1 = let h : e.1 ≡ d.1 +ℤ c.1 = ap (λ (x : Exponents). x.1) is in omega (arith, ints, h) in
          let same : e' ≡ c = λ i. (first i, second i) in
          let yes : is_eq (exponents_cmp e' c) ≡ true = ap (λ x. is_eq (exponents_cmp x c)) same ∙ ap is_eq (tied_itself exponents_total c) in
          let never : ⊥ = cc (t, yes) in never)
    ] refl

-- the coefficients of c t^i u^j
one_coefficient : (c i j : ℤ) → HasOneCoefficient c i j
one_coefficient c i j =
    let at = λ (k l : ℤ). at_delta (monomial c i j) k l ∙ over_monomial (delta (k, l)) c i j in
    record {
      here = at i j ∙ (let h = delta-here (i, j) in ap (λ z. (c *ℤ z) +ℤ pos 0) h ∙ omega (arith, ints));
      elsewhere = λ k l apart.
          let none : delta (k, l) (i, j) ≡ pos 0 = delta-elsewhere (k, l) (i, j) (λ same. ⊎_elim (λ n. n (ap (λ (x : Exponents). x.0) same)) (λ n. n (ap (λ (x : Exponents). x.1) same)) apart) in
          at k l ∙ ap (λ z. (c *ℤ z) +ℤ pos 0) none ∙ omega (arith, ints);
    }

-- the operations are those on coefficients
pub coefficientwise : OperationsAreCoefficientwise
coefficientwise = record {
  of_monomial = one_coefficient;
  of_operations = λ p q i j.
      record {
        of_plus = at_delta (plus p q) i j ∙ over_add (delta (i, j)) p q ∙ sym (ap₂ ◌+ℤ◌ (at_delta p i j) (at_delta q i j));
        of_negative = at_delta (negative p) i j ∙ over_neg (delta (i, j)) p ∙ sym (ap neg_ℤ (at_delta p i j));
        of_product =
            at_delta (product p q) i j ∙ over_mul (delta (i, j)) p q
            ∙ (λ k. total (λ d. total (λ e. delta-shift (i, j) d e k) q.terms) p.terms)
            ∙ sym (λ k. total (λ d. at_delta q (i +ℤ neg_ℤ d.0) (j +ℤ neg_ℤ d.1) k) p.terms);
      };
}
