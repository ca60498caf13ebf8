-- The Laurent polynomials are a ring.
-- For proofs: no public clause cites it.
use Rattle.std.proofs.Common.{◌≡◌, ℕ, ◌+◌, ◌*◌, ◌≤◌, max, [], ◌∷◌, ◌++◌, map, refl, sym, ap, ap₂, ◌∙◌, cond, true, false, T, arith, Less, Equal, Greater}
use Rattle.std.specs.Prelude.{ℤ, pos, ◌+ℤ◌, ◌*ℤ◌, neg_ℤ, nat_abs}
use Rattle.std.specs.Ordering.{is_eq, int_eq, match_ordering}
use Rattle.std.proofs.lemmas.Int.{ints, unsigned_abs-mul}
use Rattle.std.proofs.lemmas.Bool.{false≢true}
use Rattle.std.proofs.Math.Nat.{mul-add, add-mul}
use Rattle.std.proofs.Math.IntN.{+ℤ_idr, +ℤ_comm, +ℤ_assoc, +ℤ_invl, zero-*ℤ}
use Rattle.lie_ring.specs.Rings.{IsCommutativeRing, IsFromIntegers, IsSized, IsRing}
use Rattle.lie_ring.specs.RingLemmas.{add_mul}
use Rattle.lie_ring.specs.Integers.{integers}
use Rattle.lie_ring.specs.IntegerLaws.{integers_ring}
use Rattle.lie_poly.specs.Terms.{Exponents, Term, Terms, term, exponents_cmp, shift, is_canonical, coefficient_in, keep, plus_term, collect, times, products, total_over, size_of, degree_of}
use Rattle.lie_poly.specs.Canonical.{same_terms, coefficient-above, rest_above, rest_canonical, above-tied, eq_is}
use Rattle.lie_poly.specs.Totals.{total-append, total-collect, total-products, total-swap, total-add}
use Rattle.lie_poly.specs.Polynomials.{Polynomial, same_polynomial, polynomial, monomial, constant, plus, negative, product, size, degree, laurent}

-- 1 at e, and 0 elsewhere
abbrev pub delta : Exponents → Exponents → ℤ
delta e f = cond (is_eq (exponents_cmp e f)) (pos 1) (pos 0)

-- the sum of the c f(e) over the terms of a list, in the integers
abbrev pub total : (Exponents → ℤ) → Terms → ℤ
total f xs = total_over integers f xs

-- a coefficient is the sum over delta
pub coefficient-total : (e : Exponents) (xs : Terms) → T (is_canonical xs) → coefficient_in xs e ≡ total (delta e) xs
coefficient-total e [] h = refl
coefficient-total e (x ∷ xs) h =
    let rest = coefficient-total e xs (rest_canonical x xs h) in
    elim (is_eq (exponents_cmp e x.exponents)) as (λ b. is_eq (exponents_cmp e x.exponents) ≡ b → cond b x.coefficient (coefficient_in xs e) ≡ (x.coefficient *ℤ cond b (pos 1) (pos 0)) +ℤ total (delta e) xs) [
      | true ↦ λ t.
          let none = coefficient-above e xs (above-tied e x.exponents xs (eq_is (exponents_cmp e x.exponents) t) (rest_above x xs h)) in
          omega (arith, ints, rest, none)
      | false ↦ λ t. rest ∙ omega (arith, ints)
    ] refl

-- polynomials with the same coefficients are equal
pub same_coefficients : (p q : Polynomial) → ((e : Exponents) → coefficient_in p.terms e ≡ coefficient_in q.terms e) → p ≡ q
same_coefficients p q same = same_polynomial p q (same_terms p.terms q.terms p.canonical q.canonical same)

-- polynomials with the same sums are equal
pub same_totals : (p q : Polynomial) → ((f : Exponents → ℤ) → total f p.terms ≡ total f q.terms) → p ≡ q
same_totals p q same = same_coefficients p q (λ e.
    coefficient-total e p.terms p.canonical ∙ same (delta e) ∙ sym (coefficient-total e q.terms q.canonical))

-- ---- the sums over the operations
pub collected : (f : Exponents → ℤ) (xs : Terms) → total f (collect xs) ≡ total f xs
collected f xs = total-collect integers integers_ring f (λ _. refl) xs

-- the sum over p + q
pub over_add : (f : Exponents → ℤ) (p q : Polynomial) → total f (plus p q).terms ≡ total f p.terms +ℤ total f q.terms
over_add f p q = collected f (p.terms ++ q.terms) ∙ total-append integers integers_ring f (λ _. refl) p.terms q.terms

-- the sum over p q is the double sum
pub over_mul : (f : Exponents → ℤ) (p q : Polynomial) → total f (product p q).terms ≡ total (λ d. total (λ e. f (shift d e)) q.terms) p.terms
over_mul f p q = collected f (products p.terms q.terms) ∙ total-products integers integers_ring f p.terms q.terms (λ _. refl)

-- the sum over one term
pub over_monomial : (f : Exponents → ℤ) (c i j : ℤ) → total f (monomial c i j).terms ≡ (c *ℤ f (i, j)) +ℤ pos 0
over_monomial f c i j = collected f (term (i, j) c ∷ [])

-- the sum over an integer
over_constant : (f : Exponents → ℤ) (c : ℤ) → total f (constant c).terms ≡ (c *ℤ f (pos 0, pos 0)) +ℤ pos 0
over_constant f c = over_monomial f c (pos 0) (pos 0)

-- (-a) b = -(a b)
neg_product : (a b : ℤ) → neg_ℤ a *ℤ b ≡ neg_ℤ (a *ℤ b)
neg_product a b =
    let split = add_mul integers integers_ring.laws (neg_ℤ a) a b refl refl refl in
    let none : (neg_ℤ a +ℤ a) *ℤ b ≡ pos 0 = ap (λ z. z *ℤ b) (+ℤ_invl a) ∙ zero-*ℤ b in
    omega (arith, ints, split, none)

-- the sum over negatives
negated : (f : Exponents → ℤ) (xs : Terms) → total f (map (λ x. term x.exponents (neg_ℤ x.coefficient)) xs) ≡ neg_ℤ (total f xs)
negated f [] = refl
negated f (x ∷ xs) =
    let turned : neg_ℤ x.coefficient *ℤ f x.exponents ≡ neg_ℤ (x.coefficient *ℤ f x.exponents) = neg_product x.coefficient (f x.exponents) in
    omega (arith, ints, negated f xs, turned)

-- the sum over -p
pub over_neg : (f : Exponents → ℤ) (p : Polynomial) → total f (negative p).terms ≡ neg_ℤ (total f p.terms)
over_neg f p = collected f (map (λ x. term x.exponents (neg_ℤ x.coefficient)) p.terms) ∙ negated f p.terms

-- equal functions have equal sums
alike : (f g : Exponents → ℤ) (xs : Terms) → ((e : Exponents) → f e ≡ g e) → total f xs ≡ total g xs
alike f g xs h = λ i. total (λ e. h e i) xs

-- adding no exponents
shift_zero : (d : Exponents) → shift d (pos 0, pos 0) ≡ d
shift_zero d = λ i. (+ℤ_idr d.0 i, +ℤ_idr d.1 i)

-- exponents add in any order
shift_comm : (d e : Exponents) → shift d e ≡ shift e d
shift_comm d e = λ i. (+ℤ_comm d.0 e.0 i, +ℤ_comm d.1 e.1 i)

-- and in any grouping
shift_assoc : (d e f : Exponents) → shift (shift d e) f ≡ shift d (shift e f)
shift_assoc d e f = λ i. (+ℤ_assoc d.0 e.0 f.0 i, +ℤ_assoc d.1 e.1 f.1 i)

-- the laws of a commutative ring with one
laurent_commutative : IsCommutativeRing laurent
laurent_commutative = record {
  zero_elem = refl;
  one_elem = refl;
  add_elem = λ _ _ _ _. refl;
  neg_elem = λ _ _. refl;
  mul_elem = λ _ _ _ _. refl;
  add_assoc = λ p q r _ _ _. same_totals (plus (plus p q) r) (plus p (plus q r)) (λ f.
      omega (arith, ints, over_add f (plus p q) r, over_add f p q, over_add f p (plus q r), over_add f q r));
  add_comm = λ p q _ _. same_totals (plus p q) (plus q p) (λ f. omega (arith, ints, over_add f p q, over_add f q p));
  add_zero = λ p _. same_totals (plus p (polynomial [])) p (λ f. omega (arith, ints, over_add f p (polynomial [])));
  add_neg = λ p _. same_totals (plus p (negative p)) (polynomial []) (λ f. omega (arith, ints, over_add f p (negative p), over_neg f p));
  mul_assoc = λ p q r _ _ _. same_totals (product (product p q) r) (product p (product q r)) (λ f.
      over_mul f (product p q) r
      ∙ over_mul (λ d. total (λ e. f (shift d e)) r.terms) p q
      ∙ alike _ _ p.terms (λ a. alike _ _ q.terms (λ b. alike _ _ r.terms (λ c. ap f (shift_assoc a b c))))
      ∙ sym (over_mul f p (product q r) ∙ alike _ _ p.terms (λ a. over_mul (λ e. f (shift a e)) q r)));
  mul_comm = λ p q _ _. same_totals (product p q) (product q p) (λ f.
      over_mul f p q
      ∙ total-swap integers integers_ring (λ d e. f (shift d e)) p.terms q.terms (λ _ _. refl)
      ∙ alike _ _ q.terms (λ e. alike _ _ p.terms (λ d. ap f (shift_comm d e)))
      ∙ sym (over_mul f q p));
  mul_one = λ p _. same_totals (product p (constant (pos 1))) p (λ f.
      over_mul f p (constant (pos 1))
      ∙ alike _ _ p.terms (λ d. over_constant (λ e. f (shift d e)) (pos 1) ∙ omega (arith, ints) ∙ ap f (shift_zero d)));
  mul_add = λ p q r _ _ _. same_totals (product p (plus q r)) (plus (product p q) (product p r)) (λ f.
      over_mul f p (plus q r)
      ∙ alike _ _ p.terms (λ d. over_add (λ e. f (shift d e)) q r)
      ∙ total-add integers integers_ring (λ d. total (λ e. f (shift d e)) q.terms) (λ d. total (λ e. f (shift d e)) r.terms) p.terms (λ _. refl) (λ _. refl)
      ∙ sym (over_add f (product p q) (product p r) ∙ ap₂ ◌+ℤ◌ (over_mul f p q) (over_mul f p r)));
}

-- `constant` is the homomorphism from the integers
laurent_integers : IsFromIntegers laurent
laurent_integers = record {
  int_elem = λ _. refl;
  int_one = refl;
  int_add = λ m n. same_totals (constant (m +ℤ n)) (plus (constant m) (constant n)) (λ f.
      let split = add_mul integers integers_ring.laws m n (f (pos 0, pos 0)) refl refl refl in
      omega (arith, ints, over_constant f (m +ℤ n), over_add f (constant m) (constant n), over_constant f m, over_constant f n, split));
  int_mul = λ m n. same_totals (constant (m *ℤ n)) (product (constant m) (constant n)) (λ f.
      over_constant f (m *ℤ n) ∙ ap (λ z. z +ℤ pos 0) (integers_ring.laws.mul_assoc m n (f (pos 0, pos 0)) refl refl refl ∙ ap (λ z. m *ℤ z) (sym (+ℤ_idr (n *ℤ f (pos 0, pos 0)))))
      ∙ sym (over_mul f (constant m) (constant n) ∙ over_constant (λ d. total (λ e. f (shift d e)) (constant n).terms) m
      ∙ ap (λ z. (m *ℤ z) +ℤ pos 0) (over_constant (λ e. f (shift (pos 0, pos 0) e)) n)));
}

-- ---- sizes
size-keep : (x : Term) (xs : Terms) → size_of (keep x xs) ≤ nat_abs x.coefficient + size_of xs
size-keep x xs = elim (int_eq x.coefficient (pos 0)) as (λ b. size_of (cond b xs (x ∷ xs)) ≤ nat_abs x.coefficient + size_of xs) [ true ↦ omega arith | false ↦ omega arith ]

-- the size where a term is added
size-plus : (x : Term) (ys : Terms) → size_of (plus_term x ys) ≤ nat_abs x.coefficient + size_of ys
size-plus x [] = size-keep x []
size-plus x (y ∷ ys) = elim (exponents_cmp x.exponents y.exponents) as (λ o. size_of (match_ordering o (keep x (y ∷ ys)) (keep (term y.exponents (x.coefficient +ℤ y.coefficient)) ys) (y ∷ plus_term x ys)) ≤ nat_abs x.coefficient + size_of (y ∷ ys)) [
  | Less ↦ size-keep x (y ∷ ys)
  | Equal ↦ omega (arith, ints, size-keep (term y.exponents (x.coefficient +ℤ y.coefficient)) ys)
  | Greater ↦ omega (arith, size-plus x ys)
]

-- the size of the canonical list
pub size-collect : (xs : Terms) → size_of (collect xs) ≤ size_of xs
size-collect [] = omega arith
size-collect (x ∷ xs) = omega (arith, size-plus x (collect xs), size-collect xs)

-- the size of two lists
size-append : (xs ys : Terms) → size_of (xs ++ ys) ≡ size_of xs + size_of ys
size-append [] ys = omega arith
size-append (x ∷ xs) ys = omega (arith, size-append xs ys)

-- the size of multiples
size-times : (x : Term) (ys : Terms) → size_of (times x ys) ≡ nat_abs x.coefficient * size_of ys
size-times x [] = omega arith
size-times x (y ∷ ys) = omega (arith, size-times x ys, unsigned_abs-mul x.coefficient y.coefficient, mul-add (nat_abs x.coefficient) (nat_abs y.coefficient) (size_of ys))

-- the size of products
pub size-products : (xs ys : Terms) → size_of (products xs ys) ≡ size_of xs * size_of ys
size-products [] ys = omega arith
size-products (x ∷ xs) ys = omega (arith, size-append (times x ys) (products xs ys), size-times x ys, size-products xs ys, add-mul (nat_abs x.coefficient) (size_of xs) (size_of ys))

-- the size of negatives
size-negated : (xs : Terms) → size_of (map (λ x. term x.exponents (neg_ℤ x.coefficient)) xs) ≡ size_of xs
size-negated [] = refl
size-negated (x ∷ xs) = omega (arith, ints, size-negated xs)

-- ---- degrees
abbrev degree_at : Exponents → ℕ
degree_at e = max (nat_abs e.0) (nat_abs e.1)

-- the degree where a term is kept
degree-keep : (x : Term) (xs : Terms) → degree_of (keep x xs) ≤ max (degree_at x.exponents) (degree_of xs)
degree-keep x xs = elim (int_eq x.coefficient (pos 0)) as (λ b. degree_of (cond b xs (x ∷ xs)) ≤ max (degree_at x.exponents) (degree_of xs)) [ true ↦ omega arith | false ↦ omega arith ]

-- the degree where a term is added
degree-plus : (x : Term) (ys : Terms) → degree_of (plus_term x ys) ≤ max (degree_at x.exponents) (degree_of ys)
degree-plus x [] = degree-keep x []
degree-plus x (y ∷ ys) = elim (exponents_cmp x.exponents y.exponents) as (λ o. degree_of (match_ordering o (keep x (y ∷ ys)) (keep (term y.exponents (x.coefficient +ℤ y.coefficient)) ys) (y ∷ plus_term x ys)) ≤ max (degree_at x.exponents) (degree_of (y ∷ ys))) [
  | Less ↦ degree-keep x (y ∷ ys)
  | Equal ↦ omega (arith, degree-keep (term y.exponents (x.coefficient +ℤ y.coefficient)) ys)
  | Greater ↦ omega (arith, degree-plus x ys)
]

-- the degree of the canonical list
pub degree-collect : (xs : Terms) → degree_of (collect xs) ≤ degree_of xs
degree-collect [] = omega arith
degree-collect (x ∷ xs) = omega (arith, degree-plus x (collect xs), degree-collect xs)

-- the degree of two lists
degree-append : (xs ys : Terms) → degree_of (xs ++ ys) ≤ max (degree_of xs) (degree_of ys)
degree-append [] ys = omega arith
degree-append (x ∷ xs) ys = omega (arith, degree-append xs ys)

-- the triangle inequality
abs-sum : (a b : ℤ) → nat_abs (a +ℤ b) ≤ nat_abs a + nat_abs b
abs-sum a b = omega (arith, ints)

-- the degree of multiples
degree-times : (x : Term) (ys : Terms) → degree_of (times x ys) ≤ degree_at x.exponents + degree_of ys
degree-times x [] = omega arith
degree-times x (y ∷ ys) = omega (arith, degree-times x ys, abs-sum x.exponents.0 y.exponents.0, abs-sum x.exponents.1 y.exponents.1)

-- the degree of products
degree-products : (xs ys : Terms) → degree_of (products xs ys) ≤ degree_of xs + degree_of ys
degree-products [] ys = omega arith
degree-products (x ∷ xs) ys = omega (arith, degree-append (times x ys) (products xs ys), degree-times x ys, degree-products xs ys)

-- the degree of negatives
degree-negated : (xs : Terms) → degree_of (map (λ x. term x.exponents (neg_ℤ x.coefficient)) xs) ≡ degree_of xs
degree-negated [] = refl
degree-negated (x ∷ xs) = omega (arith, degree-negated xs)

-- -(-p) = p
neg_neg : (p : Polynomial) → negative (negative p) ≡ p
neg_neg p = same_totals (negative (negative p)) p (λ f. omega (arith, ints, over_neg f (negative p), over_neg f p))

-- the size of -p
size-neg_le : (p : Polynomial) → size (negative p) ≤ size p
size-neg_le p = omega (arith, size-collect (map (λ x. term x.exponents (neg_ℤ x.coefficient)) p.terms), size-negated p.terms)

-- the degree of -p
degree-neg_le : (p : Polynomial) → degree (negative p) ≤ degree p
degree-neg_le p = omega (arith, degree-collect (map (λ x. term x.exponents (neg_ℤ x.coefficient)) p.terms), degree-negated p.terms)

-- sizes and degrees bound those of sums and products
laurent_sized : IsSized laurent
laurent_sized = record {
  size_zero = refl;
  size_one = omega (arith, size-collect (term (pos 0, pos 0) (pos 1) ∷ []));
  size_int = λ n. omega (arith, size-collect (term (pos 0, pos 0) n ∷ []));
  size_neg = λ p _. omega (arith, size-neg_le p, size-neg_le (negative p), ap size (neg_neg p));
  size_add = λ p q _ _. omega (arith, size-collect (p.terms ++ q.terms), size-append p.terms q.terms);
  size_mul = λ p q _ _. omega (arith, size-collect (products p.terms q.terms), size-products p.terms q.terms);
  degree_zero = refl;
  degree_one = omega (arith, degree-collect (term (pos 0, pos 0) (pos 1) ∷ []));
  degree_int = λ n. omega (arith, degree-collect (term (pos 0, pos 0) n ∷ []));
  degree_neg = λ p _. omega (arith, degree-neg_le p, degree-neg_le (negative p), ap degree (neg_neg p));
  degree_add = λ p q _ _. omega (arith, degree-collect (p.terms ++ q.terms), degree-append p.terms q.terms);
  degree_mul = λ p q _ _. omega (arith, degree-collect (products p.terms q.terms), degree-products p.terms q.terms);
  roomy_size = λ r. absurd (false≢true r);
  roomy_degree = λ r. absurd (false≢true r);
}

-- the Laurent polynomials are a ring
pub laurent_ring : IsRing laurent
laurent_ring = record { laws = laurent_commutative; integers = laurent_integers; sized = laurent_sized }
