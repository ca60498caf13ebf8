-- Negatives and products of canonical lists.
use Rattle.std.proofs.Common.{◌≡◌, ◌≢◌, ◌+◌, ◌*◌, ◌<◌, ◌^◌, max, [], ◌∷◌, ◌++◌, map, refl, sym, ap, ap₂, ◌∙◌, subst, Less, Equal, Greater, true, false, not, ◌&&◌, T, arith, append_assoc}
use Rattle.std.specs.Prelude.{ℤ, pos, ◌+ℤ◌, ◌*ℤ◌, neg_ℤ}
use Rattle.std.specs.Prelude.{◌<ℤ◌, unsigned_abs}
use Rattle.std.specs.declared.cmp.Ordering.{Ordering}
use Rattle.std.specs.Ordering.{int_eq, int_cmp, is_lt, ordering_then, MatchOrdering}
use Rattle.std.specs.Cmp.{int_cmp_is, int_ranks}
use Rattle.std.proofs.lemmas.Int.{ints, unsigned_abs-mul}
use Rattle.std.proofs.Math.Nat.{mul-pos, add-mul}
use Rattle.std.proofs.lemmas.List.{append-nil}
use Rattle.lie_ring.specs.Integers.{integers}
use Rattle.lie_ring.specs.IntegerLaws.{integers_ring}
use Rattle.lie_poly.specs.Terms.{Exponents, Term, Terms, term, exponents_cmp, shift, is_canonical, collect, product_term, times, products, size_of, degree_of}
use Rattle.lie_poly.specs.Totals.{total-append}
use Rattle.lie_poly.specs.Canonical.{above, rest_above, rest_canonical, first_nonzero, both, left_of, right_of, zero_is}
use Rattle.lie_poly.specs.LaurentLaws.{collected, size-collect, size-products}
use Rattle.lie_poly.proofs.TermLemmas.{size-append}
use Rattle.lie_poly.proofs.MergeLemmas.{collect-canonical, collect-alike}

-- the negative of a term
abbrev pub negative_term : Term → Term
negative_term x = term x.exponents (neg_ℤ x.coefficient)

-- a number that is not 0 passes the test
nonzero_test : (n : ℤ) → n ≢ pos 0 → T (not (int_eq n (pos 0)))
nonzero_test n h = elim (int_eq n (pos 0)) as (λ b. int_eq n (pos 0) ≡ b → T (not b)) [
  | true ↦ λ e. absurd (h (zero_is n e))
  | false ↦ λ _. tt
] refl

-- negatives stay past e
above-negatives : (e : Exponents) (xs : Terms) → T (above e xs) → T (above e (map negative_term xs))
above-negatives e [] h = tt
above-negatives e (x ∷ xs) h =
    both (is_lt (exponents_cmp e x.exponents)) (above e (map negative_term xs)) (left_of (is_lt (exponents_cmp e x.exponents)) (above e xs) h)
    (above-negatives e xs (right_of (is_lt (exponents_cmp e x.exponents)) (above e xs) h))

-- the negatives of a canonical list are canonical
pub canonical-negatives : (xs : Terms) → T (is_canonical xs) → T (is_canonical (map negative_term xs))
canonical-negatives [] h = tt
canonical-negatives (x ∷ xs) h =
    let nonzero : neg_ℤ x.coefficient ≢ pos 0 = λ e. let n = first_nonzero x xs h in n (omega (arith, ints, e)) in
    let past = above-negatives x.exponents xs (rest_above x xs h) in
    both (not (int_eq (neg_ℤ x.coefficient) (pos 0)) && above x.exponents (map negative_term xs)) (is_canonical (map negative_term xs))
    (both (not (int_eq (neg_ℤ x.coefficient) (pos 0))) (above x.exponents (map negative_term xs)) (nonzero_test (neg_ℤ x.coefficient) nonzero) past)
    (canonical-negatives xs (rest_canonical x xs h))

-- ---- multiples
ranks-shift : (a b c : ℤ) (r : Ordering) → MatchOrdering r (b <ℤ c) (b ≡ c) (c <ℤ b) → MatchOrdering r ((a +ℤ b) <ℤ (a +ℤ c)) ((a +ℤ b) ≡ (a +ℤ c)) ((a +ℤ c) <ℤ (a +ℤ b))
ranks-shift a b c Less h = omega (arith, ints, h)
ranks-shift a b c Equal h = ap (λ z. a +ℤ z) h
ranks-shift a b c Greater h = omega (arith, ints, h)

-- the same number added to both changes no order
int_cmp-shift : (a b c : ℤ) → int_cmp (a +ℤ b) (a +ℤ c) ≡ int_cmp b c
int_cmp-shift a b c = sym (int_cmp_is (a +ℤ b) (a +ℤ c) (int_cmp b c) (ranks-shift a b c (int_cmp b c) (int_ranks b c)))

-- the same exponents added to both change no order
exponents_cmp-shift : (d e f : Exponents) → exponents_cmp (shift d e) (shift d f) ≡ exponents_cmp e f
exponents_cmp-shift d e f = ap₂ ordering_then (int_cmp-shift d.0 e.0 f.0) (int_cmp-shift d.1 e.1 f.1)

-- a product of integers that are not 0 is not 0
product_nonzero : (a b : ℤ) → a ≢ pos 0 → b ≢ pos 0 → a *ℤ b ≢ pos 0
product_nonzero a b p q e =
    let size = unsigned_abs-mul a b in
    let none : unsigned_abs (a *ℤ b) ≡ 0 = ap unsigned_abs e in
    let left : 0 < unsigned_abs a = omega (arith, ints, p) in
    let right : 0 < unsigned_abs b = omega (arith, ints, q) in
    let some : 0 < unsigned_abs a * unsigned_abs b = mul-pos left right in
    let never : ⊥ = omega (arith, size, none, some) in
    never

-- multiples of what is past e are past the shift of e
above-times : (x : Term) (e : Exponents) (ys : Terms) → T (above e ys) → T (above (shift x.exponents e) (times x ys))
above-times x e [] h = tt
above-times x e (y ∷ ys) h =
    let d = x.exponents in
    let here = left_of (is_lt (exponents_cmp e y.exponents)) (above e ys) h in
    both (is_lt (exponents_cmp (shift d e) (shift d y.exponents))) (above (shift d e) (times x ys))
    (subst (λ o. T (is_lt o)) (sym (exponents_cmp-shift d e y.exponents)) here)
    (above-times x e ys (right_of (is_lt (exponents_cmp e y.exponents)) (above e ys) h))

-- the multiples of a canonical list by a term that is not 0 are canonical
pub canonical-times : (x : Term) (ys : Terms) → x.coefficient ≢ pos 0 → T (is_canonical ys) → T (is_canonical (times x ys))
canonical-times x [] nonzero h = tt
canonical-times x (y ∷ ys) nonzero h =
    let z = product_term x y in
    let past = above-times x y.exponents ys (rest_above y ys h) in
    both (not (int_eq z.coefficient (pos 0)) && above z.exponents (times x ys)) (is_canonical (times x ys))
    (both (not (int_eq z.coefficient (pos 0))) (above z.exponents (times x ys)) (nonzero_test z.coefficient (product_nonzero x.coefficient y.coefficient nonzero (first_nonzero y ys h))) past)
    (canonical-times x ys nonzero (rest_canonical y ys h))

-- the product of one term with a canonical list
pub collect-times : (x : Term) (ys : Terms) → T (is_canonical (x ∷ [])) → T (is_canonical ys) → times x ys ≡ collect (products (x ∷ []) ys)
collect-times x ys p q =
    sym (ap collect (append-nil (times x ys)) ∙ collect-canonical (times x ys) (canonical-times x ys (first_nonzero x [] p) q))

-- products of a list in two parts
products-append : (vs ws ys : Terms) → products (vs ++ ws) ys ≡ products vs ys ++ products ws ys
products-append [] ws ys = refl
products-append (v ∷ vs) ws ys = ap (λ zs. times v ys ++ zs) (products-append vs ws ys) ∙ sym (append_assoc (times v ys) (products vs ys) (products ws ys))

-- the sum of the products of both parts is the product
pub collect-products : (vs ws ys : Terms) → collect (collect (products vs ys) ++ collect (products ws ys)) ≡ collect (products (vs ++ ws) ys)
collect-products vs ws ys =
    collect-alike (collect (products vs ys) ++ collect (products ws ys)) (products vs ys ++ products ws ys) (λ f.
    let a = products vs ys in
    let b = products ws ys in
    let outer = total-append integers integers_ring f (λ _. refl) (collect a) (collect b) in
    let inner = total-append integers integers_ring f (λ _. refl) a b in
    omega (arith, ints, outer, inner, collected f a, collected f b))
    ∙ ap collect (sym (products-append vs ws ys))

-- the front of a canonical list is canonical
canonical-front : (vs ws : Terms) → T (is_canonical (vs ++ ws)) → T (is_canonical vs)
canonical-front [] ws h = tt
canonical-front (v ∷ vs) ws h =
    both (not (int_eq v.coefficient (pos 0)) && above v.exponents vs) (is_canonical vs)
    (both (not (int_eq v.coefficient (pos 0))) (above v.exponents vs) (nonzero_test v.coefficient (first_nonzero v (vs ++ ws) h)) (above-front v.exponents vs ws (rest_above v (vs ++ ws) h)))
    (canonical-front vs ws (rest_canonical v (vs ++ ws) h))
  where
    above-front : (e : Exponents) (vs ws : Terms) → T (above e (vs ++ ws)) → T (above e vs)
    above-front e [] ws h = tt
    above-front e (v ∷ vs) ws h =
        both (is_lt (exponents_cmp e v.exponents)) (above e vs) (left_of (is_lt (exponents_cmp e v.exponents)) (above e (vs ++ ws)) h)
        (above-front e vs ws (right_of (is_lt (exponents_cmp e v.exponents)) (above e (vs ++ ws)) h))

-- and so is its back
canonical-back : (vs ws : Terms) → T (is_canonical (vs ++ ws)) → T (is_canonical ws)
canonical-back [] ws h = h
canonical-back (v ∷ vs) ws h = canonical-back vs ws (rest_canonical v (vs ++ ws) h)

-- the degree of a list in two parts
degree-parts : (vs ws : Terms) → degree_of (vs ++ ws) ≡ max (degree_of vs) (degree_of ws)
degree-parts [] ws = omega arith
degree-parts (v ∷ vs) ws = let rest = degree-parts vs ws in omega (arith, rest)

-- what holds of both halves of the first factor
pub record AreHalves (vs ws ys : Terms) : Type 0 where
  pub front_canonical : T (is_canonical vs)
  pub back_canonical : T (is_canonical ws)
  pub front_small : size_of vs * size_of ys < 2 ^ 126
  pub back_small : size_of ws * size_of ys < 2 ^ 126
  pub front_degree : degree_of vs + degree_of ys < 2 ^ 30
  pub back_degree : degree_of ws + degree_of ys < 2 ^ 30
  pub sum_small : size_of (collect (products vs ys)) + size_of (collect (products ws ys)) < 2 ^ 126

-- the conditions on a product give those on the products with both halves
pub halves : (xs vs ws ys : Terms) → xs ≡ vs ++ ws → T (is_canonical xs) → size_of xs * size_of ys < 2 ^ 126 → degree_of xs + degree_of ys < 2 ^ 30 → AreHalves vs ws ys
halves xs vs ws ys e p small low =
    let whole : T (is_canonical (vs ++ ws)) = subst (λ zs. T (is_canonical zs)) e p in
    let size = ap size_of e ∙ size-append vs ws in
    let degree = ap degree_of e ∙ degree-parts vs ws in
    let split : size_of xs * size_of ys ≡ size_of vs * size_of ys + size_of ws * size_of ys = ap (λ n. n * size_of ys) size ∙ add-mul (size_of vs) (size_of ws) (size_of ys) in
    let front = size-collect (products vs ys) in
    let back = size-collect (products ws ys) in
    let front_is = size-products vs ys in
    let back_is = size-products ws ys in
    record {
      front_canonical = canonical-front vs ws whole;
      back_canonical = canonical-back vs ws whole;
      front_small = omega (arith, split, small);
      back_small = omega (arith, split, small);
      front_degree = omega (arith, degree, low);
      back_degree = omega (arith, degree, low);
      sum_small = omega (arith, split, small, front, back, front_is, back_is);
    }
