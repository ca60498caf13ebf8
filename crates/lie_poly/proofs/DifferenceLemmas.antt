-- Where two canonical lists first differ.
use Rattle.std.proofs.Common.{◌≡◌, ◌≢◌, ℕ, zero, suc, ◌+◌, ◌<◌, ◌≤◌, [], ◌∷◌, length, get_or, drop, take, refl, sym, ap, ◌∙◌, cond, subst, Less, Equal, true, false, T, arith}
use Rattle.std.specs.Prelude.{ℤ, pos}
use Rattle.std.specs.Ordering.{is_eq, is_lt}
use Rattle.std.proofs.lemmas.List.{drop_more}
use Rattle.lie_poly.specs.Terms.{Exponents, Term, Terms, exponents_cmp, is_canonical, coefficient_in}
use Rattle.lie_poly.specs.Canonical.{above, above-from, above-tied, exact_exponents, rest_above, rest_canonical, first_nonzero, is_less, both, eq_is, coefficient-above, coefficient-first}
use Rattle.std.proofs.Common.{Option, Some, None, MatchOption}
use Rattle.lie_poly.specs.Polynomials.{Polynomial, same_polynomial, coefficient}
use Rattle.lie_poly.proofs.TermLemmas.{canonical-drop}
use Rattle.lie_poly.specs.Differences.{IsFirstDifference, coefficients_of}

-- the first difference does not depend on the order of the two
pub difference-turned : (f g : ℤ → ℤ → ℤ) (i j a b : ℤ) → IsFirstDifference f g i j a b → IsFirstDifference g f i j b a
difference-turned f g i j a b d = record {
  of_first = d.of_second;
  of_second = d.of_first;
  differ = λ e. d.differ (sym e);
  before = λ k l h. sym (d.before k l h);
}

-- a term before all of the second list, which has none there
pub difference-less : (x : Term) (xs ys : Terms) → T (is_canonical (x ∷ xs)) → T (above x.exponents ys) →
    IsFirstDifference (coefficients_of (x ∷ xs)) (coefficients_of ys) x.exponents.0 x.exponents.1 x.coefficient (pos 0)
difference-less x xs ys p past = record {
  of_first = sym (coefficient-first x xs);
  of_second = sym (coefficient-above x.exponents ys past);
  differ = first_nonzero x xs p;
  before = λ k l less.
      let e : Exponents = (k, l) in
      let rest = above-from e x.exponents xs less (rest_above x xs p) in
      coefficient-above e (x ∷ xs) (both (is_lt (exponents_cmp e x.exponents)) (above e xs) (is_less _ less) rest)
      ∙ sym (coefficient-above e ys (above-from e x.exponents ys less past));
}

-- two terms at the same exponents
pub difference-equal : (x y : Term) (xs ys : Terms) → T (is_canonical (x ∷ xs)) → T (is_canonical (y ∷ ys)) → exponents_cmp x.exponents y.exponents ≡ Equal → x ≢ y →
    IsFirstDifference (coefficients_of (x ∷ xs)) (coefficients_of (y ∷ ys)) x.exponents.0 x.exponents.1 x.coefficient y.coefficient
difference-equal x y xs ys p q equal apart =
    let here : x.exponents ≡ y.exponents = exact_exponents x.exponents y.exponents equal in
    record {
      of_first = sym (coefficient-first x xs);
      of_second = sym (ap (coefficient_in (y ∷ ys)) here ∙ coefficient-first y ys);
      differ = λ same. apart (λ i. record { exponents = here i; coefficient = same i });
      before = λ k l less.
          let e : Exponents = (k, l) in
          let less_y : exponents_cmp e y.exponents ≡ Less = ap (exponents_cmp e) (sym here) ∙ less in
          coefficient-above e (x ∷ xs) (both (is_lt (exponents_cmp e x.exponents)) (above e xs) (is_less _ less) (above-from e x.exponents xs less (rest_above x xs p)))
          ∙ sym (coefficient-above e (y ∷ ys) (both (is_lt (exponents_cmp e y.exponents)) (above e ys) (is_less _ less_y) (above-from e y.exponents ys less_y (rest_above y ys q))));
    }

-- a term of both in front changes nothing
difference-cons : (c : Term) (xs ys : Terms) (i j a b : ℤ) → T (is_canonical (c ∷ xs)) → T (is_canonical (c ∷ ys)) →
    IsFirstDifference (coefficients_of xs) (coefficients_of ys) i j a b → IsFirstDifference (coefficients_of (c ∷ xs)) (coefficients_of (c ∷ ys)) i j a b
difference-cons c xs ys i j a b p q d =
    let e : Exponents = (i, j) in
    let front = λ (zs : Terms) (t : is_eq (exponents_cmp e c.exponents) ≡ false). ap (λ r. cond r c.coefficient (coefficient_in zs e)) t in
    elim (is_eq (exponents_cmp e c.exponents)) as (λ r. is_eq (exponents_cmp e c.exponents) ≡ r → IsFirstDifference (coefficients_of (c ∷ xs)) (coefficients_of (c ∷ ys)) i j a b) [
      | true ↦ λ t.
          let at : exponents_cmp e c.exponents ≡ Equal = eq_is (exponents_cmp e c.exponents) t in
          absurd (d.differ (d.of_first ∙ coefficient-above e xs (above-tied e c.exponents xs at (rest_above c xs p))
          ∙ sym (d.of_second ∙ coefficient-above e ys (above-tied e c.exponents ys at (rest_above c ys q)))))
      | false ↦ λ t. record {
        of_first = d.of_first ∙ sym (front xs t);
        of_second = d.of_second ∙ sym (front ys t);
        differ = d.differ;
        before = λ k l less. ap (λ z. cond (is_eq (exponents_cmp (k, l) c.exponents)) c.coefficient z) (d.before k l less);
      }
    ] refl

-- nor do terms of both in front
pub difference-front : (n : ℕ) (xs ys : Terms) (i j a b : ℤ) → T (is_canonical xs) → T (is_canonical ys) → n ≤ length xs → n ≤ length ys → take n xs ≡ take n ys →
    IsFirstDifference (coefficients_of (drop n xs)) (coefficients_of (drop n ys)) i j a b → IsFirstDifference (coefficients_of xs) (coefficients_of ys) i j a b
difference-front zero xs ys i j a b p q h k same d = d
difference-front (suc n) [] ys i j a b p q h k same d = absurd (omega (arith, h))
difference-front (suc n) (x ∷ xs) [] i j a b p q h k same d = absurd (omega (arith, k))
difference-front (suc n) (x ∷ xs) (y ∷ ys) i j a b p q h k same d =
    let first : x ≡ y = cc in
    let rest : take n xs ≡ take n ys = cc in
    let inner = difference-front n xs ys i j a b (rest_canonical x xs p) (rest_canonical y ys q) (omega (arith, h)) (omega (arith, k)) rest d in
    let q' = subst (λ z. T (is_canonical (z ∷ ys))) (sym first) q in
    subst (λ z. IsFirstDifference (coefficients_of (x ∷ xs)) (coefficients_of (z ∷ ys)) i j a b) first (difference-cons x xs ys i j a b p q' inner)

-- a list that has ended is past anything
pub past-end : (e : Exponents) (n : ℕ) (ys : Terms) → length ys ≤ n → T (above e (drop n ys))
past-end e zero [] h = tt
past-end e zero (y ∷ ys) h = absurd (let never : ⊥ = omega (arith, h) in never)
past-end e (suc n) [] h = tt
past-end e (suc n) (y ∷ ys) h = past-end e n ys (omega (arith, h))

module _ (xs ys : Terms) (n : ℕ) (d : Term) (p : T (is_canonical xs)) (q : T (is_canonical ys)) (h : n ≤ length xs) (k : n ≤ length ys) (same : take n xs ≡ take n ys) where
  -- the next term of the first list comes before what is left of the second
  pub first-less : n < length xs → T (above (get_or xs n d).exponents (drop n ys)) →
      IsFirstDifference (coefficients_of xs) (coefficients_of ys) (get_or xs n d).exponents.0 (get_or xs n d).exponents.1 (get_or xs n d).coefficient (pos 0)
  first-less within past =
      let x = get_or xs n d in
      let open_x = drop_more xs n d within in
      let left = subst (λ zs. T (is_canonical zs)) open_x (canonical-drop n xs p) in
      difference-front n xs ys x.exponents.0 x.exponents.1 x.coefficient (pos 0) p q h k same
      (subst (λ zs. IsFirstDifference (coefficients_of zs) (coefficients_of (drop n ys)) x.exponents.0 x.exponents.1 x.coefficient (pos 0)) (sym open_x)
      (difference-less x (drop (n + 1) xs) (drop n ys) left past))

  -- what is left of the second list begins past a term
  pub past-next : (e : Exponents) → n < length ys → exponents_cmp e (get_or ys n d).exponents ≡ Less → T (above e (drop n ys))
  past-next e within less =
      let y = get_or ys n d in
      let open_y = drop_more ys n d within in
      let left = subst (λ zs. T (is_canonical zs)) open_y (canonical-drop n ys q) in
      subst (λ zs. T (above e zs)) (sym open_y)
      (both (is_lt (exponents_cmp e y.exponents)) (above e (drop (n + 1) ys)) (is_less _ less) (above-from e y.exponents (drop (n + 1) ys) less (rest_above y (drop (n + 1) ys) left)))

  -- both lists go on at the same exponents
  pub first-equal : n < length xs → n < length ys → exponents_cmp (get_or xs n d).exponents (get_or ys n d).exponents ≡ Equal → get_or xs n d ≢ get_or ys n d →
      IsFirstDifference (coefficients_of xs) (coefficients_of ys) (get_or xs n d).exponents.0 (get_or xs n d).exponents.1 (get_or xs n d).coefficient (get_or ys n d).coefficient
  first-equal in_xs in_ys equal apart =
      let x = get_or xs n d in
      let y = get_or ys n d in
      let open_x = drop_more xs n d in_xs in
      let open_y = drop_more ys n d in_ys in
      let left_x = subst (λ zs. T (is_canonical zs)) open_x (canonical-drop n xs p) in
      let left_y = subst (λ zs. T (is_canonical zs)) open_y (canonical-drop n ys q) in
      difference-front n xs ys x.exponents.0 x.exponents.1 x.coefficient y.coefficient p q h k same
      (subst (λ zs. IsFirstDifference (coefficients_of zs) (coefficients_of (drop n ys)) x.exponents.0 x.exponents.1 x.coefficient y.coefficient) (sym open_x)
      (subst (λ zs. IsFirstDifference (coefficients_of (x ∷ drop (n + 1) xs)) (coefficients_of zs) x.exponents.0 x.exponents.1 x.coefficient y.coefficient) (sym open_y)
      (difference-equal x y (drop (n + 1) xs) (drop (n + 1) ys) left_x left_y equal apart)))

-- a difference of the terms is one of the polynomials
pub first-known : (p q : Polynomial) (r : Option (ℤ × ℤ × ℤ × ℤ)) → MatchOption r (p.terms ≡ q.terms) (λ d. IsFirstDifference (coefficients_of p.terms) (coefficients_of q.terms) d.0 d.1 d.2 d.3) →
    MatchOption r (p ≡ q) (λ d. IsFirstDifference (coefficient p) (coefficient q) d.0 d.1 d.2 d.3)
first-known p q None h = same_polynomial p q h
first-known p q (Some d) h = h

-- ---- a difference as the code answers it: r has the exponents and both coefficients
pub answer-first : (f g : ℤ → ℤ → ℤ) (r : ℤ × ℤ × ℤ × ℤ) (x z : Term) (a b : ℤ) → r ≡ (x.exponents.0, x.exponents.1, a, b) → a ≡ x.coefficient → x ≡ z →
    IsFirstDifference f g z.exponents.0 z.exponents.1 z.coefficient b → IsFirstDifference f g r.0 r.1 r.2 r.3
answer-first f g r x z a b answer value is d =
    let values : ◌≡◌ {A = ℤ × ℤ × ℤ × ℤ} (x.exponents.0, x.exponents.1, a, b) (x.exponents.0, x.exponents.1, x.coefficient, b) = λ i. (x.exponents.0, x.exponents.1, value i, b) in
    let terms : ◌≡◌ {A = ℤ × ℤ × ℤ × ℤ} (x.exponents.0, x.exponents.1, x.coefficient, b) (z.exponents.0, z.exponents.1, z.coefficient, b) = λ i. ((is i).exponents.0, (is i).exponents.1, (is i).coefficient, b) in
    subst (λ (q : ℤ × ℤ × ℤ × ℤ). IsFirstDifference f g q.0 q.1 q.2 q.3) (sym (answer ∙ values ∙ terms)) d

-- the same where the term is of the second list
pub answer-second : (f g : ℤ → ℤ → ℤ) (r : ℤ × ℤ × ℤ × ℤ) (y z : Term) (a b : ℤ) → r ≡ (y.exponents.0, y.exponents.1, a, b) → b ≡ y.coefficient → y ≡ z →
    IsFirstDifference f g z.exponents.0 z.exponents.1 a z.coefficient → IsFirstDifference f g r.0 r.1 r.2 r.3
answer-second f g r y z a b answer value is d =
    let values : ◌≡◌ {A = ℤ × ℤ × ℤ × ℤ} (y.exponents.0, y.exponents.1, a, b) (y.exponents.0, y.exponents.1, a, y.coefficient) = λ i. (y.exponents.0, y.exponents.1, a, value i) in
    let terms : ◌≡◌ {A = ℤ × ℤ × ℤ × ℤ} (y.exponents.0, y.exponents.1, a, y.coefficient) (z.exponents.0, z.exponents.1, a, z.coefficient) = λ i. ((is i).exponents.0, (is i).exponents.1, a, (is i).coefficient) in
    subst (λ (q : ℤ × ℤ × ℤ × ℤ). IsFirstDifference f g q.0 q.1 q.2 q.3) (sym (answer ∙ values ∙ terms)) d
