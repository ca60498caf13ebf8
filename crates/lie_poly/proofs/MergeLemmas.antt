-- How the canonical list of two canonical lists begins, and where a list is its own canonical list.
use Rattle.std.proofs.Common.{◌≡◌, ◌≢◌, ℕ, suc, ◌+◌, ◌<◌, [], ◌∷◌, ◌++◌, length, get_or, drop, refl, sym, ap, ap₂, ◌∙◌, cond, subst, Less, Equal, Greater, true, false, T, arith}
use Rattle.std.specs.Prelude.{ℤ, pos, ◌+ℤ◌, ◌*ℤ◌}
use Rattle.std.specs.Ordering.{int_eq, is_lt, match_ordering, ordering_reverse}
use Rattle.std.proofs.lemmas.Int.{ints}
use Rattle.std.specs.Prelude.{◌⊎◌}
use Rattle.std.proofs.Common.{append_assoc}
use Rattle.std.proofs.lemmas.List.{append-nil, drop_more}
use mathlib.Core.Logic.{⊎_elim}
use Rattle.lie_ring.specs.Integers.{integers}
use Rattle.lie_ring.specs.IntegerLaws.{integers_ring}
use Rattle.lie_ring.specs.RingLemmas.{add_mul}
use Rattle.lie_poly.specs.Terms.{Exponents, Term, Terms, term, exponents_cmp, is_canonical, keep, plus_term, collect}
use Rattle.lie_poly.specs.Totals.{total-append}
use Rattle.lie_poly.specs.Canonical.{above, above-plus, above-from, exponents_total, exact_exponents, rest_above, rest_canonical, first_nonzero, is_less, both, left_of, right_of, less_is, zero_is}
use Rattle.lie_poly.specs.LaurentLaws.{total, same_totals, collected}
use Rattle.lie_poly.specs.Polynomials.{Polynomial, polynomial}
use Rattle.lie_poly.proofs.TermLemmas.{canonical-drop}

-- lists with the same sums have the same canonical list
pub collect-alike : (xs ys : Terms) → ((f : Exponents → ℤ) → total f xs ≡ total f ys) → collect xs ≡ collect ys
collect-alike xs ys same = ap (λ (p : Polynomial). p.terms) (same_totals (polynomial xs) (polynomial ys) (λ f. collected f xs ∙ same f ∙ sym (collected f ys)))

-- a sum of terms past e is past e
pub above-collect : (e : Exponents) (xs : Terms) → T (above e xs) → T (above e (collect xs))
above-collect e [] h = tt
above-collect e (x ∷ xs) h =
    above-plus e x (collect xs) (left_of (is_lt (exponents_cmp e x.exponents)) (above e xs) h) (above-collect e xs (right_of (is_lt (exponents_cmp e x.exponents)) (above e xs) h))

-- two lists past e
pub above-append : (e : Exponents) (xs ys : Terms) → T (above e xs) → T (above e ys) → T (above e (xs ++ ys))
above-append e [] ys h k = k
above-append e (x ∷ xs) ys h k =
    both (is_lt (exponents_cmp e x.exponents)) (above e (xs ++ ys)) (left_of (is_lt (exponents_cmp e x.exponents)) (above e xs) h)
    (above-append e xs ys (right_of (is_lt (exponents_cmp e x.exponents)) (above e xs) h) k)

-- a term before a list that is past it
plus-front : (x : Term) (zs : Terms) → T (above x.exponents zs) → plus_term x zs ≡ keep x zs
plus-front x [] h = refl
plus-front x (z ∷ zs) h =
    let less = less_is _ (left_of (is_lt (exponents_cmp x.exponents z.exponents)) (above x.exponents zs) h) in
    ap (λ o. match_ordering o (keep x (z ∷ zs)) (keep (term z.exponents (x.coefficient +ℤ z.coefficient)) zs) (z ∷ plus_term x zs)) less

-- a term that is not 0 is kept
pub keep-nonzero : (x : Term) (zs : Terms) → x.coefficient ≢ pos 0 → keep x zs ≡ x ∷ zs
keep-nonzero x zs nonzero = elim (int_eq x.coefficient (pos 0)) as (λ b. int_eq x.coefficient (pos 0) ≡ b → cond b zs (x ∷ zs) ≡ x ∷ zs) [
  | true ↦ λ is. absurd (nonzero (zero_is x.coefficient is))
  | false ↦ λ _. refl
] refl

-- keeping before a list, and keeping alone
pub keep-append : (x : Term) (zs : Terms) → keep x zs ≡ keep x [] ++ zs
keep-append x zs = elim (int_eq x.coefficient (pos 0)) as (λ b. cond b zs (x ∷ zs) ≡ cond b [] (x ∷ []) ++ zs) [ true ↦ refl | false ↦ refl ]

-- the canonical list begins with a first term that is before the others
collect-first : (x : Term) (zs : Terms) → T (above x.exponents zs) → collect (x ∷ zs) ≡ keep x (collect zs)
collect-first x zs h = plus-front x (collect zs) (above-collect x.exponents zs h)

-- a canonical list is its own
pub collect-canonical : (xs : Terms) → T (is_canonical xs) → collect xs ≡ xs
collect-canonical [] h = refl
collect-canonical (x ∷ xs) h =
    collect-first x xs (rest_above x xs h) ∙ keep-nonzero x (collect xs) (first_nonzero x xs h) ∙ ap (λ zs. x ∷ zs) (collect-canonical xs (rest_canonical x xs h))

module _ (x y : Term) (xs ys : Terms) (p : T (is_canonical (x ∷ xs))) (q : T (is_canonical (y ∷ ys))) where
  -- the first of the first list comes first
  pub merge-less : exponents_cmp x.exponents y.exponents ≡ Less → collect ((x ∷ xs) ++ (y ∷ ys)) ≡ x ∷ collect (xs ++ (y ∷ ys))
  merge-less less =
      let past : T (above x.exponents (y ∷ ys)) = both (is_lt (exponents_cmp x.exponents y.exponents)) (above x.exponents ys) (is_less _ less) (above-from x.exponents y.exponents ys less (rest_above y ys q)) in
      collect-first x (xs ++ (y ∷ ys)) (above-append x.exponents xs (y ∷ ys) (rest_above x xs p) past)
      ∙ keep-nonzero x (collect (xs ++ (y ∷ ys))) (first_nonzero x xs p)

  -- the first of the second list comes first
  pub merge-greater : exponents_cmp x.exponents y.exponents ≡ Greater → collect ((x ∷ xs) ++ (y ∷ ys)) ≡ y ∷ collect ((x ∷ xs) ++ ys)
  merge-greater greater =
      let turned : exponents_cmp y.exponents x.exponents ≡ Less = exponents_total.antisymm y.exponents x.exponents ∙ ap ordering_reverse greater in
      let past : T (above y.exponents (x ∷ xs)) = both (is_lt (exponents_cmp y.exponents x.exponents)) (above y.exponents xs) (is_less _ turned) (above-from y.exponents x.exponents xs turned (rest_above x xs p)) in
      collect-alike ((x ∷ xs) ++ (y ∷ ys)) (y ∷ ((x ∷ xs) ++ ys)) (λ f.
      let split = total-append integers integers_ring f (λ _. refl) (x ∷ xs) (y ∷ ys) in
      let joined = total-append integers integers_ring f (λ _. refl) (x ∷ xs) ys in
      omega (arith, ints, split, joined))
      ∙ collect-first y ((x ∷ xs) ++ ys) (above-append y.exponents (x ∷ xs) ys past (rest_above y ys q))
      ∙ keep-nonzero y (collect ((x ∷ xs) ++ ys)) (first_nonzero y ys q)

  -- both stand at the same exponents
  pub merge-equal : exponents_cmp x.exponents y.exponents ≡ Equal → collect ((x ∷ xs) ++ (y ∷ ys)) ≡ keep (term y.exponents (x.coefficient +ℤ y.coefficient)) [] ++ collect (xs ++ ys)
  merge-equal equal =
      let here : x.exponents ≡ y.exponents = exact_exponents x.exponents y.exponents equal in
      let z = term y.exponents (x.coefficient +ℤ y.coefficient) in
      collect-alike ((x ∷ xs) ++ (y ∷ ys)) (z ∷ (xs ++ ys)) (λ f.
      let split = total-append integers integers_ring f (λ _. refl) (x ∷ xs) (y ∷ ys) in
      let joined = total-append integers integers_ring f (λ _. refl) xs ys in
      let a = x.coefficient in
      let b = y.coefficient in
      let v = f y.exponents in
      let moved : a *ℤ f x.exponents ≡ a *ℤ v = ap (λ e. a *ℤ f e) here in
      let sum : (a +ℤ b) *ℤ v ≡ (a *ℤ v) +ℤ (b *ℤ v) = add_mul integers integers_ring.laws a b v refl refl refl in
      omega (arith, ints, split, joined, moved, sum))
      ∙ collect-first z (xs ++ ys) (above-append y.exponents xs ys (subst (λ e. T (above e xs)) here (rest_above x xs p)) (rest_above y ys q))
      ∙ keep-append z (collect (xs ++ ys))

-- ---- the steps of a merge, at places i and j of the lists, after the terms of `out`
module _ (xs ys out : Terms) (i j : ℕ) (d : Term) (p : T (is_canonical xs)) (q : T (is_canonical ys)) (h : i < length xs) (k : j < length ys) where
  -- what is left of the first list, and of the second
  x_left : T (is_canonical (get_or xs i d ∷ drop (i + 1) xs))
  x_left = subst (λ zs. T (is_canonical zs)) (drop_more xs i d h) (canonical-drop i xs p)

  -- what is left of the second list is canonical
  y_left : T (is_canonical (get_or ys j d ∷ drop (j + 1) ys))
  y_left = subst (λ zs. T (is_canonical zs)) (drop_more ys j d k) (canonical-drop j ys q)

  -- the canonical list of what is left, by the next terms
  opened : collect (drop i xs ++ drop j ys) ≡ collect ((get_or xs i d ∷ drop (i + 1) xs) ++ (get_or ys j d ∷ drop (j + 1) ys))
  opened = ap₂ (λ (v w : Terms). collect (v ++ w)) (drop_more xs i d h) (drop_more ys j d k)

  -- the term of the first list is appended
  pub step-less : exponents_cmp (get_or xs i d).exponents (get_or ys j d).exponents ≡ Less → (out ++ get_or xs i d ∷ []) ++ collect (drop (i + 1) xs ++ drop j ys) ≡ out ++ collect (drop i xs ++ drop j ys)
  step-less less =
      append_assoc out (get_or xs i d ∷ []) (collect (drop (i + 1) xs ++ drop j ys))
      ∙ ap (λ ws. out ++ (get_or xs i d ∷ collect (drop (i + 1) xs ++ ws))) (drop_more ys j d k)
      ∙ sym (ap (λ zs. out ++ zs) (opened ∙ merge-less (get_or xs i d) (get_or ys j d) (drop (i + 1) xs) (drop (j + 1) ys) x_left y_left less))

  -- the term of the second list is appended
  pub step-greater : exponents_cmp (get_or xs i d).exponents (get_or ys j d).exponents ≡ Greater → (out ++ get_or ys j d ∷ []) ++ collect (drop i xs ++ drop (j + 1) ys) ≡ out ++ collect (drop i xs ++ drop j ys)
  step-greater greater =
      append_assoc out (get_or ys j d ∷ []) (collect (drop i xs ++ drop (j + 1) ys))
      ∙ ap (λ vs. out ++ (get_or ys j d ∷ collect (vs ++ drop (j + 1) ys))) (drop_more xs i d h)
      ∙ sym (ap (λ zs. out ++ zs) (opened ∙ merge-greater (get_or xs i d) (get_or ys j d) (drop (i + 1) xs) (drop (j + 1) ys) x_left y_left greater))

  -- the sum of both is appended
  pub step-equal : exponents_cmp (get_or xs i d).exponents (get_or ys j d).exponents ≡ Equal →
      (out ++ keep (term (get_or ys j d).exponents ((get_or xs i d).coefficient +ℤ (get_or ys j d).coefficient)) []) ++ collect (drop (i + 1) xs ++ drop (j + 1) ys) ≡ out ++ collect (drop i xs ++ drop j ys)
  step-equal equal =
      append_assoc out (keep (term (get_or ys j d).exponents ((get_or xs i d).coefficient +ℤ (get_or ys j d).coefficient)) []) (collect (drop (i + 1) xs ++ drop (j + 1) ys))
      ∙ sym (ap (λ zs. out ++ zs) (opened ∙ merge-equal (get_or xs i d) (get_or ys j d) (drop (i + 1) xs) (drop (j + 1) ys) x_left y_left equal))

-- where one list is at its end, what is left of the other is appended
pub merge-end : (vs ws : Terms) → T (is_canonical vs) → T (is_canonical ws) → (length vs ≡ 0) ⊎ (length ws ≡ 0) → collect (vs ++ ws) ≡ vs ++ ws
merge-end [] ws p q _ = collect-canonical ws q
merge-end (v ∷ vs) [] p q _ = ap collect (append-nil (v ∷ vs)) ∙ collect-canonical (v ∷ vs) p ∙ sym (append-nil (v ∷ vs))
merge-end (v ∷ vs) (w ∷ ws) p q none = absurd (⊎_elim (λ (e : suc (length vs) ≡ 0). let never : ⊥ = omega (arith, e) in never) (λ (e : suc (length ws) ≡ 0). let never : ⊥ = omega (arith, e) in never) none)
