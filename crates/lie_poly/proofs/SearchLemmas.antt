-- What a binary search finds in a canonical list.
use Rattle.std.proofs.Common.{◌≡◌, ℕ, zero, suc, ◌+◌, ◌<◌, ◌≤◌, [], ◌∷◌, length, get_or, refl, sym, ap, ◌∙◌, cond, Less, Equal, Greater, false, T, Result, Ok, Err, MatchResult, arith}
use Rattle.std.specs.Prelude.{pos}
use Rattle.std.proofs.Common.{inl, inr}
use Rattle.std.specs.declared.cmp.Ordering.{Ordering}
use Rattle.std.proofs.lemmas.Bool.{cases_lt}
use Rattle.std.specs.Ordering.{is_eq, is_lt, ordering_reverse}
use Rattle.std.specs.List.Sorted.{IsBinarySearchResult, IsSortedBy}
use Rattle.std.proofs.lemmas.List.Sorted.{searchable_from_sorted}
use Rattle.lie_poly.specs.Terms.{Exponents, Term, Terms, exponents_cmp, is_canonical, coefficient_in}
use Rattle.lie_poly.specs.Canonical.{above, exponents_total, exact_exponents, rest_above, rest_canonical, left_of, right_of, less_is, first_two, coefficient-first}

-- a member of a list that is past e
above-at : (e : Exponents) (xs : Terms) (k : ℕ) (d : Term) → T (above e xs) → k < length xs → exponents_cmp e (get_or xs k d).exponents ≡ Less
above-at e [] k d h b = absurd (omega (arith, b))
above-at e (x ∷ xs) zero d h b = less_is _ (left_of (is_lt (exponents_cmp e x.exponents)) (above e xs) h)
above-at e (x ∷ xs) (suc k) d h b = above-at e xs k d (right_of (is_lt (exponents_cmp e x.exponents)) (above e xs) h) (omega (arith, b))

-- a term has its coefficient
coefficient-at : (xs : Terms) (k : ℕ) (d : Term) → T (is_canonical xs) → k < length xs → coefficient_in xs (get_or xs k d).exponents ≡ (get_or xs k d).coefficient
coefficient-at [] k d p b = absurd (omega (arith, b))
coefficient-at (x ∷ xs) zero d p b = coefficient-first x xs
coefficient-at (x ∷ xs) (suc k) d p b =
    let y = get_or xs k d in
    let below : k < length xs = omega (arith, b) in
    let less = above-at x.exponents xs k d (rest_above x xs p) below in
    let turned : exponents_cmp y.exponents x.exponents ≡ Greater = exponents_total.antisymm y.exponents x.exponents ∙ ap ordering_reverse less in
    ap (λ o. cond (is_eq o) x.coefficient (coefficient_in xs y.exponents)) turned ∙ coefficient-at xs k d (rest_canonical x xs p) below

-- where no term has the exponents e, the coefficient is 0
coefficient-none : (xs : Terms) (e : Exponents) (d : Term) → ((k : ℕ) → k < length xs → is_eq (exponents_cmp e (get_or xs k d).exponents) ≡ false) → coefficient_in xs e ≡ pos 0
coefficient-none [] e d h = refl
coefficient-none (x ∷ xs) e d h =
    ap (λ b. cond b x.coefficient (coefficient_in xs e)) (h 0 (omega arith)) ∙ coefficient-none xs e d (λ k b. h (suc k) (omega (arith, b)))

-- neighbours rise
neighbours-rise : (xs : Terms) (k : ℕ) (d : Term) → T (is_canonical xs) → suc k < length xs → exponents_cmp (get_or xs k d).exponents (get_or xs (suc k) d).exponents ≡ Less
neighbours-rise [] k d p b = absurd (omega (arith, b))
neighbours-rise (x ∷ []) k d p b = absurd (omega (arith, b))
neighbours-rise (x ∷ y ∷ ys) zero d p b = first_two x y ys p
neighbours-rise (x ∷ y ∷ ys) (suc k) d p b = neighbours-rise (y ∷ ys) k d (rest_canonical x (y ∷ ys) p) (omega (arith, b))

-- so the list is sorted
is_sorted : (xs : Terms) → T (is_canonical xs) → IsSortedBy (λ a b. is_lt (exponents_cmp a.exponents b.exponents)) xs
is_sorted xs p = λ k d low b.
    let next : k + 1 ≡ suc k = omega arith in
    let within : suc k < length xs = omega (arith, b) in
    ap (λ n. is_lt (exponents_cmp (get_or xs n d).exponents (get_or xs k d).exponents)) next
    ∙ ap is_lt (exponents_total.antisymm (get_or xs (suc k) d).exponents (get_or xs k d).exponents ∙ ap ordering_reverse (neighbours-rise xs k d p within))

-- turned, an order that is not `Equal` is not `Equal`
turned-apart : (d e : Exponents) → is_eq (exponents_cmp d e) ≡ false → is_eq (exponents_cmp e d) ≡ false
turned-apart d e h = by (exponents_cmp d e) refl
  where
    turned : exponents_cmp e d ≡ ordering_reverse (exponents_cmp d e)
    turned = exponents_total.antisymm e d

    by : (o : Ordering) → exponents_cmp d e ≡ o → is_eq (exponents_cmp e d) ≡ false
    by Less r = ap is_eq (turned ∙ ap ordering_reverse r)
    by Equal r = let never : ⊥ = cc (h, ap is_eq r) in absurd never
    by Greater r = ap is_eq (turned ∙ ap ordering_reverse r)

-- what a binary search answers
pub searched : (xs : Terms) (e : Exponents) (d : Term) (r : Result ℕ ℕ) → T (is_canonical xs) → MatchResult r (λ k. k < length xs) (λ k. k ≤ length xs) → IsBinarySearchResult (λ y. exponents_cmp y.exponents e) xs r →
    MatchResult r (λ k. (get_or xs k d).coefficient ≡ coefficient_in xs e) (λ _. pos 0 ≡ coefficient_in xs e)
searched xs e d (Ok k) p b h =
    let same : (get_or xs k d).exponents ≡ e = exact_exponents (get_or xs k d).exponents e (h d) in
    sym (coefficient-at xs k d p b) ∙ ap (coefficient_in xs) same
searched xs e d (Err k) p b h =
    let parted = h (searchable_from_sorted exponents_total (λ y. y.exponents) xs e (is_sorted xs p)) in
    sym (coefficient-none xs e d (λ i c. turned-apart (get_or xs i d).exponents e (elim (cases_lt i k) [
      | inl low ↦ ap is_eq (parted.0 i d (omega arith) low)
      | inr high ↦ ap is_eq (parted.1 i d high c)
    ])))
