-- The canonical list of a list of terms, and that canonical lists with the same coefficients are equal.
-- For proofs: no public clause cites it.
use Rattle.std.proofs.Common.{◌≡◌, ◌≢◌, [], ◌∷◌, refl, sym, ap, ap₂, ◌∙◌, cond, subst, Less, Equal, Greater, Bool, true, false, not, ◌&&◌, T}
use Rattle.std.specs.Prelude.{ℤ, pos, ◌+ℤ◌}
use Rattle.std.specs.declared.cmp.Ordering.{Ordering}
use Rattle.std.specs.Ordering.{int_eq, int_cmp, match_ordering, is_lt, is_eq, ordering_reverse}
use Rattle.std.specs.List.{list_all}
use Rattle.std.specs.Cmp.{IsTotalOrder, int_cmp_total}
use Rattle.std.proofs.lemmas.Cmp.{on_total, then_total, tied_itself}
use Rattle.std.proofs.lemmas.Bool.Decides.{Decides-int_eq}
use Rattle.std.proofs.lemmas.Map.Lookups.{CmpEqualImpliesEq, exact_pairs, exact_signed}
use Rattle.lie_poly.specs.Terms.{Exponents, Term, Terms, term, exponents_cmp, is_canonical, coefficient_in, keep, plus_term, collect}

-- the order of exponents is total
pub exponents_total : IsTotalOrder exponents_cmp
exponents_total = then_total (on_total (λ (e : Exponents). e.0) int_cmp_total) (on_total (λ (e : Exponents). e.1) int_cmp_total)

-- exponents that tie are equal
pub exact_exponents : CmpEqualImpliesEq exponents_cmp
exact_exponents = exact_pairs int_cmp int_cmp exact_signed exact_signed

-- a number that passes the test for 0 is 0
pub zero_is : (n : ℤ) → int_eq n (pos 0) ≡ true → n ≡ pos 0
zero_is n e = (Decides-int_eq n (pos 0)).0 e

-- ---- tests of both
-- both hold
pub both : (a b : Bool) → T a → T b → T (a && b)
both true b p q = q
both false b p q = absurd p

-- the first of both
pub left_of : (a b : Bool) → T (a && b) → T a
left_of true b p = tt
left_of false b p = p

-- the second of both
pub right_of : (a b : Bool) → T (a && b) → T b
right_of true b p = p
right_of false b p = absurd p

-- ---- lists above a pair of exponents
abbrev pub above : Exponents → Terms → Bool
above e xs = list_all (λ y. is_lt (exponents_cmp e y.exponents)) xs

-- the test that n is not 0
abbrev is_nonzero : ℤ → Bool
is_nonzero n = not (int_eq n (pos 0))

-- an answer that passes the test is `Less`
pub less_is : (r : Ordering) → T (is_lt r) → r ≡ Less
less_is Less t = refl
less_is Equal t = absurd t
less_is Greater t = absurd t

-- and `Less` passes it
pub is_less : (r : Ordering) → r ≡ Less → T (is_lt r)
is_less r e = subst (λ o. T (is_lt o)) (sym e) tt

-- what is past e is past what is before e
pub above-from : (d e : Exponents) (ys : Terms) → exponents_cmp d e ≡ Less → T (above e ys) → T (above d ys)
above-from d e [] p h = tt
above-from d e (y ∷ ys) p h =
    both (is_lt (exponents_cmp d y.exponents)) (above d ys)
    (is_less _ (exponents_total.trans d e y.exponents p (less_is _ (left_of (is_lt (exponents_cmp e y.exponents)) (above e ys) h))))
    (above-from d e ys p (right_of (is_lt (exponents_cmp e y.exponents)) (above e ys) h))

-- a kept term past e stays past it
above-keep : (e : Exponents) (x : Term) (xs : Terms) → T (is_lt (exponents_cmp e x.exponents)) → T (above e xs) → T (above e (keep x xs))
above-keep e x xs p h = elim (int_eq x.coefficient (pos 0)) as (λ b. T (above e (cond b xs (x ∷ xs)))) [
  | true ↦ h
  | false ↦ both (is_lt (exponents_cmp e x.exponents)) (above e xs) p h
]

-- a term past e added to a list past e
pub above-plus : (e : Exponents) (x : Term) (ys : Terms) → T (is_lt (exponents_cmp e x.exponents)) → T (above e ys) → T (above e (plus_term x ys))
above-plus e x [] p h = above-keep e x [] p h
above-plus e x (y ∷ ys) p h =
    let here = left_of (is_lt (exponents_cmp e y.exponents)) (above e ys) h in
    let rest = right_of (is_lt (exponents_cmp e y.exponents)) (above e ys) h in
    elim (exponents_cmp x.exponents y.exponents) as (λ o. T (above e (match_ordering o (keep x (y ∷ ys)) (keep (term y.exponents (x.coefficient +ℤ y.coefficient)) ys) (y ∷ plus_term x ys)))) [
      | Less ↦ above-keep e x (y ∷ ys) p h
      | Equal ↦ above-keep e (term y.exponents (x.coefficient +ℤ y.coefficient)) ys here rest
      | Greater ↦ both (is_lt (exponents_cmp e y.exponents)) (above e (plus_term x ys)) here (above-plus e x ys p rest)
    ]

-- a kept term before a canonical list
canonical-keep : (x : Term) (xs : Terms) → T (above x.exponents xs) → T (is_canonical xs) → T (is_canonical (keep x xs))
canonical-keep x xs p h = elim (int_eq x.coefficient (pos 0)) as (λ b. int_eq x.coefficient (pos 0) ≡ b → T (is_canonical (cond b xs (x ∷ xs)))) [
  | true ↦ λ _. h
  | false ↦ λ e. both (is_nonzero x.coefficient && above x.exponents xs) (is_canonical xs) (both (is_nonzero x.coefficient) (above x.exponents xs) (subst (λ b. T (not b)) (sym e) tt) p) h
] refl

-- adding a term keeps a list canonical
canonical-plus : (x : Term) (ys : Terms) → T (is_canonical ys) → T (is_canonical (plus_term x ys))
canonical-plus x [] h = canonical-keep x [] tt tt
canonical-plus x (y ∷ ys) h =
    let front = left_of (is_nonzero y.coefficient && above y.exponents ys) (is_canonical ys) h in
    let rest = right_of (is_nonzero y.coefficient && above y.exponents ys) (is_canonical ys) h in
    let nonzero = left_of (is_nonzero y.coefficient) (above y.exponents ys) front in
    let beyond = right_of (is_nonzero y.coefficient) (above y.exponents ys) front in
    elim (exponents_cmp x.exponents y.exponents) as (λ o. exponents_cmp x.exponents y.exponents ≡ o → T (is_canonical (match_ordering o (keep x (y ∷ ys)) (keep (term y.exponents (x.coefficient +ℤ y.coefficient)) ys) (y ∷ plus_term x ys)))) [
      | Less ↦ λ e. canonical-keep x (y ∷ ys) (both (is_lt (exponents_cmp x.exponents y.exponents)) (above x.exponents ys) (is_less _ e) (above-from x.exponents y.exponents ys e beyond)) h
      | Equal ↦ λ e. canonical-keep (term y.exponents (x.coefficient +ℤ y.coefficient)) ys beyond rest
      | Greater ↦ λ e.
          let turned : exponents_cmp y.exponents x.exponents ≡ Less = exponents_total.antisymm y.exponents x.exponents ∙ ap ordering_reverse e in
          both (is_nonzero y.coefficient && above y.exponents (plus_term x ys)) (is_canonical (plus_term x ys))
          (both (is_nonzero y.coefficient) (above y.exponents (plus_term x ys)) nonzero (above-plus y.exponents x ys (is_less _ turned) beyond))
          (canonical-plus x ys rest)
    ] refl

-- the terms of any list add up to a canonical list
pub canonical-collect : (xs : Terms) → T (is_canonical (collect xs))
canonical-collect [] = tt
canonical-collect (x ∷ xs) = canonical-plus x (collect xs) (canonical-collect xs)

-- ---- coefficients
is_eq_of : (r : Ordering) → r ≡ Equal → is_eq r ≡ true
is_eq_of r e = ap is_eq e

-- an answer that passes the test is `Equal`
pub eq_is : (r : Ordering) → is_eq r ≡ true → r ≡ Equal
eq_is Less e = absurd (cc e)
eq_is Equal e = refl
eq_is Greater e = absurd (cc e)

-- nothing stands at e in a list above it
pub coefficient-above : (e : Exponents) (ys : Terms) → T (above e ys) → coefficient_in ys e ≡ pos 0
coefficient-above e [] h = refl
coefficient-above e (y ∷ ys) h =
    let less = less_is _ (left_of (is_lt (exponents_cmp e y.exponents)) (above e ys) h) in
    ap (λ r. cond (is_eq r) y.coefficient (coefficient_in ys e)) less
    ∙ coefficient-above e ys (right_of (is_lt (exponents_cmp e y.exponents)) (above e ys) h)

-- the first number stands at the first exponents
pub coefficient-first : (x : Term) (xs : Terms) → coefficient_in (x ∷ xs) x.exponents ≡ x.coefficient
coefficient-first x xs = ap (λ r. cond (is_eq r) x.coefficient (coefficient_in xs x.exponents)) (tied_itself exponents_total x.exponents)

-- equal exponents have the same lists past them
pub above-tied : (d e : Exponents) (ys : Terms) → exponents_cmp d e ≡ Equal → T (above e ys) → T (above d ys)
above-tied d e ys p h = subst (λ x. T (above x ys)) (sym (exact_exponents d e p)) h

-- a number that passes the test is not 0
nonzero_is : (n : ℤ) → T (is_nonzero n) → n ≢ pos 0
nonzero_is n t e = subst T (ap not ((Decides-int_eq n (pos 0)).1 e)) t

-- the parts of a canonical list that is not empty
pub first_nonzero : (x : Term) (xs : Terms) → T (is_canonical (x ∷ xs)) → x.coefficient ≢ pos 0
first_nonzero x xs h = nonzero_is x.coefficient (left_of (is_nonzero x.coefficient) (above x.exponents xs) (left_of (is_nonzero x.coefficient && above x.exponents xs) (is_canonical xs) h))

-- the later terms are past the first
pub rest_above : (x : Term) (xs : Terms) → T (is_canonical (x ∷ xs)) → T (above x.exponents xs)
rest_above x xs h = right_of (is_nonzero x.coefficient) (above x.exponents xs) (left_of (is_nonzero x.coefficient && above x.exponents xs) (is_canonical xs) h)

-- the later terms are canonical
pub rest_canonical : (x : Term) (xs : Terms) → T (is_canonical (x ∷ xs)) → T (is_canonical xs)
rest_canonical x xs h = right_of (is_nonzero x.coefficient && above x.exponents xs) (is_canonical xs) h

-- a list whose first exponents are past e
pub coefficient-before : (e : Exponents) (y : Term) (ys : Terms) → T (is_canonical (y ∷ ys)) → exponents_cmp e y.exponents ≡ Less → coefficient_in (y ∷ ys) e ≡ pos 0
coefficient-before e y ys h less = coefficient-above e (y ∷ ys) (both (is_lt (exponents_cmp e y.exponents)) (above e ys) (is_less _ less) (above-from e y.exponents ys less (rest_above y ys h)))

-- canonical lists with the same coefficients are equal
pub same_terms : (xs ys : Terms) → T (is_canonical xs) → T (is_canonical ys) → ((e : Exponents) → coefficient_in xs e ≡ coefficient_in ys e) → xs ≡ ys
same_terms [] [] p q same = refl
same_terms [] (y ∷ ys) p q same = absurd (first_nonzero y ys q (sym (coefficient-first y ys) ∙ sym (same y.exponents)))
same_terms (x ∷ xs) [] p q same = absurd (first_nonzero x xs p (sym (coefficient-first x xs) ∙ same x.exponents))
same_terms (x ∷ xs) (y ∷ ys) p q same =
    elim (exponents_cmp x.exponents y.exponents) as (λ o. exponents_cmp x.exponents y.exponents ≡ o → x ∷ xs ≡ y ∷ ys) [
      | Less ↦ λ r. absurd (first_nonzero x xs p (sym (coefficient-first x xs) ∙ same x.exponents ∙ coefficient-before x.exponents y ys q r))
      | Greater ↦ λ r.
          let turned : exponents_cmp y.exponents x.exponents ≡ Less = exponents_total.antisymm y.exponents x.exponents ∙ ap ordering_reverse r in
          absurd (first_nonzero y ys q (sym (coefficient-first y ys) ∙ sym (same y.exponents) ∙ coefficient-before y.exponents x xs p turned))
      | Equal ↦ λ r.
          let here : x.exponents ≡ y.exponents = exact_exponents x.exponents y.exponents r in
          let number : x.coefficient ≡ y.coefficient = sym (coefficient-first x xs) ∙ same x.exponents ∙ ap (coefficient_in (y ∷ ys)) here ∙ coefficient-first y ys in
          let tails = same_terms xs ys (rest_canonical x xs p) (rest_canonical y ys q) (λ e.
          elim (is_eq (exponents_cmp e x.exponents)) as (λ b. is_eq (exponents_cmp e x.exponents) ≡ b → coefficient_in xs e ≡ coefficient_in ys e) [
            | true ↦ λ t.
                let at_x = eq_is (exponents_cmp e x.exponents) t in
                let at_y : exponents_cmp e y.exponents ≡ Equal = subst (λ z. exponents_cmp e z ≡ Equal) here at_x in
                coefficient-above e xs (above-tied e x.exponents xs at_x (rest_above x xs p)) ∙ sym (coefficient-above e ys (above-tied e y.exponents ys at_y (rest_above y ys q)))
            | false ↦ λ t.
                let past_x : coefficient_in (x ∷ xs) e ≡ coefficient_in xs e = ap (λ b. cond b x.coefficient (coefficient_in xs e)) t in
                let past_y : coefficient_in (y ∷ ys) e ≡ coefficient_in ys e = ap (λ b. cond b y.coefficient (coefficient_in ys e)) (subst (λ z. is_eq (exponents_cmp e z) ≡ false) here t) in
                sym past_x ∙ same e ∙ past_y
          ] refl) in
          ap₂ (λ (z : Term) (zs : Terms). z ∷ zs) (λ i. term (here i) (number i)) tails
    ] refl

-- the exponents of the first two rise
pub first_two : (y z : Term) (zs : Terms) → T (is_canonical (y ∷ z ∷ zs)) → exponents_cmp y.exponents z.exponents ≡ Less
first_two y z zs h = less_is _ (left_of (is_lt (exponents_cmp y.exponents z.exponents)) (above y.exponents zs) (rest_above y (z ∷ zs) h))
