-- Lists of terms c t^i u^j, and the canonical list that a list of terms adds up to.
-- Source: Lang, Algebra, II.3 (group rings); a Laurent polynomial in t and u is an element of the group ring Z[Z x Z].
-- Own: the canonical list, which has each pair of exponents at most once, by rising exponent of t, then of u, and no coefficient 0.
--
--   (i, j) before (k, l)     exponents_cmp     by the exponent of t, then of u
--   t^i u^j t^k u^l          shift             exponents are added
--   c at (i, j)              coefficient_in    0 where there is no term
--   the sum of a list        collect           its canonical list
--   the sum of c f(i, j)     total_over R f    over the terms c t^i u^j of a list, in the ring R
use Rattle.std.specs.Prelude.{ℕ, ◌+◌, ℤ, pos, ◌+ℤ◌, ◌*ℤ◌, nat_abs, max, Bool, true, cond, not, ◌&&◌, List, [], ◌∷◌, ◌++◌, map}
use Rattle.std.specs.declared.cmp.Ordering.{Ordering}
use Rattle.std.specs.Ordering.{int_cmp, int_eq, ordering_then, match_ordering, is_lt, is_eq}
use Rattle.std.specs.List.{list_all}
use Rattle.lie_ring.specs.Rings.{RingOn}
-- the exponents of t and of u, and the coefficient
pub use Rattle.lie_poly.specs.declared.term.Term.{Term}

-- the exponents of t and of u
abbrev pub Exponents : Type 0
Exponents = ℤ × ℤ

-- by the exponent of t, then of u
abbrev pub exponents_cmp : Exponents → Exponents → Ordering
exponents_cmp d e = ordering_then (int_cmp d.0 e.0) (int_cmp d.1 e.1)

-- the exponents of a product
abbrev pub shift : Exponents → Exponents → Exponents
shift d e = (d.0 +ℤ e.0, d.1 +ℤ e.1)

-- the term with these exponents and this coefficient
abbrev pub term : Exponents → ℤ → Term
term e c = record { exponents = e; coefficient = c }

-- a list of terms
abbrev pub Terms : Type 0
Terms = List Term

-- the exponents strictly rise, and no coefficient is 0
abbrev pub is_canonical : Terms → Bool
is_canonical [] = true
is_canonical (x ∷ xs) = not (int_eq x.coefficient (pos 0)) && list_all (λ y. is_lt (exponents_cmp x.exponents y.exponents)) xs && is_canonical xs

-- the coefficient at e in a canonical list, 0 where there is none
abbrev pub coefficient_in : Terms → Exponents → ℤ
coefficient_in [] e = pos 0
coefficient_in (x ∷ xs) e = cond (is_eq (exponents_cmp e x.exponents)) x.coefficient (coefficient_in xs e)

-- x before xs, unless its coefficient is 0
abbrev pub keep : Term → Terms → Terms
keep x xs = cond (int_eq x.coefficient (pos 0)) xs (x ∷ xs)

-- x added to a canonical list
abbrev pub plus_term : Term → Terms → Terms
plus_term x [] = keep x []
plus_term x (y ∷ ys) = match_ordering (exponents_cmp x.exponents y.exponents) (keep x (y ∷ ys)) (keep (term y.exponents (x.coefficient +ℤ y.coefficient)) ys) (y ∷ plus_term x ys)

-- the canonical list that the terms add up to
abbrev pub collect : Terms → Terms
collect [] = []
collect (x ∷ xs) = plus_term x (collect xs)

-- the product of two terms
abbrev pub product_term : Term → Term → Term
product_term x y = term (shift x.exponents y.exponents) (x.coefficient *ℤ y.coefficient)

-- x times each term of ys
abbrev pub times : Term → Terms → Terms
times x ys = map (product_term x) ys

-- each term of xs times each of ys
abbrev pub products : Terms → Terms → Terms
products [] ys = []
products (x ∷ xs) ys = times x ys ++ products xs ys

-- the sum of c f(i, j) over the terms c t^i u^j, in the ring R
abbrev pub total_over : {A : Type 0} → RingOn A → (Exponents → A) → Terms → A
total_over R f [] = R.zero
total_over R f (x ∷ xs) = R.add (R.mul (R.of_int x.coefficient) (f x.exponents)) (total_over R f xs)

-- the sum of the absolute values of the coefficients
abbrev pub size_of : Terms → ℕ
size_of [] = 0
size_of (x ∷ xs) = nat_abs x.coefficient + size_of xs

-- the greatest absolute exponent
abbrev pub degree_of : Terms → ℕ
degree_of [] = 0
degree_of (x ∷ xs) = max (max (nat_abs x.exponents.0) (nat_abs x.exponents.1)) (degree_of xs)
