-- Sizes and degrees of the parts of a list of terms.
use Rattle.std.proofs.Common.{◌≡◌, ℕ, zero, suc, ◌+◌, ◌≤◌, ◌<◌, max, [], ◌∷◌, ◌++◌, map, length, get_or, drop, take, refl, sym, ap, ap₂, ◌∙◌, arith, T, true, false, ◌&&◌}
use Rattle.std.specs.Prelude.{nat_abs}
use Rattle.std.proofs.Common.{Bool}
use Rattle.std.specs.Ordering.{int_eq}
use Rattle.std.proofs.lemmas.Bool.{false≢true}
use Rattle.std.proofs.lemmas.Bool.Decides.{Decides-int_eq}
use Rattle.std.proofs.lemmas.List.{drop_more, take_more, map-append}
use lib.Pointwise.{pointwise}
use Rattle.lie_poly.specs.Terms.{Term, Terms, is_canonical, size_of, degree_of}
use Rattle.lie_poly.specs.Canonical.{rest_canonical}

-- the degree of a term
abbrev pub degree_at : Term → ℕ
degree_at x = max (nat_abs x.exponents.0) (nat_abs x.exponents.1)

-- a coefficient is within the size
pub size-at : (xs : Terms) (k : ℕ) (d : Term) → k < length xs → nat_abs (get_or xs k d).coefficient ≤ size_of xs
size-at [] k d h = absurd (omega (arith, h))
size-at (x ∷ xs) zero d h = omega arith
size-at (x ∷ xs) (suc k) d h = let rest = size-at xs k d (omega (arith, h)) in omega (arith, rest)

-- exponents are within the degree
pub degree-at : (xs : Terms) (k : ℕ) (d : Term) → k < length xs → degree_at (get_or xs k d) ≤ degree_of xs
degree-at [] k d h = absurd (omega (arith, h))
degree-at (x ∷ xs) zero d h = omega arith
degree-at (x ∷ xs) (suc k) d h = let rest = degree-at xs k d (omega (arith, h)) in omega (arith, rest)

-- the size of what is left, one term on
pub size-drop : (xs : Terms) (k : ℕ) (d : Term) → k < length xs → size_of (drop k xs) ≡ nat_abs (get_or xs k d).coefficient + size_of (drop (k + 1) xs)
size-drop xs k d h = ap size_of (drop_more xs k d h)

-- the degree of what is left, one term on
pub degree-drop : (xs : Terms) (k : ℕ) (d : Term) → k < length xs → degree_of (drop k xs) ≡ max (degree_at (get_or xs k d)) (degree_of (drop (k + 1) xs))
degree-drop xs k d h = ap degree_of (drop_more xs k d h)

-- the size of a list in two parts
pub size-append : (xs ys : Terms) → size_of (xs ++ ys) ≡ size_of xs + size_of ys
size-append [] ys = omega arith
size-append (x ∷ xs) ys = omega (arith, size-append xs ys)

-- what is left of a canonical list is canonical
pub canonical-drop : (k : ℕ) (xs : Terms) → T (is_canonical xs) → T (is_canonical (drop k xs))
canonical-drop zero xs h = h
canonical-drop (suc k) [] h = tt
canonical-drop (suc k) (x ∷ xs) h = canonical-drop k xs (rest_canonical x xs h)

-- the test of terms that the code makes
abbrev pub term_test : Term → Term → Bool
term_test x y = (int_eq x.exponents.0 y.exponents.0 && int_eq x.exponents.1 y.exponents.1) && int_eq x.coefficient y.coefficient

-- both parts of a test
both_true : (a b : Bool) → a && b ≡ true → (a ≡ true) × (b ≡ true)
both_true true b e = (refl, e)
both_true false b e = absurd (false≢true e)

-- terms that pass it are equal
pub same_from_test : (x y : Term) → term_test x y ≡ true → x ≡ y
same_from_test x y e =
    let (exponents, third) = both_true (int_eq x.exponents.0 y.exponents.0 && int_eq x.exponents.1 y.exponents.1) (int_eq x.coefficient y.coefficient) e in
    let (first, second) = both_true (int_eq x.exponents.0 y.exponents.0) (int_eq x.exponents.1 y.exponents.1) exponents in
    let t = (Decides-int_eq x.exponents.0 y.exponents.0).0 first in
    let u = (Decides-int_eq x.exponents.1 y.exponents.1).0 second in
    let c = (Decides-int_eq x.coefficient y.coefficient).0 third in
    λ i. record { exponents = (t i, u i); coefficient = c i }

-- a term passes it with itself
test_of_itself : (x : Term) → term_test x x ≡ true
test_of_itself x =
    ap₂ (λ (a b : Bool). (a && b) && int_eq x.coefficient x.coefficient) ((Decides-int_eq x.exponents.0 x.exponents.0).1 refl) ((Decides-int_eq x.exponents.1 x.exponents.1).1 refl)
    ∙ (Decides-int_eq x.coefficient x.coefficient).1 refl

-- equal terms pass it
pub test_from_same : (x y : Term) → x ≡ y → term_test x y ≡ true
test_from_same x y e = ap (term_test x) (sym e) ∙ test_of_itself x

-- lists that pass it place by place are equal
pub same_from_tests : (xs ys : Terms) → pointwise term_test xs ys ≡ true → xs ≡ ys
same_from_tests [] [] e = refl
same_from_tests [] (y ∷ ys) e = absurd (false≢true e)
same_from_tests (x ∷ xs) [] e = absurd (false≢true e)
same_from_tests (x ∷ xs) (y ∷ ys) e =
    let (first, rest) = both_true (term_test x y) (pointwise term_test xs ys) e in
    ap₂ (λ (z : Term) (zs : Terms). z ∷ zs) (same_from_test x y first) (same_from_tests xs ys rest)

-- equal lists pass it
tests_of_itself : (xs : Terms) → pointwise term_test xs xs ≡ true
tests_of_itself [] = refl
tests_of_itself (x ∷ xs) = ap (λ b. b && pointwise term_test xs xs) (test_of_itself x) ∙ tests_of_itself xs

-- equal lists pass it
pub tests_from_same : (xs ys : Terms) → xs ≡ ys → pointwise term_test xs ys ≡ true
tests_from_same xs ys e = ap (pointwise term_test xs) (sym e) ∙ tests_of_itself xs

-- a list of one term
pub only_term : (xs : Terms) (d : Term) → length xs ≡ 1 → xs ≡ get_or xs 0 d ∷ []
only_term [] d h = absurd (let never : ⊥ = omega (arith, h) in never)
only_term (x ∷ []) d h = refl
only_term (x ∷ y ∷ ys) d h = absurd (let never : ⊥ = omega (arith, h) in never)

-- a map of one more term
pub map-more : (f : Term → Term) (xs : Terms) (k : ℕ) (d : Term) → k < length xs → map f (take k xs) ++ f (get_or xs k d) ∷ [] ≡ map f (take (k + 1) xs)
map-more f xs k d h = sym (ap (map f) (take_more xs k d h) ∙ map-append f (take k xs) (get_or xs k d ∷ []))
