-- What the code's tests of weights say: whether one is 0, and whether it is in a list.
use Rattle.std.proofs.Common.{◌≡◌, ℕ, zero, suc, ◌+◌, ◌-◌, ◌<◌, ◌≤◌, pos, Bool, true, false, ◌||◌, List, [], ◌∷◌, length, get_or, set, replicate, map, refl, sym, ap, subst, ◌∙◌, arith, ⊎_elim, ◌↔◌, IsTrue}
use Rattle.std.proofs.lemmas.List.{get_or_default}
use Rattle.std.proofs.Math.ListN.{get_or-map, length-map}
use Rattle.std.specs.List.{Any, Contains, list_any}
use Rattle.std.specs.Ordering.{int_eq}
use Rattle.std.specs.Cmp.Rules.{signed_items}
use lib.Pointwise.{pointwise}
use Rattle.lie_base.proofs.Members.{In, here, there}
use Rattle.lie_datum.specs.Vectors.{Vector, unit, entry}
use Rattle.lie_datum.specs.RootDatum.{IsWithin}
use Rattle.lie_datum.proofs.ClosureLemmas.{in_from_contains, contains_from_in}
use Rattle.lie_datum.proofs.Entries.{within_or_past, same_entries}
use Rattle.lie_orbit.specs.Laws.{IsZero}
use Rattle.lie_weight.specs.OrbitFaults.{IsHeavyWeight, IsHeavyAt}

-- ---- the unit vectors
no_unit : (n : ℕ) → replicate n (pos 0) ≡ unit n 0
no_unit zero = refl
no_unit (suc n) = ap (λ t. pos 0 ∷ t) (no_unit n)

pub unit_written : (n k : ℕ) → k < n → set (replicate n (pos 0)) k (pos 1) ≡ unit n (k + 1)
unit_written n k l = by n k l ∙ ap (unit n) (let e : suc k ≡ k + 1 = omega arith in e)
  where
    by : (n k : ℕ) → k < n → set (replicate n (pos 0)) k (pos 1) ≡ unit n (suc k)
    by zero k l = absurd (omega (arith, l))
    by (suc n) zero l = ap (λ t. pos 1 ∷ t) (no_unit n)
    by (suc n) (suc k) l = ap (λ t. pos 0 ∷ t) (by n k (omega (arith, l)))

pub unit_within : (n i : ℕ) → IsWithin 1 (unit n i)
unit_within zero i k z l = absurd (omega (arith, l))
unit_within (suc n) zero zero z l = omega arith
unit_within (suc n) zero (suc k) z l = unit_within n zero k z (omega (arith, l))
unit_within (suc n) (suc zero) zero z l = omega arith
unit_within (suc n) (suc zero) (suc k) z l = unit_within n zero k z (omega (arith, l))
unit_within (suc n) (suc (suc i)) zero z l = omega arith
unit_within (suc n) (suc (suc i)) (suc k) z l = unit_within n (suc i) k z (omega (arith, l))

-- ---- whether a weight is 0
zeros : (n k : ℕ) → entry (replicate n (pos 0)) k ≡ pos 0
zeros zero k = refl
zeros (suc n) zero = refl
zeros (suc n) (suc k) = zeros n k

pub zero_test : (x : Vector) → length x ≡ 8 → (b : Bool) → b ≡ pointwise int_eq x (replicate 8 (pos 0)) → IsTrue b ↔ IsZero x
zero_test x l b e = (
  (λ t k. ap (λ v. entry v k) ((signed_items x (replicate 8 (pos 0))).0 (sym e ∙ t)) ∙ zeros 8 k),
  λ z. e ∙ (signed_items x (replicate 8 (pos 0))).1 (same_entries x (replicate 8 (pos 0)) l (λ k. z k ∙ sym (zeros 8 k))),
)

-- ---- whether a weight is in a list
any_in : (x : Vector) (ws : List Vector) → list_any (λ y. pointwise int_eq y x) ws ≡ true → In x ws
any_in x [] e = absurd (cc)
any_in x (y ∷ ws) e = by (pointwise int_eq y x) refl e (any_in x ws)
  where
    by : (t : Bool) → pointwise int_eq y x ≡ t → (t || list_any (λ y. pointwise int_eq y x) ws) ≡ true → (list_any (λ y. pointwise int_eq y x) ws ≡ true → In x ws) → In x (y ∷ ws)
    by true f g h = here (sym ((signed_items y x).0 f))
    by false f g h = there (h g)

in_any : (x : Vector) (ws : List Vector) → In x ws → list_any (λ y. pointwise int_eq y x) ws ≡ true
in_any x [] p = elim p [ ]
in_any x (y ∷ ws) (here e) = ap (λ t. t || list_any (λ y. pointwise int_eq y x) ws) ((signed_items y x).1 (sym e))
in_any x (y ∷ ws) (there p) = last (pointwise int_eq y x) (in_any x ws p)
  where
    last : (t : Bool) → list_any (λ y. pointwise int_eq y x) ws ≡ true → (t || list_any (λ y. pointwise int_eq y x) ws) ≡ true
    last true e = refl
    last false e = e

pub found : (x : Vector) (ws : List Vector) (b : Bool) → b ≡ list_any (λ y. pointwise int_eq y x) ws → b ≡ true → Contains ws x
found x ws b e t = contains_from_in ws x (any_in x ws (sym e ∙ t))

pub not_found : (x : Vector) (ws : List Vector) (b : Bool) → b ≡ list_any (λ y. pointwise int_eq y x) ws → b ≡ false → ¬ Contains ws x
not_found x ws b e f c = let t = e ∙ in_any x ws (in_from_contains ws x c) in cc

-- in one of the first lists
pub in_list : (os : List (List Vector)) (k : ℕ) (x : Vector) → k < length os → Contains (get_or os k []) x → Any (λ o. Contains o x) os
in_list os k x l c = (k, get_or os k [], l, get_or_default os k (get_or os k []) [] l, c)

pub in_no_list : (os : List (List Vector)) (n : ℕ) (x : Vector) → length os ≤ n → ((k : ℕ) → k < n → ¬ Contains (get_or os k []) x) → ¬ Any (λ o. Contains o x) os
in_no_list os n x l none a = none a.0 (let i = a.2 in omega (arith, i, l)) (subst (λ o. Contains o x) (sym a.3 ∙ get_or_default os a.0 a.1 [] a.2) a.4)

-- ---- the first heavy weight
pub heavy_start : (ws : List Vector) (b : ℕ) → b < 0 + 1 → ¬ IsHeavyAt ws b
heavy_start ws b l h = let p = h.0 in absurd (omega (arith, l, p))

pub heavy_more : (ws : List Vector) (a : ℕ) → ((b : ℕ) → b < a + 1 → ¬ IsHeavyAt ws b) → ¬ IsHeavyWeight (get_or ws a []) → (b : ℕ) → b < a + 1 + 1 → ¬ IsHeavyAt ws b
heavy_more ws a before light b l h = ⊎_elim (λ m. before b m h)
    (λ m. (let e : b - 1 ≡ a = omega (arith, l, m) in light (subst (λ t. IsHeavyWeight (get_or ws t [])) e h.2))) (within_or_past b (a + 1))

pub heavy_here : (ws : List Vector) (a : ℕ) → a < length ws → IsHeavyWeight (get_or ws a []) → IsHeavyAt ws (a + 1)
heavy_here ws a l h = let e : a ≡ a + 1 - 1 = omega arith in (omega arith, omega (arith, l), subst (λ t. IsHeavyWeight (get_or ws t [])) e h)

pub heavy_none : (ws : List Vector) (n : ℕ) → length ws ≤ n → ((b : ℕ) → b < n + 1 → ¬ IsHeavyAt ws b) → (b : ℕ) → ¬ IsHeavyAt ws b
heavy_none ws n l none b h = none b (let q = h.1 in omega (arith, l, q)) h

-- ---- lists that are kept as they are owned
-- the list of an item
pub item-list : {A : Type 0} (f : A → List Vector) (xs : List A) (k : ℕ) (r : A) → k < length xs → r ≡ get_or xs k r → get_or (map f xs) k [] ≡ f r
item-list f xs k r l e = get_or_default (map f xs) k [] (f r) (let n = length-map xs f in omega (arith, l, n)) ∙ get_or-map f xs k r ∙ ap f (sym e)

-- one list more in which a weight is not
pub not_in_more : (os : List (List Vector)) (n : ℕ) (x : Vector) → ((k : ℕ) → k < n → ¬ Contains (get_or os k []) x) → ¬ Contains (get_or os n []) x → (k : ℕ) → k < n + 1 → ¬ Contains (get_or os k []) x
not_in_more os n x before here' k l = ⊎_elim (before k) (λ m. (let e : k ≡ n = omega (arith, l, m) in subst (λ t. ¬ Contains (get_or os t []) x) (sym e) here')) (within_or_past k n)
