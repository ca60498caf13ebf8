-- The definitions at work on A_1, and on the rank two with c_12 = -1 and c_21 = -2; the coroots are unit vectors.
use Rattle.std.proofs.Common.{◌≡◌, ℕ, zero, suc, ◌≤◌, ℤ, pos, negsuc, ◌≤ℤ◌, List, [], ◌∷◌, replicate, refl, sym, ap, subst, arith}
use Rattle.std.proofs.lemmas.Int.{ints}
use Rattle.std.proofs.lemmas.Bool.{false≢true}
use Rattle.std.specs.List.Sorted.{IsStrictlySortedBy}
use Rattle.lie_base.proofs.Members.{In, here, there}
use Rattle.lie_datum.specs.Vectors.{Vector}
use Rattle.lie_datum.specs.RootDatum.{simple, IsSimpleIndex}
use Rattle.lie_datum.specs.RootList.{RootDatum}
use Rattle.lie_datum.proofs.ClosureLemmas.{in_from_contains, contains_from_in}
use Rattle.lie_orbit.specs.Weights.{coroot_pairing, HasLargePairing}
use Rattle.lie_orbit.specs.Lowering.{IsHalf, IsLow, IsFirstHigh, Lowers, low, step}
use Rattle.lie_orbit.specs.Orbits.{reflected_weight, weight_cmp, IsReached, start, next, IsOrbit}

-- x and y, and six zeros
abbrev pair : ℤ → ℤ → Vector
pair x y = x ∷ (y ∷ replicate 6 (pos 0))

-- SL_2: the simple root is 2
abbrev a1 : RootDatum
a1 = record {
  base = record { dim = 1; roots = pair (pos 2) (pos 0) ∷ []; coroots = pair (pos 1) (pos 0) ∷ [] };
  positive = simple 1 ∷ [];
}

-- ---- 5 lowers to 1 in one step: it pairs with the coroot to 5, half of that is 2, and 5 - 2 * 2 = 1
five_first : IsFirstHigh a1 (pair (pos 5) (pos 0)) (pos 1)
five_first = record {
  number = refl;
  high = let h : pos 2 ≤ℤ pos 5 = omega (arith, ints) in h;
  before = λ s n l. absurd (omega (arith, l));
}

half_of_five : IsHalf (coroot_pairing a1 (pair (pos 5) (pos 0)) (pos 1)) (pos 2)
half_of_five = (let h : pos 4 ≤ℤ pos 5 = omega (arith, ints) in h, let h : pos 5 ≤ℤ pos 5 = omega (arith, ints) in h)

one_low : IsLow a1 (pair (pos 1) (pos 0))
one_low (pos zero) n h = false≢true n
one_low (pos (suc zero)) n h = let k : pos 2 ≤ℤ pos 1 = h in absurd (omega (arith, ints, k))
one_low (pos (suc (suc i))) n h = false≢true n
one_low (negsuc zero) n h = let k : pos 2 ≤ℤ negsuc 0 = h in absurd (omega (arith, ints, k))
one_low (negsuc (suc i)) n h = false≢true n

five_lowers : Lowers a1 (pair (pos 5) (pos 0)) (pair (pos 1) (pos 0))
five_lowers = step (pair (pos 5) (pos 0)) (pair (pos 1) (pos 0)) (pos 1) (pos 2) five_first half_of_five (low (pair (pos 1) (pos 0)) one_low)

-- ---- the orbit of 1 is 1, -1
abbrev one_and_minus_one : List Vector
one_and_minus_one = pair (pos 1) (pos 0) ∷ (pair (negsuc 0) (pos 0) ∷ [])

a1_image : (i : ℕ) (x : Vector) → IsSimpleIndex a1.base i → In x one_and_minus_one → In (reflected_weight a1 i x) one_and_minus_one
a1_image zero x s p = absurd (let q = s.0 in omega (arith, q))
a1_image (suc zero) x s (here e) = there (here (ap (reflected_weight a1 1) e))
a1_image (suc zero) x s (there (here e)) = here (ap (reflected_weight a1 1) e)
a1_image (suc zero) x s (there (there p)) = elim p [ ]
a1_image (suc (suc i)) x s p = absurd (let q : suc (suc i) ≤ 1 = s.1 in omega (arith, q))

a1_listed : (x : Vector) → IsReached a1 (pair (pos 1) (pos 0)) x → In x one_and_minus_one
a1_listed _ start = here refl
a1_listed _ (next i x s p) = a1_image i x s (a1_listed x p)

a1_reached : (x : Vector) → In x one_and_minus_one → IsReached a1 (pair (pos 1) (pos 0)) x
a1_reached x (here e) = subst (IsReached a1 (pair (pos 1) (pos 0))) (sym e) start
a1_reached x (there (here e)) = subst (IsReached a1 (pair (pos 1) (pos 0))) (sym e) (next 1 (pair (pos 1) (pos 0)) (omega arith, omega arith) start)
a1_reached x (there (there p)) = elim p [ ]

a1_sorted : IsStrictlySortedBy (weight_cmp a1) one_and_minus_one
unfolding IsStrictlySortedBy
a1_sorted = ((refl, tt), (tt, tt))

a1_orbit : IsOrbit a1 (pair (pos 1) (pos 0)) one_and_minus_one
a1_orbit = record {
  sorted = a1_sorted;
  members = λ x. ((λ c. a1_reached x (in_from_contains one_and_minus_one x c)), λ r. contains_from_in one_and_minus_one x (a1_listed x r));
}

-- ---- rank two: the orbit of (1, 0) is (1, 0), (-1, 1), (1, -1), (-1, 0)
abbrev c2 : RootDatum
c2 = record {
  base = record {
    dim = 2;
    roots = pair (pos 2) (negsuc 0) ∷ (pair (negsuc 1) (pos 2) ∷ []);
    coroots = pair (pos 1) (pos 0) ∷ (pair (pos 0) (pos 1) ∷ []);
  };
  positive =
      simple 1 ∷ (simple 2 ∷ (record { coeffs = pair (pos 1) (pos 1); co_coeffs = pair (pos 1) (pos 2) }
      ∷ (record { coeffs = pair (pos 2) (pos 1); co_coeffs = pair (pos 1) (pos 1) } ∷ [])));
}

first_image : reflected_weight c2 1 (pair (pos 1) (pos 0)) ≡ pair (negsuc 0) (pos 1)
first_image = refl

second_image : reflected_weight c2 2 (pair (negsuc 0) (pos 1)) ≡ pair (pos 1) (negsuc 0)
second_image = refl

third_image : reflected_weight c2 1 (pair (pos 1) (negsuc 0)) ≡ pair (negsuc 0) (pos 0)
third_image = refl

last_image : reflected_weight c2 2 (pair (negsuc 0) (pos 0)) ≡ pair (negsuc 0) (pos 0)
last_image = refl

c2_sorted : IsStrictlySortedBy (weight_cmp c2) (pair (pos 1) (pos 0) ∷ (pair (negsuc 0) (pos 1) ∷ (pair (pos 1) (negsuc 0) ∷ (pair (negsuc 0) (pos 0) ∷ []))))
unfolding IsStrictlySortedBy
c2_sorted = ((refl, (refl, (refl, tt))), ((refl, (refl, tt)), ((refl, tt), (tt, tt))))

-- (1, 0) pairs with the coroot of r_3 to 1, and (0, 1) to 2
c2_pairing : coroot_pairing c2 (pair (pos 1) (pos 0)) (pos 3) ≡ pos 1
c2_pairing = refl

c2_large : HasLargePairing c2 (pair (pos 0) (pos 1)) (pos 3)
c2_large = omega arith
