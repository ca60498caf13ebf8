-- The order of weights, and how the members of an orbit are sorted.
use Rattle.std.proofs.Common.{◌≡◌, ℕ, ◌+◌, ◌<◌, ◌≤◌, ℤ, pos, ◌+ℤ◌, Bool, false, List, [], ◌∷◌, length, get_or, map, take, refl, sym, ap, subst, ◌∙◌, arith, unsigned_abs}
use Rattle.std.proofs.Math.ListN.{length-map, get_or-map}
use Rattle.std.proofs.lemmas.List.Sorted.{IsPermutation-map, IsPermutation-sym, Contains-permutation, All-permutation, length_permutation}
use Rattle.std.proofs.lemmas.Map.Keys.{IsDistinct-from_apart, IsDistinct-IsPermutation, apart_from_distinct, sorted_from_all_adjacent}
use Rattle.std.proofs.lemmas.Cmp.{int_cmp_total, on_total, then_total, back_total}
use Rattle.std.specs.List.{All, IsDistinct}
use Rattle.std.specs.List.Sorted.{IsPermutation, IsSorted, IsStrictlySortedBy}
use Rattle.std.specs.Cmp.{IsTotalOrder}
use Rattle.std.specs.Ordering.{int_cmp, eq_by_cmp, is_eq, is_lt, ordering_reverse, ordering_then}
use Rattle.std.specs.Cmp.Lexicographic.{slice_cmp}
use Rattle.std.specs.declared.cmp.Ordering.{Ordering}
use Rattle.std.specs.declared.cmp.Ordering.TheVariants.{Less, Equal, Greater}
use Rattle.lie_datum.specs.Vectors.{Vector, pairing, total}
use Rattle.lie_datum.specs.declared.root_pair.Root.{Root}
use Rattle.lie_datum.specs.RootDatum.{Base, covector, opposite}
use Rattle.lie_datum.specs.RootList.{RootDatum, IsLoaded, IsNumber, root_of}
use Rattle.lie_datum.specs.Laws.{positive_coroots, covectors}
use Rattle.lie_datum.specs.Numbers.{number_at}
use Rattle.lie_datum.proofs.Linear.{plus-pairing}
use Rattle.lie_datum.proofs.NumberLemmas.{numbered_at}
use Rattle.lie_datum.proofs.TableFilling.{total_take_more}
use Rattle.lie_datum.proofs.VectorLemmas.{take_whole}
use Rattle.std.proofs.lemmas.List.{get_or_append_left}
use Rattle.lie_datum.proofs.RootOrder.{slices_total, equal_slices}
use Rattle.lie_orbit.specs.declared.levels.Leveled.{Leveled}
use Rattle.lie_orbit.specs.Weights.{IsMinuscule}
use Rattle.lie_orbit.specs.Orbits.{weight_cmp, AreDistinct, IsOrbit, IsNear}
use Rattle.lie_orbit.specs.Growth.{IsGrowing, HasAllImages, first_weight}
use Rattle.lie_orbit.specs.Levels.{level, leveled_weight, IsLeveled}
use Rattle.lie_orbit.proofs.GrowthLemmas.{grown_whole, member_near}

-- ---- levels
pairing-nothing : (x : Vector) → pairing x [] ≡ pos 0
pairing-nothing [] = refl
pairing-nothing (a ∷ x) = refl

-- the pairing with a sum of coroots
pub pairing-covectors : (b : Base) (x : Vector) (rs : List Root) → pairing x (covectors b rs) ≡ total (λ r. pairing x (covector b r)) rs
pairing-covectors b x [] = pairing-nothing x
pairing-covectors b x (r ∷ rs) = plus-pairing x (covector b r) (covectors b rs) ∙ ap (λ t. pairing x (covector b r) +ℤ t) (pairing-covectors b x rs)

module _ (d : RootDatum) where
  -- ---- the sum of the pairings with the positive coroots
  module _ (loaded : IsLoaded d) (x : Vector) (minuscule : IsMinuscule d x) (k m : ℕ) (inside : k < length d.positive) (e : m ≡ length d.positive) (r : ℤ) (at : r ≡ number_at m k) where
    at_positive : r ≡ number_at (length d.positive) k
    at_positive = at ∙ ap (λ t. number_at t k) e

    pub level_number : IsNumber d r
    level_number = subst (IsNumber d) (sym at_positive) (numbered_at d k (omega (arith, inside))).number

    pub level_bound : unsigned_abs (pairing x (covector d.base (root_of d r))) ≤ 1
    level_bound = minuscule r level_number

    pub level_more : (s : ℤ) → s ≡ total (λ t. pairing x (covector d.base t)) (take k d.positive) → s +ℤ pairing x (covector d.base (root_of d r)) ≡ total (λ t. pairing x (covector d.base t)) (take (k + 1) d.positive)
    level_more s is =
        let none : Root = record { coeffs = []; co_coeffs = [] } in
        let root : root_of d r ≡ get_or d.positive k none = ap (root_of d) at_positive ∙ sym ((numbered_at d k (omega (arith, inside))).root none) ∙ get_or_append_left d.positive (map opposite d.positive) none k inside in
        ap (λ t. t +ℤ pairing x (covector d.base (root_of d r))) is ∙ ap (λ t. total (λ u. pairing x (covector d.base u)) (take k d.positive) +ℤ pairing x (covector d.base t)) root
        ∙ sym (total_take_more (λ t. pairing x (covector d.base t)) d.positive k none inside)

  pub level_whole : (x : Vector) (k : ℕ) (s : ℤ) → length d.positive ≤ k → s ≡ total (λ t. pairing x (covector d.base t)) (take k d.positive) → s ≡ level d x
  level_whole x k s l e = e ∙ ap (total (λ t. pairing x (covector d.base t))) (take_whole k d.positive l) ∙ sym (pairing-covectors d.base x d.positive)

-- ---- sorting
-- the code's comparison
abbrev pub leveled_cmp : Leveled → Leveled → Ordering
leveled_cmp p q = ordering_then (int_cmp q.level.0 p.level.0) (slice_cmp int_cmp q.weight.0 p.weight.0)

module _ (d : RootDatum) where
  pub weight_total : IsTotalOrder (weight_cmp d)
  weight_total = then_total (on_total (λ x. pairing x (positive_coroots d)) (back_total int_cmp_total)) (back_total slices_total)

  -- weights that tie are equal
  pub equal_order : (x y : Vector) → weight_cmp d x y ≡ Equal → x ≡ y
  equal_order x y e = by (int_cmp (level d y) (level d x)) e
    where
      by : (o : Ordering) → ordering_then o (slice_cmp int_cmp y x) ≡ Equal → x ≡ y
      by Less p = cc
      by Equal p = sym (equal_slices y x p)
      by Greater p = cc

  abbrev ties : Vector → Vector → Bool
  ties = eq_by_cmp (weight_cmp d)

  -- ties go both ways
  flips : (x y : Vector) → ties x y ≡ ties y x
  flips x y = ap is_eq (weight_total.antisymm x y) ∙ back (weight_cmp d y x)
    where
      back : (o : Ordering) → is_eq (ordering_reverse o) ≡ is_eq o
      back Less = refl
      back Equal = refl
      back Greater = refl

  -- different weights do not tie
  apart_list : (ws : List Vector) → AreDistinct ws → IsDistinct ties ws
  apart_list ws h = IsDistinct-from_apart ties ws (λ i j z l m. by (get_or ws i z) (get_or ws j z) (weight_cmp d (get_or ws i z) (get_or ws j z)) refl (h i j z l m))
    where
      by : (x y : Vector) (o : Ordering) → weight_cmp d x y ≡ o → ¬ (x ≡ y) → ties x y ≡ false
      by x y Less e n = ap is_eq e
      by x y Equal e n = absurd (n (equal_order x y e))
      by x y Greater e n = ap is_eq e

  -- neighbours that do not fall and do not tie rise
  rising : (x y : Vector) → ties x y ≡ false → is_lt (weight_cmp d y x) ≡ false → weight_cmp d x y ≡ Less
  rising x y n f = by (weight_cmp d y x) refl n f
    where
      by : (o : Ordering) → weight_cmp d y x ≡ o → ties x y ≡ false → is_lt o ≡ false → weight_cmp d x y ≡ Less
      by Less e n f = cc
      by Equal e n f = let h = flips x y ∙ ap is_eq e in cc
      by Greater e n f = weight_total.antisymm x y ∙ ap ordering_reverse e

  -- the code compares by the order of weights
  leveled_is : (p q : Leveled) → IsLeveled d p → IsLeveled d q → leveled_cmp p q ≡ weight_cmp d (leveled_weight p) (leveled_weight q)
  leveled_is p q e f =
      let rest = slice_cmp int_cmp q.weight.0 p.weight.0 in
      ap (λ t. ordering_then (int_cmp t p.level.0) rest) f ∙ ap (λ t. ordering_then (int_cmp (level d q.weight.0) t) rest) e

  -- sorted by level and weight, and no weight twice: in the strict order of weights
  sorted_weights : (xs ys : List Leveled) → IsPermutation xs ys → IsSorted leveled_cmp ys → All (IsLeveled d) xs → AreDistinct (map leveled_weight xs) → IsStrictlySortedBy (weight_cmp d) (map leveled_weight ys)
  sorted_weights xs ys p s levels once = sorted_from_all_adjacent weight_total (map leveled_weight ys) [] less
    where
      levels' : All (IsLeveled d) ys
      levels' = All-permutation (IsLeveled d) xs ys p levels

      apart : IsDistinct ties (map leveled_weight ys)
      apart = IsDistinct-IsPermutation ties flips (map leveled_weight xs) (map leveled_weight ys) (IsPermutation-map leveled_weight xs ys p) (apart_list (map leveled_weight xs) once)

      none : Leveled
      none = record { level = record { 0 = pos 0 }; weight = record { 0 = [] } }

      less : (k : ℕ) → k + 1 < length (map leveled_weight ys) → weight_cmp d (get_or (map leveled_weight ys) k []) (get_or (map leveled_weight ys) (k + 1) []) ≡ Less
      less k l =
          let m : k + 1 < length ys = omega (arith, l, length-map ys leveled_weight) in
          let a = get_or-map leveled_weight ys k none in
          let b = get_or-map leveled_weight ys (k + 1) none in
          let x = get_or ys k none in
          let y = get_or ys (k + 1) none in
          let t = apart_from_distinct ties (map leveled_weight ys) k (k + 1) [] apart (omega arith) l in
          let f = s k none (omega arith) m in
          let ex = levels' k none (omega (arith, m)) in
          let ey = levels' (k + 1) none m in
          rw (a, b) (rising (leveled_weight x) (leveled_weight y) (rw (a, b) at t) (ap is_lt (sym (leveled_is y x ey ex)) ∙ f))

  module _ (loaded : IsLoaded d) (ws : List Vector) (growing : IsGrowing d ws) (xs ys : List Leveled) (weights : map leveled_weight xs ≡ ws) (p : IsPermutation xs ys) where
    moved : IsPermutation ws (map leveled_weight ys)
    moved = subst (λ (us : List Vector). IsPermutation us (map leveled_weight ys)) weights (IsPermutation-map leveled_weight xs ys p)

    pub sorted_orbit : HasAllImages d ws → All (IsLeveled d) xs → IsSorted leveled_cmp ys → IsOrbit d (first_weight ws) (map leveled_weight ys)
    sorted_orbit whole levels s = record {
      sorted = sorted_weights xs ys p s levels (subst AreDistinct (sym weights) growing.distinct);
      members = λ x. (
        (λ c. growing.reached x (Contains-permutation (map leveled_weight ys) ws x (IsPermutation-sym ws (map leveled_weight ys) moved) c)),
        λ r. Contains-permutation ws (map leveled_weight ys) x moved (grown_whole d ws growing whole x r),
      );
    }

    pub sorted_count : length (map leveled_weight ys) ≡ length ws
    sorted_count = length_permutation ws (map leveled_weight ys) moved

    pub sorted_near : All (IsNear (first_weight ws) 102400) (map leveled_weight ys)
    sorted_near = All-permutation (IsNear (first_weight ws) 102400) ws (map leveled_weight ys) moved (λ k z l. member_near d loaded ws k z growing l)
