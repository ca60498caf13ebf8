-- The names of roots: what stands at the place of a root, and the number of a place; in a loaded datum each root has one name.
use Rattle.std.proofs.Common.{◌≡◌, ℕ, zero, suc, ◌<◌, ltb, Bool, true, false, cond, T, List, [], ◌∷◌, length, get_or, Option, Some, None, refl, sym, ap, ◌∙◌, subst, arith}
use Rattle.std.specs.Prelude.{ℤ}
use Rattle.std.specs.Ordering.{int_cmp, is_eq}
use Rattle.std.specs.Cmp.{Equal-is}
use Rattle.std.specs.Cmp.Lexicographic.{slice_cmp}
use Rattle.std.proofs.lemmas.Cmp.{tied_itself}
use Rattle.lie_datum.proofs.RootOrder.{slices_total, equal_slices}
use Rattle.lie_const.specs.StructureConstants.{same_vector}
use Rattle.std.specs.Option.{option_map, unwrap_or, is_some}
use Rattle.std.specs.List.{Contains}
use Rattle.std.proofs.lemmas.Bool.{and_parts, and_from, false≢true}
use Rattle.std.proofs.Math.Facts.{ltb_yes, yes_ltb, and_yes, yes_and}
use lib.Dec.{T_prop}
use mathlib.Core.HLevel.{Σ_prop_path}
use Rattle.lie_base.specs.Below.{Below, same_below, is_below, at_number, first_place, next_place}
use Rattle.lie_base.proofs.Members.{In, here, there}
use Rattle.lie_datum.specs.declared.root_pair.Root.{Root}
use Rattle.lie_datum.specs.Vectors.{Vector}
use Rattle.lie_datum.specs.Numbers.{place, number_at}
use Rattle.lie_datum.specs.RootDatum.{rank, simple, opposite, reflected, IsRoot, is_simple, is_reflected, IsSimpleIndex}
use Rattle.lie_datum.specs.RootList.{RootDatum, all_roots, IsLoaded, IsNumber, root_of}
use Rattle.lie_datum.proofs.Roots.{same_root as same_pair, root_lengths, reflected_twice}
use Rattle.lie_datum.proofs.ClosureLemmas.{in_at, in_from_contains, contains_from_in}
use Rattle.lie_datum.proofs.NumberLemmas.{place_within, numbered_at}
use Rattle.lie_datum.proofs.SignedRoots.{one_place, same_place, length-all, root_is}
use Rattle.lie_datum.proofs.SignedRoots.{same_number as same_signed}
use Rattle.lie_datum.proofs.LoadedLaws.{all_only, all_in, all_simple, opposite_root, twice_opposite, short}
use Rattle.lie_letters.specs.Names.{same_root, place_of, RootName, root_at, named, Index, is_index, some_of, right_of, simple_name, opposite_name, reflect_name, signed_number, numbered_name}
use Rattle.lie_letters.specs.Spelled.{IsIndex}

-- vectors that the test finds equal are
pub same_vector-true : (x y : Vector) → same_vector x y ≡ true → x ≡ y
same_vector-true x y e = equal_slices x y ((Equal-is (slice_cmp int_cmp x y)).0 e)

-- a vector is found equal to itself
pub same_vector-self : (x : Vector) → same_vector x x ≡ true
same_vector-self x = ap is_eq (tied_itself slices_total x)

-- roots that the test finds equal are
pub same_root-true : (r s : Root) → same_root r s ≡ true → r ≡ s
same_root-true r s e =
    let p = and_parts (same_vector r.coeffs s.coeffs) (same_vector r.co_coeffs s.co_coeffs) e in
    same_pair r s (same_vector-true r.coeffs s.coeffs p.0) (same_vector-true r.co_coeffs s.co_coeffs p.1)

-- and so is a root
pub same_root-self : (r : Root) → same_root r r ≡ true
same_root-self r = and_from (same_vector r.coeffs r.coeffs) (same_vector r.co_coeffs r.co_coeffs) (same_vector-self r.coeffs) (same_vector-self r.co_coeffs)

-- what stands at the place of a root is the root
place_right : (rs : List Root) (r other : Root) (p : Below (length rs)) → place_of rs r ≡ Some p → get_or rs p.number other ≡ r
place_right [] r other p e = cc
place_right (s ∷ rs) r other p e = by (λ q h. place_right rs r other q h) (same_root s r) refl (place_of rs r) refl e
  where
    by : ((q : Below (length rs)) → place_of rs r ≡ Some q → get_or rs q.number other ≡ r) → (b : Bool) → same_root s r ≡ b → (o : Option (Below (length rs))) → place_of rs r ≡ o
        → cond b (Some (first_place (length rs))) (option_map (next_place (length rs)) o) ≡ Some p → get_or (s ∷ rs) p.number other ≡ r
    by rest true same o h e = let at : first_place (length rs) ≡ p = cc in subst (λ q. get_or (s ∷ rs) q.number other ≡ r) at (same_root-true s r same)
    by rest false same None h e = cc
    by rest false same (Some q) h e =
        let at : next_place (length rs) q ≡ p = cc in
        subst (λ z. get_or (s ∷ rs) z.number other ≡ r) at (rest q h)

-- a member of the list has a place
place_found : (rs : List Root) (r : Root) → In r rs → (p : Below (length rs)) × (place_of rs r ≡ Some p)
place_found [] r h = elim h [ ]
place_found (s ∷ rs) r h = by (place_found rs r) (same_root s r) refl h
  where
    by : (In r rs → (p : Below (length rs)) × (place_of rs r ≡ Some p)) → (b : Bool) → same_root s r ≡ b → In r (s ∷ rs) → (p : Below (suc (length rs))) × (cond b (Some (first_place (length rs))) (option_map (next_place (length rs)) (place_of rs r)) ≡ Some p)
    by rest true same h = (first_place (length rs), refl)
    by rest false same (here e) = absurd (false≢true (sym same ∙ ap (λ x. same_root x r) (sym e) ∙ same_root-self r))
    by rest false same (there h) = let q = rest h in (next_place (length rs) q.0, ap (option_map (next_place (length rs))) q.1)

some_of-is : {A : Type 0} (o : Option A) (t : T (is_some o)) → o ≡ Some (some_of o t)
some_of-is None t = absurd t
some_of-is (Some a) t = refl

abbrev nothing : Root
nothing = record { coeffs = []; co_coeffs = [] }

-- the name of a simple root stands for it
pub simple_at : (d : RootDatum) (i : Index d) → root_at d (simple_name d i) ≡ simple (suc i.number)
unfolding simple_name
simple_at d i =
    let t = right_of (ltb i.number (rank d.base)) (is_some (place_of (all_roots d) (simple (suc i.number)))) i.lawful in
    place_right (all_roots d) (simple (suc i.number)) nothing (some_of (place_of (all_roots d) (simple (suc i.number))) t)
    (some_of-is (place_of (all_roots d) (simple (suc i.number))) t)

-- a simple index, counted from 1, is one of the datum
pub index_is : (d : RootDatum) (i : Index d) → IsSimpleIndex d.base (suc i.number)
index_is d i =
    let l : i.number < rank d.base = ltb_yes (and_yes (ltb i.number (rank d.base)) (is_some (place_of (all_roots d) (simple (suc i.number)))) i.lawful).0 in
    (omega arith, omega (arith, l))

-- simple indices with one number are equal
pub same_index : (d : RootDatum) (i j : Index d) → i.number ≡ j.number → i ≡ j
same_index d i j e =
    let pairs : ◌≡◌ {A = (n : ℕ) × T (is_index d n)} (i.number, i.lawful) (j.number, j.lawful) = Σ_prop_path (λ n. T_prop _) e in
    λ k. record { number = (pairs k).0; lawful = (pairs k).1 }

-- a number whose simple root is a member of the list is that of a simple index
index_at : (d : RootDatum) (k : ℕ) → k < rank d.base → In (simple (suc k)) (all_roots d) → (i : Index d) × (i.number ≡ k)
index_at d k l h =
    let p = place_found (all_roots d) (simple (suc k)) h in
    (record { number = k; lawful = yes_and (ltb k (rank d.base)) (is_some (place_of (all_roots d) (simple (suc k)))) (yes_ltb l) (subst (λ o. T (is_some o)) (sym p.1) tt) }, refl)

-- and the other way round, counted from 1
pub index_of_number : (d : RootDatum) (k : ℕ) → IsIndex d k → (i : Index d) × (suc i.number ≡ k)
index_of_number d zero h = absurd (let l = h.0.0 in omega (arith, l))
index_of_number d (suc k) h =
    let i = index_at d k (let l = h.0.1 in omega (arith, l)) (in_from_contains (all_roots d) (simple (suc k)) h.1) in
    (i.0, ap suc i.1)

-- and a simple index has such a number
pub number_of_index : (d : RootDatum) (i : Index d) → IsIndex d (suc i.number)
number_of_index d i = (
  index_is d i,
  subst (Contains (all_roots d)) (simple_at d i)
      (contains_from_in (all_roots d) (root_at d (simple_name d i)) (in_at (all_roots d) (simple_name d i).number nothing (is_below (length (all_roots d)) (simple_name d i)))),
)

-- ---- signed numbers
-- the number of a name is that of its root
pub record IsNamed (d : RootDatum) (r : RootName d) : Type 0 where
  pub number : IsNumber d (signed_number d r)
  pub root : root_of d (signed_number d r) ≡ root_at d r
  pub place : place (length d.positive) (signed_number d r) ≡ r.number

-- the number of a name
pub named_is : (d : RootDatum) (r : RootName d) → IsNamed d r
unfolding signed_number
named_is d r =
    let l = is_below (length (all_roots d)) r in
    let n = length-all d in
    let at = numbered_at d r.number (omega (arith, l, n)) in
    record { number = at.number; root = sym (at.root nothing); place = at.place }

-- names with one number are equal
pub same_number : (d : RootDatum) (r s : RootName d) → signed_number d r ≡ signed_number d s → r ≡ s
same_number d r s e =
    same_below (length (all_roots d)) r s (sym (named_is d r).place ∙ ap (place (length d.positive)) e ∙ (named_is d s).place)

-- a number of a root has a name
pub name_of_number : (d : RootDatum) (k : ℤ) → IsNumber d k → (r : RootName d) × (signed_number d r ≡ k)
unfolding signed_number
name_of_number d k h =
    let m = length d.positive in
    let w = place_within d k h in
    let n = length-all d in
    let at = numbered_at d (place m k) w.2 in (
      at_number (length (all_roots d)) (place m k) (let l = w.2 in omega (arith, l, n)),
      same_place m (number_at m (place m k)) k (place_within d (number_at m (place m k)) at.number) w at.place,
    )

module _ (d : RootDatum) (loaded : IsLoaded d) where
  -- each number below the rank is that of a simple root
  pub index_of : (k : ℕ) → k < rank d.base → (i : Index d) × (i.number ≡ k)
  index_of k h = index_at d k h (all_in d loaded (simple (suc k)) (is_simple (suc k) (omega arith, omega (arith, h))))

  -- a name stands for a root
  pub at_root : (r : RootName d) → IsRoot d.base (root_at d r)
  at_root r = all_only d loaded (root_at d r) (in_at (all_roots d) r.number nothing (is_below (length (all_roots d)) r))

  -- names that stand for one root are equal
  pub same_name : (r s : RootName d) → root_at d r ≡ root_at d s → r ≡ s
  same_name r s e =
      same_below (length (all_roots d)) r s
      (one_place (all_roots d) r.number s.number nothing (all_simple d loaded) (is_below (length (all_roots d)) r) (is_below (length (all_roots d)) s) e)

  -- the name of a root stands for it
  pub named-at : (other : RootName d) (r : Root) → IsRoot d.base r → root_at d (named d other r) ≡ r
  named-at other r h =
      let p = place_found (all_roots d) r (all_in d loaded r h) in
      ap (λ o. root_at d (unwrap_or o other)) p.1 ∙ place_right (all_roots d) r nothing p.0 p.1

  -- the root of a number
  pub numbered_at-root : (other : RootName d) (k : ℤ) → IsNumber d k → root_at d (numbered_name d other k) ≡ root_of d k
  unfolding numbered_name
  numbered_at-root other k h = named-at other (root_of d k) (root_is d loaded k h)

  -- and its number
  pub signed_number-numbered : (other : RootName d) (k : ℤ) → IsNumber d k → signed_number d (numbered_name d other k) ≡ k
  signed_number-numbered other k h =
      let at = named_is d (numbered_name d other k) in
      same_signed d loaded (signed_number d (numbered_name d other k)) k at.number h (at.root ∙ numbered_at-root other k h)

  -- the opposite name stands for the opposite root
  pub opposite_at : (r : RootName d) → root_at d (opposite_name d r) ≡ opposite (root_at d r)
  unfolding opposite_name
  opposite_at r = named-at r (opposite (root_at d r)) (opposite_root d loaded (root_at d r) (at_root r))

  -- the reflected name stands for the reflected root
  pub reflect_at : (i : Index d) (r : RootName d) → root_at d (reflect_name d i r) ≡ reflected d.base (suc i.number) (root_at d r)
  unfolding reflect_name
  reflect_at i r = named-at r (reflected d.base (suc i.number) (root_at d r)) (is_reflected (suc i.number) (root_at d r) (index_is d i) (at_root r))

  -- the opposite of the opposite
  pub opposite_twice : (r : RootName d) → opposite_name d (opposite_name d r) ≡ r
  opposite_twice r =
      same_name (opposite_name d (opposite_name d r)) r
      (opposite_at (opposite_name d r) ∙ ap opposite (opposite_at r) ∙ twice_opposite (root_at d r))

  -- a simple reflection twice
  pub reflect_twice : (i : Index d) (r : RootName d) → reflect_name d i (reflect_name d i r) ≡ r
  reflect_twice i r =
      same_name (reflect_name d i (reflect_name d i r)) r
      (reflect_at i (reflect_name d i r) ∙ ap (reflected d.base (suc i.number)) (reflect_at i r)
      ∙ reflected_twice d.base (short d loaded) loaded.axioms.input.corank loaded.axioms.twos (suc i.number) (root_at d r) (index_is d i)
      (root_lengths d.base (short d loaded) loaded.axioms.input.corank (root_at d r) (at_root r)))
