-- How the positive roots are picked and sorted, and the greatest mixed vector found.
use Rattle.std.proofs.Common.{◌≡◌, ◌≢◌, ℕ, ◌+◌, ◌<◌, pos, Bool, false, List, [], ◌∷◌, ◌++◌, length, get_or, map, refl, sym, ap, subst, ◌∙◌, arith, ◌⊎◌, ⊎_elim, length-append, Option, None, Some, Result, Ok, Err, IfOk}
use Rattle.std.proofs.lemmas.List.{get_or_append_left, get_or-append-add}
use Rattle.std.proofs.Math.ListN.{length-map, get_or-map}
use Rattle.std.proofs.lemmas.List.Sorted.{IsPermutation-map, IsPermutation-sym, Contains-permutation, All-permutation}
use Rattle.std.proofs.lemmas.Map.Keys.{IsDistinct-from_apart, IsDistinct-IsPermutation, apart_from_distinct, sorted_from_all_adjacent}
use Rattle.std.specs.List.{All, Contains, IsDistinct}
use Rattle.std.specs.List.Sorted.{IsPermutation, IsSorted, IsStrictlySortedBy}
use Rattle.std.specs.Ordering.{int_cmp, eq_by_cmp, is_eq, is_lt, ordering_reverse, ordering_then}
use Rattle.std.specs.Cmp.Lexicographic.{slice_cmp}
use Rattle.std.specs.declared.cmp.Ordering.{Ordering}
use Rattle.std.specs.declared.cmp.Ordering.TheVariants.{Less, Equal, Greater}
use Rattle.lie_datum.specs.declared.listing.Ranked.{Ranked}
use Rattle.lie_datum.specs.Vectors.{Vector}
use Rattle.lie_datum.specs.RootDatum.{Base, Root, IsPositive, IsMixed, IsUnmixed, IsFinite, IsSmall}
use Rattle.lie_datum.specs.RootList.{root_cmp, height, IsPositiveList}
use Rattle.lie_datum.specs.Closure.{IsDistinctList, ListsRoots}
use Rattle.lie_datum.specs.Load.{IsGreatestMixed}
use Rattle.lie_datum.specs.Listing.{IsPicked, IsRanked, ranked_root, IsGreatestMixedIn, IsGreatestMixedOf}
use Rattle.lie_datum.proofs.Roots.{same_root}
use Rattle.lie_datum.proofs.ClosureLemmas.{contains_from_in, in_at, in_last, roots_push, distinct_push, Contains-append}
use Rattle.lie_datum.proofs.RootOrder.{root_total, slices_total, equal_slices, not_above}
use Rattle.std.proofs.lemmas.Cmp.{tied_itself}

-- a front of a list without repeats
pub distinct_front : (xs : List Root) (x : Root) → IsDistinctList (xs ++ x ∷ []) → IsDistinctList xs × (¬ Contains xs x)
distinct_front xs x h = (
  (λ j k d l m e. h j k d l (omega (arith, m, length-append xs (x ∷ []))) (get_or_append_left xs (x ∷ []) d j (omega (arith, l, m)) ∙ e ∙ sym (get_or_append_left xs (x ∷ []) d k m))),
  λ c. (let low = c.1 in
      h c.0 (length xs + 0) x (omega (arith, low)) (omega (arith, length-append xs (x ∷ []))) (get_or_append_left xs (x ∷ []) x c.0 low ∙ c.2 ∙ sym (get_or-append-add xs (x ∷ []) 0 x))),
)

-- ---- picking
module _ (P : Root → Type 0) where
  -- at the start, one member that is picked, and one that isn't
  pub picked_none : IsPicked P [] []
  picked_none = record { only = λ r c. absurd (let l = c.1 in omega (arith, l)); every = λ r c p. c; once = λ h. h }

  pub picked_more : (xs ys : List Root) (x : Root) → IsPicked P xs ys → P x → IsPicked P (xs ++ x ∷ []) (ys ++ x ∷ [])
  picked_more xs ys x h p = record {
    only = roots_push (λ r. Contains (xs ++ x ∷ []) r × P r) ys x (λ r c. (let o = h.only r c in (Contains-append xs (x ∷ []) r o.0, o.1))) (contains_from_in (xs ++ x ∷ []) x (in_last xs x), p);
    every = roots_push (λ r. P r → Contains (ys ++ x ∷ []) r) xs x (λ r c q. Contains-append ys (x ∷ []) r (h.every r c q)) (λ q. contains_from_in (ys ++ x ∷ []) x (in_last ys x));
    once = λ d. (let f = distinct_front xs x d in distinct_push ys x (h.once f.0) (λ c. f.1 (h.only x c).0));
  }

  pub picked_same : (xs ys : List Root) (x : Root) → IsPicked P xs ys → ¬ P x → IsPicked P (xs ++ x ∷ []) ys
  picked_same xs ys x h n = record {
    only = λ r c. (let o = h.only r c in (Contains-append xs (x ∷ []) r o.0, o.1));
    every = roots_push (λ r. P r → Contains ys r) xs x h.every (λ q. absurd (n q));
    once = λ d. h.once (distinct_front xs x d).0;
  }

-- ---- sorting
-- roots that tie are equal
equal_order : (r s : Root) → root_cmp r s ≡ Equal → r ≡ s
equal_order r s e = first (int_cmp (height r) (height s)) e
  where
    last : slice_cmp int_cmp s.coeffs r.coeffs ≡ Equal → slice_cmp int_cmp s.co_coeffs r.co_coeffs ≡ Equal → r ≡ s
    last p q = same_root r s (sym (equal_slices s.coeffs r.coeffs p)) (sym (equal_slices s.co_coeffs r.co_coeffs q))

    second : (o : Ordering) → slice_cmp int_cmp s.coeffs r.coeffs ≡ o → ordering_then o (slice_cmp int_cmp s.co_coeffs r.co_coeffs) ≡ Equal → r ≡ s
    second Less p q = cc
    second Equal p q = last p q
    second Greater p q = cc

    first : (o : Ordering) → ordering_then o (ordering_then (slice_cmp int_cmp s.coeffs r.coeffs) (slice_cmp int_cmp s.co_coeffs r.co_coeffs)) ≡ Equal → r ≡ s
    first Less p = cc
    first Equal p = second (slice_cmp int_cmp s.coeffs r.coeffs) refl p
    first Greater p = cc

abbrev ties : Root → Root → Bool
ties = eq_by_cmp root_cmp

-- ties go both ways
flips : (r s : Root) → ties r s ≡ ties s r
flips r s = ap is_eq (root_total.antisymm r s) ∙ back (root_cmp s r)
  where
    back : (o : Ordering) → is_eq (ordering_reverse o) ≡ is_eq o
    back Less = refl
    back Equal = refl
    back Greater = refl

-- different roots do not tie
apart_list : (xs : List Root) → IsDistinctList xs → IsDistinct ties xs
apart_list xs h = IsDistinct-from_apart ties xs (λ i j d l m. by (get_or xs i d) (get_or xs j d) (root_cmp (get_or xs i d) (get_or xs j d)) refl (h i j d l m))
  where
    by : (r s : Root) (o : Ordering) → root_cmp r s ≡ o → ¬ (r ≡ s) → ties r s ≡ false
    by r s Less e n = ap is_eq e
    by r s Equal e n = absurd (n (equal_order r s e))
    by r s Greater e n = ap is_eq e

-- neighbours that do not fall and do not tie rise
rising : (r s : Root) → ties r s ≡ false → is_lt (root_cmp s r) ≡ false → root_cmp r s ≡ Less
rising r s n f = by (root_cmp s r) refl n f
  where
    by : (o : Ordering) → root_cmp s r ≡ o → ties r s ≡ false → is_lt o ≡ false → root_cmp r s ≡ Less
    by Less e n f = cc
    by Equal e n f = let h = flips r s ∙ ap is_eq e in cc
    by Greater e n f = root_total.antisymm r s ∙ ap ordering_reverse e

module _ (cmp : Ranked → Ranked → Ordering) (is : (x y : Ranked) → IsRanked x → IsRanked y → cmp x y ≡ root_cmp (ranked_root x) (ranked_root y)) where
  -- sorted by height and root, and no root twice: in the strict order of roots
  sorted_roots : (xs ys : List Ranked) → IsPermutation xs ys → IsSorted cmp ys → All IsRanked xs → IsDistinctList (map ranked_root xs) → IsStrictlySortedBy root_cmp (map ranked_root ys)
  sorted_roots xs ys p s ranks once =
      sorted_from_all_adjacent root_total (map ranked_root ys) (record { coeffs = []; co_coeffs = [] }) less
    where
      ranks' : All IsRanked ys
      ranks' = All-permutation IsRanked xs ys p ranks

      apart : IsDistinct ties (map ranked_root ys)
      apart = IsDistinct-IsPermutation ties flips (map ranked_root xs) (map ranked_root ys) (IsPermutation-map ranked_root xs ys p) (apart_list (map ranked_root xs) once)

      none : Ranked
      none = record { height = pos 0; root = record { 0 = record { coeffs = []; co_coeffs = [] } } }

      less : (k : ℕ) → k + 1 < length (map ranked_root ys) → root_cmp (get_or (map ranked_root ys) k (record { coeffs = []; co_coeffs = [] })) (get_or (map ranked_root ys) (k + 1) (record { coeffs = []; co_coeffs = [] })) ≡ Less
      less k l =
          let m : k + 1 < length ys = omega (arith, l, length-map ys ranked_root) in
          let a = get_or-map ranked_root ys k none in
          let b = get_or-map ranked_root ys (k + 1) none in
          let x = get_or ys k none in
          let y = get_or ys (k + 1) none in
          let t = apart_from_distinct ties (map ranked_root ys) k (k + 1) (record { coeffs = []; co_coeffs = [] }) apart (omega arith) l in
          let f = s k none (omega arith) m in
          let rx = ranks' k none (omega (arith, m)) in
          let ry = ranks' (k + 1) none m in
          rw (a, b) (rising (ranked_root x) (ranked_root y) (rw (a, b) at t) (ap is_lt (sym (is y x ry rx)) ∙ f))

  -- and the members are the positive roots of the closure
  sorted_list : (b : Base) (rs : List Root) (xs ys : List Ranked) → ListsRoots b rs → IsPicked IsPositive rs (map ranked_root xs) → All IsRanked xs → IsPermutation xs ys → IsSorted cmp ys → IsPositiveList b (map ranked_root ys)
  sorted_list b rs xs ys h pick ranks p s = record {
    sorted = sorted_roots xs ys p s ranks (pick.once h.closing.distinct);
    roots = λ r. (
      (λ c. (let o = pick.only r (Contains-permutation (map ranked_root ys) (map ranked_root xs) r (IsPermutation-sym (map ranked_root xs) (map ranked_root ys) moved) c) in ((h.roots r).0 o.0, o.1))),
      λ q. Contains-permutation (map ranked_root xs) (map ranked_root ys) r moved (pick.every r ((h.roots r).1 q.0) q.1),
    );
  }
    where
      moved : IsPermutation (map ranked_root xs) (map ranked_root ys)
      moved = IsPermutation-map ranked_root xs ys p

-- the code's comparison: by height, and then the other way round by the root
abbrev pub ranked_cmp : Ranked → Ranked → Ordering
ranked_cmp x y = ordering_then (int_cmp x.height y.height) (ordering_then (slice_cmp int_cmp y.root.0.coeffs x.root.0.coeffs) (slice_cmp int_cmp y.root.0.co_coeffs x.root.0.co_coeffs))

-- it is the order of roots
ranked_is : (x y : Ranked) → IsRanked x → IsRanked y → ranked_cmp x y ≡ root_cmp (ranked_root x) (ranked_root y)
ranked_is x y p q =
    let rest = ordering_then (slice_cmp int_cmp y.root.0.coeffs x.root.0.coeffs) (slice_cmp int_cmp y.root.0.co_coeffs x.root.0.co_coeffs) in
    ap (λ t. ordering_then (int_cmp t y.height) rest) p ∙ ap (λ t. ordering_then (int_cmp (height x.root.0) t) rest) q

-- the sorted list of what was picked is the list of positive roots
pub positive_list : (b : Base) (rs : List Root) (xs ys zs : List Ranked) (ts : List Root) → ListsRoots b rs → IsPicked IsPositive rs (map ranked_root xs) → All IsRanked xs → IsPermutation xs ys → IsSorted ranked_cmp ys → zs ≡ ys → ts ≡ map ranked_root zs → IsPositiveList b ts
positive_list b rs xs ys zs ts h pick ranks p s e f = subst (IsPositiveList b) (sym (f ∙ ap (map ranked_root) e)) (sorted_list ranked_cmp ranked_is b rs xs ys h pick ranks p s)

-- ---- the greatest mixed vector
-- at the start, a root that isn't mixed, the first that is, and one more
pub no_mixed : IsGreatestMixedOf [] None
no_mixed r c = absurd (let l = c.1 in omega (arith, l))

pub mixed_same : (rs : List Root) (o : Option Vector) (x : Root) → IsGreatestMixedOf rs o → ¬ IsMixed x → IsGreatestMixedOf (rs ++ x ∷ []) o
mixed_same rs None x h n = roots_push (λ r. ¬ IsMixed r) rs x h n
mixed_same rs (Some v) x h n = record {
  some = (h.some.0, Contains-append rs (x ∷ []) h.some.0 h.some.1, h.some.2, h.some.3);
  greatest = roots_push (λ r. IsMixed r → slice_cmp int_cmp r.coeffs v ≢ Greater) rs x h.greatest (λ m. absurd (n m));
}

pub mixed_first : (rs : List Root) (x : Root) → IsGreatestMixedOf rs None → IsMixed x → IsGreatestMixedOf (rs ++ x ∷ []) (Some x.coeffs)
mixed_first rs x h m = record {
  some = (x, contains_from_in (rs ++ x ∷ []) x (in_last rs x), m, refl);
  greatest = roots_push (λ r. IsMixed r → slice_cmp int_cmp r.coeffs x.coeffs ≢ Greater) rs x (λ r c q. absurd (h r c q)) (λ q e. (let f = tied_itself slices_total x.coeffs in cc));
}

pub mixed_more : (rs : List Root) (v w : Vector) (x : Root) → IsGreatestMixedOf rs (Some v) → IsMixed x → (w ≡ v) ⊎ (w ≡ x.coeffs) → slice_cmp int_cmp v w ≢ Greater → slice_cmp int_cmp x.coeffs w ≢ Greater → IsGreatestMixedOf (rs ++ x ∷ []) (Some w)
mixed_more rs v w x h m one p q = record {
  some = ⊎_elim (λ e. (h.some.0, Contains-append rs (x ∷ []) h.some.0 h.some.1, h.some.2, h.some.3 ∙ sym e)) (λ e. (x, contains_from_in (rs ++ x ∷ []) x (in_last rs x), m, sym e)) one;
  greatest = roots_push (λ r. IsMixed r → slice_cmp int_cmp r.coeffs w ≢ Greater) rs x (λ r c k. not_above r.coeffs v w (h.greatest r c k) p) (λ k. q);
}

-- what the code's comparison says
pub above_is_not : (v w : Vector) → slice_cmp int_cmp v w ≡ Greater → slice_cmp int_cmp w v ≢ Greater
above_is_not v w e f = let g = slices_total.antisymm w v ∙ ap ordering_reverse e in cc

pub not_itself : (v : Vector) → slice_cmp int_cmp v v ≢ Greater
not_itself v e = let f = tied_itself slices_total v in cc

-- the closure is few and small
pub finite_closure : (b : Base) (rs : List Root) → ListsRoots b rs → IsFinite b
finite_closure b rs h = record { count = (rs, h.closing.short, λ r p. (h.roots r).1 p); small = λ r p. (h.closing.roots r ((h.roots r).1 p)).1 }

-- its roots are small
pub small_closure : (b : Base) (rs : List Root) → ListsRoots b rs → All IsSmall rs
small_closure b rs h k d l = (h.closing.roots (get_or rs k d) (contains_from_in rs (get_or rs k d) (in_at rs k d l))).1

-- a clause on `Ok` that follows from another
pub ok_map : {A E : Type 0} (P Q : A → Type 0) → ((x : A) → P x → Q x) → (r : Result A E) → IfOk r P → IfOk r Q
ok_map P Q f (Ok x) h = f x h
ok_map P Q f (Err e) h = tt

-- what holds of the list holds of the roots
pub unmixed_closure : (b : Base) (rs : List Root) → ListsRoots b rs → ((r : Root) → Contains rs r → ¬ IsMixed r) → IsUnmixed b
unmixed_closure b rs h n r p = n r ((h.roots r).1 p)

pub greatest_closure : (b : Base) (rs : List Root) (v : Vector) → ListsRoots b rs → IsGreatestMixedIn rs v → IsGreatestMixed b v
greatest_closure b rs v h g = record {
  some = (g.some.0, (h.roots g.some.0).0 g.some.1, g.some.2, g.some.3);
  greatest = λ r p m. g.greatest r ((h.roots r).1 p) m;
}
