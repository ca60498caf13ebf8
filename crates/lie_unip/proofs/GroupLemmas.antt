-- The roots in an order: the numbers, or those of a first group and then the others.
use Rattle.std.proofs.Common.{◌≡◌, ◌≢◌, ℕ, zero, suc, ◌<◌, ◌≤◌, ◌+◌, ◌-◌, ◌⊎◌, inl, inr, Bool, true, false, cond, not, List, [], ◌∷◌, ◌++◌, length, take, get_or, set, refl, sym, ap, ap₂, ◌∙◌, subst, arith, append_assoc}
use mathlib.Core.Bool.{beq}
use Rattle.std.proofs.lemmas.Bool.Decides.{nat_tests}
use Rattle.std.proofs.lemmas.List.{take_more, length-take-le, length-append, get_or-append-add, get_or_append_left, get_or-set_same, get_or-set_other}
use Rattle.std.proofs.lemmas.List.FromFn.{length-range_with_len, get_or-range_with_len}
use Rattle.std.specs.Prelude.{nat_lt, IsTrue}
use Rattle.std.specs.List.{range_with_len}
use Rattle.lie_letters.specs.RingLetters.{CommutatorTerm}
use Rattle.lie_unip.specs.Splitting.{kept_first, kept_at}
use Rattle.lie_letters.specs.PositiveTerms.{positive_terms}
use Rattle.lie_ring.specs.Rings.{RingOn, Fits}
use Rattle.lie_const.specs.ConstantTables.{ConstantTable}
use Rattle.lie_unip.specs.Collection.{AreCollectable}
use Rattle.lie_unip.proofs.OrderedLemmas.{roots_at}
use Rattle.lie_unip.specs.Placing.{BeforeRoots, AreSorted, AreRoots, NoneKept, StayApart, group_from, IsCollector}

-- ---- the numbers in order
before_numbers : (r s n : ℕ) → r < s → BeforeRoots nat_lt r (range_with_len s n)
before_numbers r s zero h = tt
before_numbers r s (suc n) h = (grind (arith, nat_tests), before_numbers r (s + 1) n (omega (arith, h)))

-- the numbers stand in order where no root is kept
pub numbers_sorted : (s n : ℕ) → AreSorted (kept_first (kept_at [])) (range_with_len s n)
numbers_sorted s zero = tt
numbers_sorted s (suc n) = (before_numbers s (s + 1) n (omega arith), numbers_sorted (s + 1) n)

-- the numbers up to m are those of roots
pub numbers_are_roots : (m s n : ℕ) → 1 ≤ s → s + n ≤ suc m → AreRoots m (range_with_len s n)
numbers_are_roots m s zero low h = tt
numbers_are_roots m s (suc n) low h = (low, omega (arith, h), numbers_are_roots m (s + 1) n (omega (arith, low)) (omega (arith, h)))

none_is_kept : (cs : List CommutatorTerm) → NoneKept (kept_at []) cs
none_is_kept [] = tt
none_is_kept (c ∷ cs) = (refl, none_is_kept cs)

-- where no root is kept, no term is
pub numbers_apart : (m : ℕ) (terms : ℕ → ℕ → List CommutatorTerm) → StayApart m terms (kept_at [])
numbers_apart m terms r s low below high e f = none_is_kept (terms r s)

-- the place of k in the order of the numbers is k - 1
pub numbers_placed : (m k : ℕ) → 1 ≤ k → k ≤ m
    → (get_or (range_with_len 0 m) (k - 1) 0 < length (range_with_len 1 m)) × (get_or (range_with_len 1 m) (get_or (range_with_len 0 m) (k - 1) 0) 0 ≡ k)
numbers_placed m k low high =
    let inside : k - 1 < m = omega (arith, low, high) in
    let place = get_or-range_with_len 0 m (k - 1) 0 inside in
    let long = length-range_with_len 1 m in (
      omega (arith, place, long, inside),
      ap (λ n. get_or (range_with_len 1 m) n 0) (place ∙ omega arith) ∙ get_or-range_with_len 1 m (k - 1) 0 inside ∙ omega (arith, low),
    )

-- ---- a group of the roots
module _ (first : Bool) where
  -- one root more
  pub group_more : (s k : ℕ) (bs : List Bool) → k < length bs
      → group_from first s (take (k + 1) bs) ≡ group_from first s (take k bs) ++ cond (cond first (get_or bs k false) (not (get_or bs k false))) ((s + k) ∷ []) []
  group_more s k bs h = ap (group_from first s) (take_more bs k false h) ∙ at_end s k (take k bs) (get_or bs k false) (length-take-le k bs (omega (arith, h)))
    where
      at_end : (s k : ℕ) (cs : List Bool) (b : Bool) → length cs ≡ k → group_from first s (cs ++ b ∷ []) ≡ group_from first s cs ++ cond (cond first b (not b)) ((s + k) ∷ []) []
      at_end s k [] b e = let z : s ≡ s + k = omega (arith, e) in ap (λ n. cond (cond first b (not b)) (n ∷ []) []) z
      at_end s k (c ∷ cs) b e =
          let rest = at_end (s + 1) (length cs) cs b refl in
          let z : s + 1 + length cs ≡ s + k = omega (arith, e) in
          by (cond first c (not c)) (rest ∙ ap (λ n. group_from first (s + 1) cs ++ cond (cond first b (not b)) (n ∷ []) []) z)
        where
          by : (t : Bool) → group_from first (s + 1) (cs ++ b ∷ []) ≡ group_from first (s + 1) cs ++ cond (cond first b (not b)) ((s + k) ∷ []) []
              → cond t (s ∷ group_from first (s + 1) (cs ++ b ∷ [])) (group_from first (s + 1) (cs ++ b ∷ []))
              ≡ cond t (s ∷ group_from first (s + 1) cs) (group_from first (s + 1) cs) ++ cond (cond first b (not b)) ((s + k) ∷ []) []
          by true r = ap (λ l. s ∷ l) r
          by false r = r

  module _ (kept : ℕ → Bool) where
    -- each root of the list is of the group, and from s on
    abbrev pub OfGroup : ℕ → List ℕ → Type 0
    OfGroup s [] = Unit {0}
    OfGroup s (k ∷ ks) = (s ≤ k) × (kept k ≡ first) × OfGroup s ks

    from_less : (s s' : ℕ) (ks : List ℕ) → s ≤ s' → OfGroup s' ks → OfGroup s ks
    from_less s s' [] h g = tt
    from_less s s' (k ∷ ks) h g = let l = g.0 in (omega (arith, h, l), g.1, from_less s s' ks h g.2)

    -- the list says of each root whether it is kept
    abbrev pub Says : ℕ → List Bool → Type 0
    Says s [] = Unit {0}
    Says s (b ∷ bs) = (b ≡ kept s) × Says (s + 1) bs

    member_is : (b : Bool) → cond first b (not b) ≡ true → b ≡ first
    member_is b e = by first b e
      where
        by : (f b : Bool) → cond f b (not b) ≡ true → b ≡ f
        by true b e = e
        by false true e = absurd (cc)
        by false false e = refl

    -- the roots of a group are of the group
    pub in_group : (s : ℕ) (bs : List Bool) → Says s bs → OfGroup s (group_from first s bs)
    in_group s [] a = tt
    in_group s (b ∷ bs) a = by (cond first b (not b)) refl (from_less s (s + 1) (group_from first (s + 1) bs) (omega arith) (in_group (s + 1) bs a.1))
      where
        by : (t : Bool) → cond first b (not b) ≡ t → OfGroup s (group_from first (s + 1) bs) → OfGroup s (cond t (s ∷ group_from first (s + 1) bs) (group_from first (s + 1) bs))
        by true e g = (omega arith, sym a.0 ∙ member_is b e, g)
        by false e g = g

    before_group : (r s : ℕ) (ks : List ℕ) → r < s → kept r ≡ first → OfGroup s ks → BeforeRoots (kept_first kept) r ks
    before_group r s [] h e g = tt
    before_group r s (k ∷ ks) h e g = let l = g.0 in (by (kept r) (kept k) (e ∙ sym g.1) (omega (arith, h, l)), before_group r s ks h e g.2)
      where
        by : (a b : Bool) → a ≡ b → r < k → cond a (cond b (nat_lt r k) true) (cond b false (nat_lt r k)) ≡ true
        by true true e h = grind (arith, nat_tests)
        by true false e h = absurd (cc)
        by false true e h = absurd (cc)
        by false false e h = grind (arith, nat_tests)

    -- the roots of a group stand in order
    pub sorted_group : (s : ℕ) (bs : List Bool) → Says s bs → AreSorted (kept_first kept) (group_from first s bs)
    sorted_group s [] a = tt
    sorted_group s (b ∷ bs) a = by (cond first b (not b)) refl (sorted_group (s + 1) bs a.1)
      where
        by : (t : Bool) → cond first b (not b) ≡ t → AreSorted (kept_first kept) (group_from first (s + 1) bs)
            → AreSorted (kept_first kept) (cond t (s ∷ group_from first (s + 1) bs) (group_from first (s + 1) bs))
        by true e g = (before_group s (s + 1) (group_from first (s + 1) bs) (omega arith) (sym a.0 ∙ member_is b e) (in_group (s + 1) bs a.1), g)
        by false e g = g

  -- the roots of a group are among the first m
  pub roots_group : (m s : ℕ) (bs : List Bool) → 1 ≤ s → s + length bs ≤ suc m → AreRoots m (group_from first s bs)
  roots_group m s [] low h = tt
  roots_group m s (b ∷ bs) low h = by (cond first b (not b)) (roots_group m (s + 1) bs (omega (arith, low)) (omega (arith, h)))
    where
      by : (t : Bool) → AreRoots m (group_from first (s + 1) bs) → AreRoots m (cond t (s ∷ group_from first (s + 1) bs) (group_from first (s + 1) bs))
      by true g = (low, omega (arith, h), g)
      by false g = g

  -- each root of the group is in the list
  abbrev pub IsAt : ℕ → List ℕ → Type 0
  IsAt k ks = (q : ℕ) × (q < length ks) × (get_or ks q 0 ≡ k)

  has_group : (s j : ℕ) (bs : List Bool) → j < length bs → cond first (get_or bs j false) (not (get_or bs j false)) ≡ true → IsAt (s + j) (group_from first s bs)
  has_group s j [] h e = absurd (omega (arith, h))
  has_group s zero (b ∷ bs) h e = subst (λ t. IsAt (s + 0) (cond t (s ∷ group_from first (s + 1) bs) (group_from first (s + 1) bs))) (sym e) (0, omega arith, omega arith)
  has_group s (suc j) (b ∷ bs) h e =
      let rest = has_group (s + 1) j bs (omega (arith, h)) e in
      by (cond first b (not b)) (rest.0, rest.1, rest.2 ∙ omega arith)
    where
      by : (t : Bool) → IsAt (s + suc j) (group_from first (s + 1) bs) → IsAt (s + suc j) (cond t (s ∷ group_from first (s + 1) bs) (group_from first (s + 1) bs))
      by true r = let l = r.1 in (suc r.0, omega (arith, l), r.2)
      by false r = r

-- ---- both groups
roots_append : (m : ℕ) (ks ls : List ℕ) → AreRoots m ks → AreRoots m ls → AreRoots m (ks ++ ls)
roots_append m [] ls p q = q
roots_append m (k ∷ ks) ls p q = (p.0, p.1, roots_append m ks ls p.2 q)

module _ (bs : List Bool) where
  says : (s : ℕ) (cs : List Bool) → ((j : ℕ) → j < length cs → get_or cs j false ≡ kept_at bs (s + j)) → Says true (kept_at bs) s cs
  says s [] h = tt
  says s (c ∷ cs) h =
      let z : s + 0 ≡ s = omega arith in (
        h 0 (omega arith) ∙ ap (kept_at bs) z,
        says (s + 1) cs (λ j l. (let z : s + suc j ≡ s + 1 + j = omega arith in h (suc j) (omega (arith, l)) ∙ ap (kept_at bs) z)),
      )

  says_all : Says true (kept_at bs) 1 bs
  says_all = says 1 bs (λ j l. (let z : j ≡ 1 + j - 1 = omega arith in ap (λ n. get_or bs n false) z))

  says_either : (s : ℕ) (cs : List Bool) → Says true (kept_at bs) s cs → Says false (kept_at bs) s cs
  says_either s [] h = tt
  says_either s (c ∷ cs) h = (h.0, says_either (s + 1) cs h.1)

  before_others : (r s : ℕ) (ls : List ℕ) → kept_at bs r ≡ true → OfGroup false (kept_at bs) s ls → BeforeRoots (kept_first (kept_at bs)) r ls
  before_others r s [] e g = tt
  before_others r s (k ∷ ls) e g = (by (kept_at bs r) (kept_at bs k) e g.1, before_others r s ls e g.2)
    where
      by : (a b : Bool) → a ≡ true → b ≡ false → cond a (cond b (nat_lt r k) true) (cond b false (nat_lt r k)) ≡ true
      by true true e f = absurd (cc)
      by true false e f = refl
      by false b e f = absurd (cc)

  before_append : (r : ℕ) (ks ls : List ℕ) → BeforeRoots (kept_first (kept_at bs)) r ks → BeforeRoots (kept_first (kept_at bs)) r ls → BeforeRoots (kept_first (kept_at bs)) r (ks ++ ls)
  before_append r [] ls p q = q
  before_append r (k ∷ ks) ls p q = (p.0, before_append r ks ls p.1 q)

  sorted_append : (s : ℕ) (ks ls : List ℕ) → OfGroup true (kept_at bs) s ks → OfGroup false (kept_at bs) s ls → AreSorted (kept_first (kept_at bs)) ks → AreSorted (kept_first (kept_at bs)) ls
      → AreSorted (kept_first (kept_at bs)) (ks ++ ls)
  sorted_append s [] ls f g p q = q
  sorted_append s (k ∷ ks) ls f g p q = (before_append k ks ls p.0 (before_others k s ls f.1 g), sorted_append s ks ls f.2 g p.1 q)

  abbrev pub both_groups : List ℕ
  both_groups = group_from true 1 bs ++ group_from false 1 bs

  -- the roots that are kept, and then the others, stand in the order
  pub groups_sorted : AreSorted (kept_first (kept_at bs)) both_groups
  groups_sorted =
      sorted_append 1 (group_from true 1 bs) (group_from false 1 bs)
      (in_group true (kept_at bs) 1 bs says_all) (in_group false (kept_at bs) 1 bs (says_either 1 bs says_all))
      (sorted_group true (kept_at bs) 1 bs says_all) (sorted_group false (kept_at bs) 1 bs (says_either 1 bs says_all))

  -- the roots of both groups are among the first m
  pub groups_are_roots : (m : ℕ) → length bs ≡ m → AreRoots m both_groups
  groups_are_roots m e = roots_append m (group_from true 1 bs) (group_from false 1 bs) (roots_group true m 1 bs (omega arith) (omega (arith, e))) (roots_group false m 1 bs (omega arith) (omega (arith, e)))

  -- each root has a place
  pub groups_have : (k : ℕ) → 1 ≤ k → k ≤ length bs → (q : ℕ) × (q < length both_groups) × (get_or both_groups q 0 ≡ k)
  groups_have k low high = by (get_or bs (k - 1) false) refl
    where
      root : 1 + (k - 1) ≡ k
      root = omega (arith, low)

      by : (b : Bool) → get_or bs (k - 1) false ≡ b → (q : ℕ) × (q < length both_groups) × (get_or both_groups q 0 ≡ k)
      by true e =
          let at = has_group true 1 (k - 1) bs (omega (arith, low, high)) e in
          let l = at.1 in
          let long = length-append (group_from true 1 bs) (group_from false 1 bs) in
          (at.0, omega (arith, l, long), get_or_append_left (group_from true 1 bs) (group_from false 1 bs) 0 at.0 l ∙ at.2 ∙ root)
      by false e =
          let at = has_group false 1 (k - 1) bs (omega (arith, low, high)) (ap not e) in
          let l = at.1 in
          let long = length-append (group_from true 1 bs) (group_from false 1 bs) in
          (length (group_from true 1 bs) + at.0, omega (arith, l, long), get_or-append-add (group_from true 1 bs) (group_from false 1 bs) at.0 0 ∙ at.2 ∙ root)

-- ---- collectors
-- one for the order of the numbers
pub collector_in_order : {A : Type 0} (R : RingOn A) (z : A) (t : ConstantTable) (kept : List Bool) (roots places : List ℕ) → IsTrue R.roomy → z ≡ R.zero → Fits R z → t.positive ≤ 120
    → AreCollectable t.positive (positive_terms t) → kept ≡ [] → roots ≡ range_with_len 1 t.positive → places ≡ range_with_len 0 t.positive → IsCollector R z t kept roots places
collector_in_order R z t kept roots places roomy is fits bound collectable none e f =
    let m = t.positive in
    subst (λ k. IsCollector R z t k roots places) (sym none)
    (subst (λ k. IsCollector R z t [] k places) (sym e)
    (subst (λ k. IsCollector R z t [] (range_with_len 1 m) k) (sym f)
    (record {
      roomy = roomy;
      zero_is = is;
      zero_fits = fits;
      bound = bound;
      count = length-range_with_len 0 m;
      collectable = collectable;
      apart = numbers_apart m (positive_terms t);
      sorted = numbers_sorted 1 m;
      within = numbers_are_roots m 1 m (omega arith) (omega arith);
      placed = numbers_placed m;
    })))

-- a list of places, one place more
pub places_more : (roots places : List ℕ) (m p : ℕ) → AreRoots m roots → ((j i : ℕ) → j < i → i < length roots → get_or roots j 0 ≢ get_or roots i 0) → p < length roots → length places ≡ m
    → ((q : ℕ) → q < p → get_or places (get_or roots q 0 - 1) 0 ≡ q) → (q : ℕ) → q < p + 1 → get_or (set places (get_or roots p 0 - 1) p) (get_or roots q 0 - 1) 0 ≡ q
places_more roots places m p within different inside count known q l = by (side q l)
  where
    side : (q : ℕ) → q < p + 1 → (q ≡ p) ⊎ (q < p)
    side q l = grind (arith, l)

    by : (q ≡ p) ⊎ (q < p) → get_or (set places (get_or roots p 0 - 1) p) (get_or roots q 0 - 1) 0 ≡ q
    by (inl e) =
        let b = roots_at m roots p within inside in
        let low = b.0 in
        let high = b.1 in
        let at : get_or roots p 0 - 1 < length places = omega (arith, low, high, count) in
        ap (λ n. get_or (set places (get_or roots p 0 - 1) p) (get_or roots n 0 - 1) 0) e ∙ get_or-set_same places (get_or roots p 0 - 1) p 0 at ∙ sym e
    by (inr h) =
        let low = (roots_at m roots p within inside).0 in
        let low' = (roots_at m roots q within (omega (arith, h, inside))).0 in
        let other : get_or roots q 0 - 1 ≢ get_or roots p 0 - 1 = λ e. different q p h inside (omega (arith, low, low', e)) in
        get_or-set_other places (get_or roots p 0 - 1) (get_or roots q 0 - 1) p 0 other ∙ known q h

-- a collector for the order in which the roots that are kept come first
pub collector_with_first : {A : Type 0} (R : RingOn A) (z : A) (t : ConstantTable) (kept : List Bool) (roots places : List ℕ) → IsTrue R.roomy → z ≡ R.zero → Fits R z → t.positive ≤ 120
    → AreCollectable t.positive (positive_terms t) → StayApart t.positive (positive_terms t) (kept_at kept) → length kept ≡ t.positive → roots ≡ both_groups kept → length places ≡ t.positive
    → ((p : ℕ) → p < length roots → get_or places (get_or roots p 0 - 1) 0 ≡ p) → IsCollector R z t kept roots places
collector_with_first R z t kept roots places roomy is fits bound collectable apart count groups long at =
    record {
      roomy = roomy;
      zero_is = is;
      zero_fits = fits;
      bound = bound;
      count = long;
      collectable = collectable;
      apart = apart;
      sorted = subst (AreSorted (kept_first (kept_at kept))) (sym groups) (groups_sorted kept);
      within = subst (AreRoots t.positive) (sym groups) (groups_are_roots kept t.positive count);
      placed = λ k low high. placed_at k (subst (λ ks. (q : ℕ) × (q < length ks) × (get_or ks q 0 ≡ k)) (sym groups) (groups_have kept k low (omega (arith, high, count))));
    }
  where
    placed_at : (k : ℕ) → (q : ℕ) × (q < length roots) × (get_or roots q 0 ≡ k) → (get_or places (k - 1) 0 < length roots) × (get_or roots (get_or places (k - 1) 0) 0 ≡ k)
    placed_at k h =
        let q = h.0 in
        let l = h.1 in
        let e = h.2 in
        let place : get_or places (k - 1) 0 ≡ q = ap (λ n. get_or places (n - 1) 0) (sym e) ∙ at q l in
        (subst (λ n. n < length roots) (sym place) l, ap (λ n. get_or roots n 0) place ∙ e)

-- the test of a loop is that of the group
pub member_test : (f b : Bool) → cond f b (not b) ≡ beq b f
member_test true true = refl
member_test true false = refl
member_test false true = refl
member_test false false = refl

-- what a loop over the list appends for one root
pub group_push : (first : Bool) (kept : List Bool) (k : ℕ) (base old new : List ℕ) (t : Bool) → k < length kept → beq (get_or kept k false) first ≡ t
    → old ≡ base ++ group_from first 1 (take k kept) → new ≡ old ++ cond t ((k + 1) ∷ []) [] → new ≡ base ++ group_from first 1 (take (k + 1) kept)
group_push first kept k base old new t h e f g =
    let here = member_test first (get_or kept k false) ∙ e in
    let one : k + 1 ≡ 1 + k = omega arith in
    g ∙ ap (λ l. l ++ cond t ((k + 1) ∷ []) []) f ∙ append_assoc base (group_from first 1 (take k kept)) (cond t ((k + 1) ∷ []) [])
    ∙ ap₂ (λ (b : Bool) (n : ℕ). base ++ (group_from first 1 (take k kept) ++ cond b (n ∷ []) [])) (sym here) one ∙ ap (λ l. base ++ l) (sym (group_more first 1 k kept h))
