-- The places of a module, sorted by level and weight.
use Rattle.std.proofs.Common.{◌≡◌, ◌≢◌, ℕ, zero, suc, ◌+◌, ◌-◌, ◌<◌, ◌≤◌, false, eqb, List, [], ◌∷◌, length, map, get_or, refl, sym, ap, ap₂, ◌∙◌, inl, inr, subst, arith, ⊎_elim}
use Rattle.std.specs.Prelude.{pos, ◌≤ℤ◌, ◌<ℤ◌, ◌⊎◌}
use Rattle.std.specs.List.{All, IsDistinct}
use Rattle.std.specs.List.Sorted.{IsPermutation, IsSorted}
use Rattle.std.specs.Ordering.{int_cmp, nat_cmp, is_lt, ordering_then, ordering_reverse, MatchOrdering}
use Rattle.std.specs.Cmp.Lexicographic.{slice_cmp}
use Rattle.std.specs.declared.cmp.Ordering.{Ordering}
use Rattle.std.specs.declared.cmp.Ordering.TheVariants.{Less, Equal, Greater}
use Rattle.std.proofs.Math.ListN.{length-map, get_or-map}
use Rattle.std.proofs.lemmas.Int.{ints}
use Rattle.std.proofs.lemmas.Bool.{cases_eq, eq-eqb, ne_eqb}
use Rattle.std.proofs.lemmas.Cmp.{int_ranked, tied_itself}
use Rattle.std.proofs.lemmas.List.Sorted.{IsPermutation-map, Contains-permutation, All-permutation, length_permutation}
use Rattle.std.proofs.lemmas.Map.Keys.{IsDistinct-from_apart, IsDistinct-IsPermutation, apart_from_distinct}
use Rattle.lie_datum.specs.Vectors.{Vector, pairing}
use Rattle.lie_datum.specs.Laws.{positive_coroots}
use Rattle.lie_datum.specs.RootList.{RootDatum}
use Rattle.lie_const.specs.Modules.{Module, dimension}
use Rattle.lie_orbit.specs.Orbits.{weight_cmp}
use Rattle.lie_orbit.proofs.OrderLemmas.{weight_total, equal_order}
use Rattle.lie_audit.specs.WeylWeights.{SameWeight, weight_at}
use Rattle.lie_reduce.specs.declared.places.Placed.{Placed}
use Rattle.lie_reduce.specs.Levels.{level}
use Rattle.lie_reduce.specs.Places.{IsPlaced, placed_number, ArePlaced, AreInOrder}
use Rattle.lie_reduce.proofs.RootsApart.{same_in_X}

-- the code's comparison
abbrev pub placed_cmp : Placed → Placed → Ordering
placed_cmp p q = ordering_then (int_cmp q.level.0 p.level.0) (ordering_then (slice_cmp int_cmp q.weight.0 p.weight.0) (nat_cmp p.place q.place))

-- within a list the default does not count
any-default : {A : Type 0} (xs : List A) (k : ℕ) (y z : A) → k < length xs → get_or xs k y ≡ get_or xs k z
any-default [] k y z l = absurd (let never : ⊥ = omega (arith, l) in never)
any-default (x ∷ xs) zero y z l = refl
any-default (x ∷ xs) (suc k) y z l = any-default xs k y z (omega (arith, l))

module _ (d : RootDatum) where
  -- two weights, of which the second is not before the first
  in_turn : (x y : Vector) → weight_cmp d y x ≢ Less → (x ≡ y) ⊎ (weight_cmp d x y ≡ Less)
  in_turn x y h = by (weight_cmp d y x) refl
    where
      by : (o : Ordering) → weight_cmp d y x ≡ o → (x ≡ y) ⊎ (weight_cmp d x y ≡ Less)
      by Less e = absurd (h e)
      by Equal e = inl (sym (equal_order d y x e))
      by Greater e = inr ((weight_total d).antisymm x y ∙ ap ordering_reverse e)

  -- no weight is before itself
  once : (x : Vector) → weight_cmp d x x ≢ Less
  once x e = (let same = tied_itself (weight_total d) x in cc)

  -- the level does not rise
  falls : (x y : Vector) → (x ≡ y) ⊎ (weight_cmp d x y ≡ Less) → pairing y (positive_coroots d) ≤ℤ pairing x (positive_coroots d)
  falls x y (inl e) = (let l = ap (λ z. pairing z (positive_coroots d)) e in omega (arith, ints, l))
  falls x y (inr e) = by (int_cmp (pairing y (positive_coroots d)) (pairing x (positive_coroots d))) (int_ranked (pairing y (positive_coroots d)) (pairing x (positive_coroots d)) (int_cmp (pairing y (positive_coroots d)) (pairing x (positive_coroots d))) refl) e
    where
      by : (o : Ordering) → MatchOrdering o (pairing y (positive_coroots d) <ℤ pairing x (positive_coroots d)) (pairing y (positive_coroots d) ≡ pairing x (positive_coroots d)) (pairing x (positive_coroots d) <ℤ pairing y (positive_coroots d))
          → ordering_then o (slice_cmp int_cmp y x) ≡ Less → pairing y (positive_coroots d) ≤ℤ pairing x (positive_coroots d)
      by Less h e = omega (arith, ints, h)
      by Equal h e = omega (arith, ints, h)
      by Greater h e = cc

  module _ (v : Module) (ps : List ℕ) (o : AreInOrder d v ps) where
    abbrev pub weight : ℕ → Vector
    weight i = weight_at v (get_or ps i 0)

    pub falling : (i j : ℕ) → i ≤ j → j < dimension v → pairing (weight j) (positive_coroots d) ≤ℤ pairing (weight i) (positive_coroots d)
    falling i j up low = falls (weight i) (weight j) (o.sorted i j up low)

    same_list : (i k : ℕ) → i < dimension v → k < dimension v → SameWeight (weight i) (weight k) → weight i ≡ weight k
    same_list i k a b same = same_in_X (weight i) (weight k) (o.long i a ∙ sym (o.long k b)) same

    pub together : (i p k : ℕ) → i ≤ p → p ≤ k → k < dimension v → SameWeight (weight i) (weight k) → SameWeight (weight p) (weight i)
    together i p k up on low same =
        let ends = same_list i k (omega (arith, up, on, low)) low same in
        by (o.sorted i p up (omega (arith, on, low))) (o.sorted p k on low) ends
      where
        by : (weight i ≡ weight p) ⊎ (weight_cmp d (weight i) (weight p) ≡ Less) → (weight p ≡ weight k) ⊎ (weight_cmp d (weight p) (weight k) ≡ Less) → weight i ≡ weight k → SameWeight (weight p) (weight i)
        by (inl e) h ends = λ c. ap (λ z. pairing z c) (sym e)
        by (inr e) (inl g) ends = absurd (once (weight i) (subst (λ z. weight_cmp d (weight i) z ≡ Less) (g ∙ sym ends) e))
        by (inr e) (inr g) ends = absurd (once (weight i) (subst (λ z. weight_cmp d (weight i) z ≡ Less) (sym ends) ((weight_total d).trans (weight i) (weight p) (weight k) e g)))

    pub alike : (a b : ℕ) → a < dimension v → b < dimension v → SameWeight (weight a) (weight b) ⊎ ¬ SameWeight (weight a) (weight b)
    alike a b p q = by (weight_cmp d (weight a) (weight b)) refl
      where
        by : (o : Ordering) → weight_cmp d (weight a) (weight b) ≡ o → SameWeight (weight a) (weight b) ⊎ ¬ SameWeight (weight a) (weight b)
        by Less e = inr (λ same. once (weight a) (subst (λ z. weight_cmp d (weight a) z ≡ Less) (sym (same_list a b p q same)) e))
        by Equal e = inl (λ c. ap (λ z. pairing z c) (equal_order d (weight a) (weight b) e))
        by Greater e = inr (λ same. (let tied = tied_itself (weight_total d) (weight a) in let moved = subst (λ z. weight_cmp d (weight a) z ≡ Greater) (sym (same_list a b p q same)) e in cc))

  module _ (v : Module) (xs ys : List Placed) (h : ArePlaced d v xs) (p : IsPermutation xs ys) (s : IsSorted placed_cmp ys) where
    none : Placed
    none = record { level = record { 0 = pos 0 }; weight = record { 0 = [] }; place = 0 }

    each : All (IsPlaced d v) ys
    each = All-permutation (IsPlaced d v) xs ys p h.each

    many : length ys ≡ dimension v
    many = length_permutation xs ys p ∙ h.count

    numbers : List ℕ
    numbers = map placed_number ys

    moved : IsPermutation (map placed_number xs) (map placed_number ys)
    moved = IsPermutation-map placed_number xs ys p

    number_of : (i : ℕ) → get_or (map placed_number ys) i 0 ≡ (get_or ys i none).place
    unfolding none
    number_of i = get_or-map placed_number ys i none

    at : (i : ℕ) → i < dimension v → IsPlaced d v (get_or ys i none)
    at i l = each i none (let e = many in omega (arith, l, e))

    abbrev placed : ℕ → Vector
    placed i = weight_at v (get_or (map placed_number ys) i 0)

    placed_is : (i : ℕ) → placed i ≡ weight_at v (get_or ys i none).place
    placed_is i = ap (weight_at v) (number_of i)

    -- what comes before by level and weight comes before by the code's comparison
    not_before : (x y : Placed) → IsPlaced d v x → IsPlaced d v y → is_lt (placed_cmp y x) ≡ false → weight_cmp d (weight_at v y.place) (weight_at v x.place) ≢ Less
    not_before x y a b h less = by (int_cmp x.level.0 y.level.0) (slice_cmp int_cmp x.weight.0 y.weight.0) h (
        ap₂ (λ s t. ordering_then (int_cmp s t) (slice_cmp int_cmp x.weight.0 y.weight.0)) a.level b.level
        ∙ ap₂ (λ s t. ordering_then (int_cmp (level d v x.place) (level d v y.place)) (slice_cmp int_cmp s t)) a.weight b.weight
        ∙ less)
      where
        by : (o q : Ordering) → is_lt (ordering_then o (ordering_then q (nat_cmp y.place x.place))) ≡ false → ordering_then o q ≡ Less → ⊥
        by Less q h e = cc
        by Equal Less h e = cc
        by Equal Equal h e = cc
        by Equal Greater h e = cc
        by Greater q h e = cc

    adjacent : (k : ℕ) → suc k < dimension v → (placed k ≡ placed (suc k)) ⊎ (weight_cmp d (placed k) (placed (suc k)) ≡ Less)
    adjacent k l =
        let next : k + 1 ≡ suc k = omega arith in
        let x = get_or ys k none in
        let y = get_or ys (suc k) none in
        let test = s k none (omega arith) (let e = many in omega (arith, l, e)) in
        let h : is_lt (placed_cmp y x) ≡ false = ap (λ j. is_lt (placed_cmp (get_or ys j none) x)) (sym next) ∙ test in
        in_turn (placed k) (placed (suc k)) (λ less. not_before x y (at k (omega (arith, l))) (at (suc k) l) h (ap₂ (weight_cmp d) (sym (placed_is (suc k))) (sym (placed_is k)) ∙ less))

    chain : (x y z : Vector) → (x ≡ y) ⊎ (weight_cmp d x y ≡ Less) → (y ≡ z) ⊎ (weight_cmp d y z ≡ Less) → (x ≡ z) ⊎ (weight_cmp d x z ≡ Less)
    chain x y z (inl e) (inl g) = inl (e ∙ g)
    chain x y z (inl e) (inr g) = inr (subst (λ w. weight_cmp d w z ≡ Less) (sym e) g)
    chain x y z (inr e) (inl g) = inr (subst (λ w. weight_cmp d x w ≡ Less) g e)
    chain x y z (inr e) (inr g) = inr ((weight_total d).trans x y z e g)

    along : (m i : ℕ) → i + m < dimension v → (placed i ≡ placed (i + m)) ⊎ (weight_cmp d (placed i) (placed (i + m)) ≡ Less)
    along zero i l = inl (ap placed (let e : i ≡ i + 0 = omega arith in e))
    along (suc m) i l =
        let e : suc (i + m) ≡ i + suc m = omega arith in
        let step = adjacent (i + m) (omega (arith, l)) in
        subst (λ j. (placed i ≡ placed j) ⊎ (weight_cmp d (placed i) (placed j) ≡ Less)) e (chain (placed i) (placed (i + m)) (placed (suc (i + m))) (along m i (omega (arith, l))) step)

    flips : (a b : ℕ) → eqb a b ≡ eqb b a
    flips a b = ⊎_elim
        (λ (e : a ≡ b). eq-eqb a b e ∙ sym (eq-eqb b a (sym e)))
        (λ (h : a ≢ b). ne_eqb a b h ∙ sym (ne_eqb b a (λ e. h (sym e))))
        (cases_eq a b)

    first : (i : ℕ) → i < dimension v → (z : ℕ) → get_or (map placed_number xs) i z ≡ i
    first i l z =
        let long : i < length (map placed_number xs) = (let e = length-map xs placed_number in let c = h.count in omega (arith, l, e, c)) in
        any-default (map placed_number xs) i z 0 long ∙ start
      where
        start : get_or (map placed_number xs) i 0 ≡ i
        start = get_or-map placed_number xs i (record { level = record { 0 = pos 0 }; weight = record { 0 = [] }; place = 0 }) ∙ h.numbers i (record { level = record { 0 = pos 0 }; weight = record { 0 = [] }; place = 0 }) l

    distinct : IsDistinct eqb (map placed_number ys)
    distinct = IsDistinct-IsPermutation eqb flips (map placed_number xs) (map placed_number ys) moved (IsDistinct-from_apart eqb (map placed_number xs) (λ i j z less l.
        (let e = length-map xs placed_number in let c = h.count in let low : j < dimension v = omega (arith, l, e, c) in
        ap₂ eqb (first i (omega (arith, less, low)) z) (first j low z) ∙ ne_eqb i j (λ same. (let never : ⊥ = omega (arith, same, less) in never)))))

    wide : length (map placed_number ys) ≡ dimension v
    wide = length-map ys placed_number ∙ many

    pub in_order : AreInOrder d v (map placed_number ys)
    in_order = record {
      count = wide;
      within = λ i l. subst (λ a. a < dimension v) (sym (number_of i)) (at i l).within;
      apart = λ i j less l same. (let t = apart_from_distinct eqb (map placed_number ys) i j 0 distinct less (let e = wide in omega (arith, l, e)) in let u = eq-eqb (get_or (map placed_number ys) i 0) (get_or (map placed_number ys) j 0) same in cc);
      onto = λ a l. (let found = Contains-permutation (map placed_number xs) (map placed_number ys) a moved (a, (let e = length-map xs placed_number in let c = h.count in omega (arith, l, e, c)), first a l a) in
          let k = found.0 in let low = found.1 in
          (k, (let e = wide in omega (arith, low, e)), any-default (map placed_number ys) k 0 a low ∙ found.2));
      long = λ i l. ap length (placed_is i ∙ sym (at i l).weight) ∙ (at i l).long;
      sorted = λ i j up l. (let e : i + (j - i) ≡ j = omega (arith, up) in
          subst (λ k. (placed i ≡ placed k) ⊎ (weight_cmp d (placed i) (placed k) ≡ Less)) e (along (j - i) i (omega (arith, l, up))));
    }
