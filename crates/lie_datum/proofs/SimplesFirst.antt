-- The simple roots are the positive roots of height 1, and stand first in the order.
use Rattle.std.proofs.Common.{◌≡◌, ◌≢◌, ℕ, zero, suc, ◌+◌, ◌-◌, ◌<◌, ◌≤◌, pos, negsuc, cond, ◌+ℤ◌, ◌≤ℤ◌, ◌<ℤ◌, List, [], ◌∷◌, length, refl, sym, ap, subst, ◌∙◌, arith, Some, slice_get, ◌⊎◌, inl, inr, ⊎_elim}
use Rattle.std.proofs.lemmas.Int.{ints, by_lt_z}
use Rattle.std.proofs.lemmas.Cmp.{int_ranked}
use Rattle.std.proofs.Math.IntN.{+ℤ_idl}
use Rattle.std.specs.Option.{unwrap_or, IsSome}
use Rattle.std.specs.List.{AllByRecursion}
use Rattle.std.specs.List.Sorted.{IsStrictlySortedBy}
use Rattle.std.specs.Ordering.{int_cmp, ordering_then, MatchOrdering}
use Rattle.std.specs.Cmp.Lexicographic.{slice_cmp}
use Rattle.std.specs.declared.cmp.Ordering.{Ordering}
use Rattle.std.specs.declared.cmp.Ordering.TheVariants.{Less, Equal, Greater}
use Rattle.lie_datum.specs.Vectors.{Vector, unit, total, entry}
use Rattle.lie_datum.specs.RootDatum.{Root, IsRoot, is_simple, IsSimpleIndex, IsPositive, simple, rank}
use Rattle.lie_datum.specs.RootList.{RootDatum, IsLoaded, IsNumber, root_of, root_cmp, height}
use Rattle.lie_datum.specs.Laws.{SimplesFirst}
use Rattle.lie_datum.specs.Numbers.{number_at}
use Rattle.std.proofs.lemmas.Bool.{lt-ltb}
use Rattle.lie_datum.proofs.NumberLemmas.{place_within}
use Rattle.lie_base.proofs.Members.{In, here, there}
use Rattle.lie_datum.proofs.Entries.{within_or_past, entry-unit}
use Rattle.lie_datum.proofs.Roots.{root_lengths}
use Rattle.lie_datum.proofs.HeightLaw.{entry_off, past_rank}
use Rattle.lie_datum.proofs.HeightLemmas.{height_positive, entries_not_negative, no_less, all_zero}
use Rattle.lie_datum.proofs.SignedRoots.{same_coeffs}
use Rattle.lie_datum.proofs.LoadedLaws.{short, self, positive_in, positive_only, simple_is_positive, sorted_simple}

total-zeros : (n : ℕ) → total (λ c. c) (unit n 0) ≡ pos 0
total-zeros zero = refl
total-zeros (suc n) = +ℤ_idl (total (λ c. c) (unit n 0)) ∙ total-zeros n

total-unit : (n i : ℕ) → 1 ≤ i → i ≤ n → total (λ c. c) (unit n i) ≡ pos 1
total-unit zero i p q = absurd (omega (arith, p, q))
total-unit (suc n) zero p q = absurd (omega (arith, p))
total-unit (suc n) (suc zero) p q = ap (λ t. pos 1 +ℤ t) (total-zeros n)
total-unit (suc n) (suc (suc i)) p q = +ℤ_idl (total (λ c. c) (unit n (suc i))) ∙ total-unit n (suc i) (omega arith) (omega (arith, q))

all_zero_is_unit : (v : Vector) → ((j : ℕ) → entry v j ≡ pos 0) → v ≡ unit (length v) 0
all_zero_is_unit [] h = refl
all_zero_is_unit (a ∷ v) h = let e = h zero in let r = all_zero_is_unit v (λ j. h (suc j)) in cc

-- numbers that are not negative and have the sum 1
one_is_unit : (v : Vector) → ((j : ℕ) → pos 0 ≤ℤ entry v j) → total (λ c. c) v ≡ pos 1 → (i : ℕ) × (i < length v) × (v ≡ unit (length v) (suc i))
one_is_unit [] h e = cc
one_is_unit (pos zero ∷ v) h e =
    let r = one_is_unit v (λ j. h (suc j)) (sym (+ℤ_idl (total (λ c. c) v)) ∙ e) in
    (suc r.0, (let l = r.1 in omega (arith, l)), ap (λ w. pos 0 ∷ w) r.2)
one_is_unit (pos (suc zero) ∷ v) h e =
    let z = all_zero v (λ j. h (suc j)) (omega (arith, ints, e)) in
    (zero, omega arith, ap (λ w. pos 1 ∷ w) (all_zero_is_unit v z))
one_is_unit (pos (suc (suc n)) ∷ v) h e = absurd (let g = no_less v (λ j. h (suc j)) in omega (arith, ints, e, g))
one_is_unit (negsuc n ∷ v) h e = absurd (let g = h zero in omega (arith, ints, g))

-- the unit vector with the earlier 1 is the greater one
later_unit : (n i j : ℕ) → 1 ≤ i → i < j → i ≤ n → slice_cmp int_cmp (unit n i) (unit n j) ≡ Greater
later_unit zero i j p l q = absurd (omega (arith, p, q))
later_unit (suc n) zero j p l q = absurd (omega (arith, p))
later_unit (suc n) (suc i) zero p l q = absurd (omega (arith, l))
later_unit (suc n) (suc zero) (suc zero) p l q = absurd (omega (arith, l))
later_unit (suc n) (suc zero) (suc (suc j)) p l q = refl
later_unit (suc n) (suc (suc i)) (suc zero) p l q = absurd (omega (arith, l))
later_unit (suc n) (suc (suc i)) (suc (suc j)) p l q = later_unit n (suc i) (suc j) (omega arith) (omega (arith, l)) (omega (arith, q))

-- a higher root comes later
higher : (r s : Root) → height s <ℤ height r → root_cmp r s ≢ Less
higher r s h e = by (int_cmp (height r) (height s)) (int_ranked (height r) (height s) (int_cmp (height r) (height s)) refl) e
  where
    by : (o : Ordering) → MatchOrdering o (height r <ℤ height s) (height r ≡ height s) (height s <ℤ height r) →
        ordering_then o (ordering_then (slice_cmp int_cmp s.coeffs r.coeffs) (slice_cmp int_cmp s.co_coeffs r.co_coeffs)) ≡ Less → ⊥
    by Less l f = omega (arith, ints, l, h)
    by Equal l f = omega (arith, ints, l, h)
    by Greater l f = cc

-- the simple root of the later index comes later
later_simple : (i j : ℕ) → 1 ≤ i → i < j → j ≤ 8 → root_cmp (simple j) (simple i) ≢ Less
later_simple i j p l q e =
    let same : int_cmp (height (simple j)) (height (simple i)) ≡ Equal =
    ap (λ t. int_cmp t (height (simple i))) (total-unit 8 j (omega (arith, p, l)) q) ∙ ap (λ t. int_cmp (pos 1) t) (total-unit 8 i p (omega (arith, l, q))) in
    let more = later_unit 8 i j p l (omega (arith, l, q)) in
    let o = ap (λ t. ordering_then t (ordering_then (slice_cmp int_cmp (unit 8 i) (unit 8 j)) (slice_cmp int_cmp (unit 8 i) (unit 8 j)))) same
    ∙ ap (λ t. ordering_then t (slice_cmp int_cmp (unit 8 i) (unit 8 j))) more in
    greater_is_not_less (sym o ∙ e)
  where
    greater_is_not_less : Greater ≡ Less → ⊥
    greater_is_not_less f = cc

-- a member is the simple root of an index from here on, or is higher
data IsLater (i n : ℕ) (r : Root) : Type 0 where
  is_one : (j : ℕ) → i < j → j ≤ i + n → r ≡ simple j → IsLater i n r
  is_higher : pos 1 <ℤ height r → IsLater i n r

-- a sorted list of simple roots and higher ones begins with the simple roots in turn
simples_lead : (n i : ℕ) (rs : List Root) → i + n ≤ 8 → IsStrictlySortedBy root_cmp rs → ((j : ℕ) → i < j → j ≤ i + n → In (simple j) rs) → ((r : Root) → In r rs → IsLater i n r) →
    (k : ℕ) → k < n → slice_get rs k ≡ Some (simple (suc (i + k)))
unfolding IsStrictlySortedBy
simples_lead zero i rs b s all only k l = absurd (omega (arith, l))
simples_lead (suc n) i [] b s all only k l = elim (all (suc i) (omega arith) (omega arith)) [ ]
simples_lead (suc n) i (r ∷ rs) b s all only k l =
    by (first (only r (here refl)) (all (suc i) (omega arith) (omega arith))) (λ f g j m. simples_lead n (suc i) rs (omega (arith, b)) s.1 f g j m) k l
  where
    before : (xs : List Root) (x : Root) → AllByRecursion (λ y. root_cmp r y ≡ Less) xs → In x xs → root_cmp r x ≡ Less
    before [] x h p = elim p [ ]
    before (y ∷ xs) x h (here e) = ap (root_cmp r) e ∙ h.0
    before (y ∷ xs) x h (there p) = before xs x h.1 p

    -- the first index stands at the head
    first : IsLater i (suc n) r → In (simple (suc i)) (r ∷ rs) → r ≡ simple (suc i)
    first h (here e) = sym e
    first (is_higher h) (there p) = absurd (higher r (simple (suc i)) (subst (λ t. t <ℤ height r) (sym (total-unit 8 (suc i) (omega arith) (omega (arith, b)))) h) (before rs (simple (suc i)) s.0 p))
    first (is_one j a c e) (there p) = by_index (within_or_past (suc i) j)
      where
        by_index : (suc i < j) ⊎ (j ≤ suc i) → r ≡ simple (suc i)
        by_index (inl m) = absurd (later_simple (suc i) j (omega arith) m (omega (arith, b, c)) (subst (λ t. root_cmp t (simple (suc i)) ≡ Less) e (before rs (simple (suc i)) s.0 p)))
        by_index (inr m) = e ∙ (let q : j ≡ suc i = omega (arith, m, a) in ap simple q)

    by : r ≡ simple (suc i) → (((j : ℕ) → suc i < j → j ≤ suc i + n → In (simple j) rs) → ((x : Root) → In x rs → IsLater (suc i) n x) → (k : ℕ) → k < n → slice_get rs k ≡ Some (simple (suc (suc i + k)))) →
        (k : ℕ) → k < suc n → slice_get (r ∷ rs) k ≡ Some (simple (suc (i + k)))
    by e more zero l = ap Some (e ∙ (let q : suc i ≡ suc (i + 0) = omega arith in ap simple q))
    by e more (suc k) l =
        let rest = more (λ j a c. other j a (all j (omega (arith, a)) (omega (arith, c)))) (λ x p. later x p (only x (there p))) k (omega (arith, l)) in
        rest ∙ (let q : suc (suc i + k) ≡ suc (i + suc k) = omega arith in ap (λ t. Some (simple t)) q)
      where
        apart : (j : ℕ) → suc i < j → simple j ≡ simple (suc i) → ⊥
        apart j a f =
            let one = sym (entry-unit 8 i (omega (arith, b))) ∙ ap (λ t. entry t.coeffs i) (sym f) ∙ entry_off 8 j i (λ g. absurd (omega (arith, a, g))) in
            omega (arith, ints, one)

        other : (j : ℕ) → suc i < j → In (simple j) (r ∷ rs) → In (simple j) rs
        other j a (here f) = absurd (apart j a (f ∙ e))
        other j a (there p) = p

        later : (x : Root) → In x rs → IsLater i (suc n) x → IsLater (suc i) n x
        later x p (is_higher h) = is_higher h
        later x p (is_one j a c f) = by_index (within_or_past (suc i) j)
          where
            by_index : (suc i < j) ⊎ (j ≤ suc i) → IsLater (suc i) n x
            by_index (inl m) = is_one j m (omega (arith, c)) f
            by_index (inr m) = absurd ((sorted_simple (r ∷ rs) s).0 (subst (λ t. In t rs) (f ∙ (let q : j ≡ suc i = omega (arith, m, a) in ap simple q) ∙ sym e) p))

module _ (d : RootDatum) (loaded : IsLoaded d) where
  -- a positive root of height 1 is simple
  height_one : (r : Root) → IsRoot d.base r → IsPositive r → height r ≡ pos 1 → (j : ℕ) × (0 < j) × (j ≤ rank d.base) × (r ≡ simple j)
  height_one r p q e =
      let long = (root_lengths d.base (short d loaded) loaded.axioms.input.corank r p).0 in
      let u = one_is_unit r.coeffs (entries_not_negative r.coeffs q) e in
      let shape : r.coeffs ≡ unit 8 (suc u.0) = u.2 ∙ ap (λ n. unit n (suc u.0)) long in
      let within : suc u.0 ≤ rank d.base = by u.0 (let l = u.1 in omega (arith, l, long)) shape in
      (suc u.0, omega arith, within, same_coeffs d loaded r (simple (suc u.0)) p (is_simple (suc u.0) (omega arith, within)) shape)
    where
      odd : pos 1 ≡ pos 0 → ⊥
      odd f = omega (arith, ints, f)

      by : (i : ℕ) → suc i ≤ 8 → r.coeffs ≡ unit 8 (suc i) → suc i ≤ rank d.base
      by i l f = ⊎_elim (λ m. m) (λ m. absurd (
          let none = past_rank d.base (short d loaded) loaded.axioms.input.corank loaded.axioms.twos loaded.axioms.unmixed loaded.axioms.apart (self d loaded) d.positive (sorted_simple d.positive loaded.listed.sorted) (positive_in d loaded) (positive_only d loaded) r p i m in
          odd (sym (entry-unit 8 i l) ∙ ap (λ v. entry v i) (sym f) ∙ none))) (within_or_past i (rank d.base))

  members : (r : Root) → In r d.positive → IsLater 0 (rank d.base) r
  members r m =
      let p = positive_only d loaded r m in
      by_lt_z (pos 1) (height r) (λ h. is_higher h)
      (λ h. (let g = height_positive d loaded r p.0 p.1 in
      let one = height_one r p.0 p.1 (omega (arith, ints, g, h)) in
      is_one one.0 one.1 (let l = one.2 in omega (arith, l)) one.3))

  simple_member : (j : ℕ) → 0 < j → j ≤ 0 + rank d.base → In (simple j) d.positive
  simple_member zero l m = absurd (omega (arith, l))
  simple_member (suc j) l m = let s : IsSimpleIndex d.base (suc j) = (omega arith, omega (arith, m)) in positive_in d loaded (simple (suc j)) (is_simple (suc j) s) (simple_is_positive d loaded j s)

  pub simples_first_holds : SimplesFirst d
  simples_first_holds zero h = absurd (let l = h.0 in omega (arith, l))
  simples_first_holds (suc i) h =
      simples_lead (rank d.base) 0 d.positive (let s = short d loaded in omega (arith, s)) loaded.listed.sorted simple_member members i (let l = h.1 in omega (arith, l))
      ∙ (let q : suc (0 + i) ≡ suc i = omega arith in ap (λ t. Some (simple t)) q)

  -- the number i names the simple root a_i
  pub simple_number : (i : ℕ) → IsSimpleIndex d.base i → IsNumber d (pos i) × (root_of d (pos i) ≡ simple i)
  simple_number i h =
      let e = simples_first_holds i h in
      (subst IsSome (sym e) refl, ap (λ o. unwrap_or o (record { coeffs = []; co_coeffs = [] })) e)

  -- which is the number at its place
  pub simple_at : (i : ℕ) → IsSimpleIndex d.base i → number_at (length d.positive) (i - 1) ≡ pos i
  simple_at i h =
      let q = (place_within d (pos i) (simple_number i h).0).1 in
      let a = h.0 in
      let low : i - 1 < length d.positive = omega (arith, q, a) in
      let one : i - 1 + 1 ≡ i = omega (arith, a) in
      ap (λ t. cond t (pos (i - 1 + 1)) (negsuc (i - 1 - length d.positive))) (lt-ltb (i - 1) (length d.positive) low) ∙ ap pos one
