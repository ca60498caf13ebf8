-- The signs of the roots of a loaded datum: which are negative, and how opposites and simple reflections change that.
use Rattle.std.proofs.Common.{◌≡◌, ◌≢◌, ℕ, zero, suc, ◌<◌, Bool, true, false, not, ◌||◌, List, [], ◌∷◌, map, length, refl, sym, ap, ap₂, ◌∙◌, subst, arith, inl, inr, ◌⊎◌, ⊎_elim, cond}
use Rattle.std.proofs.lemmas.Int.{ints, by_lt_z}
use Rattle.std.proofs.lemmas.Bool.{cases_eq, false≢true, true≢false, cases_Bool}
use Rattle.std.proofs.lemmas.List.{get_or_default}
use Rattle.std.specs.Prelude.{ℤ, pos, negsuc, neg_ℤ, ◌+ℤ◌, ◌*ℤ◌, ◌≤ℤ◌, ◌<ℤ◌, int_lt}
use Rattle.std.specs.List.{list_any, filter}
use Rattle.std.proofs.Math.ListN.{length-map}
use Rattle.lie_base.specs.Below.{Below, same_below, is_below, first_place, next_place, places, at_number}
use Rattle.lie_datum.specs.declared.root_pair.Root.{Root}
use Rattle.lie_datum.specs.Vectors.{Vector, entry, pairing, plus, times, minus, unit}
use Rattle.lie_datum.specs.RootDatum.{rank, vector, covector, simple, opposite, reflected, simple_coroot, simple_root, IsPositive, cartan}
use Rattle.lie_datum.specs.RootList.{RootDatum, all_roots, IsLoaded}
use Rattle.lie_base.proofs.RingSolver.{ring, var, num, ◌⊕◌, ◌⊗◌}
use Rattle.lie_datum.proofs.Linear.{pairing-combination}
use Rattle.lie_datum.proofs.Entries.{entry-times, entry_past, within_or_past}
use Rattle.lie_datum.proofs.Roots.{root_self, simple_vector, simple_covector, same_root as same_pair}
use Rattle.lie_datum.proofs.HeightLaw.{any_at}
use Rattle.lie_datum.proofs.LoadedLaws.{short, stays, simple_is_positive, at_entry}
use Rattle.lie_datum.proofs.HeightLemmas.{positive_number, number_is_positive}
use Rattle.lie_letters.specs.Names.{signed_number, RootName, Index, root_at, simple_name, opposite_name, reflect_name, is_negative_name, positive_names}
use Rattle.lie_letters.proofs.NameLemmas.{named_is, simple_at, index_is, at_root, same_name, opposite_at, reflect_at, opposite_twice}
use Rattle.lie_letters.proofs.RootSystemLemmas.{at_index, pairing-sums}
use Rattle.lie_letters.proofs.SettingLaws.{reflect_opposite}
use Rattle.lie_letters.specs.RootSystems.{PositiveLaws, AllPositive, Once, Never, here, there, IsNegative, root_system}

abbrev has_negative : Vector → Bool
has_negative v = list_any (λ c. int_lt c (pos 0)) v

-- a vector has a negative entry, or none
none_negative : (v : Vector) → has_negative v ≡ false → (k : ℕ) → pos 0 ≤ℤ entry v k
none_negative [] e k = omega (arith, ints)
none_negative (a ∷ v) e k = by (none_negative v) (int_lt a (pos 0)) refl e k
  where
    by : (has_negative v ≡ false → (k : ℕ) → pos 0 ≤ℤ entry v k) → (b : Bool) → int_lt a (pos 0) ≡ b → (b || has_negative v) ≡ false → (k : ℕ) → pos 0 ≤ℤ entry (a ∷ v) k
    by rest true h e k = absurd (true≢false e)
    by rest false h e zero = omega (arith, ints, h)
    by rest false h e (suc k) = rest e k

some_negative : (v : Vector) → has_negative v ≡ true → (k : ℕ) × (k < length v) × (entry v k <ℤ pos 0)
some_negative [] e = absurd (false≢true e)
some_negative (a ∷ v) e = by (some_negative v) (int_lt a (pos 0)) refl e
  where
    by : (has_negative v ≡ true → (k : ℕ) × (k < length v) × (entry v k <ℤ pos 0)) → (b : Bool) → int_lt a (pos 0) ≡ b → (b || has_negative v) ≡ true
        → (k : ℕ) × (k < length (a ∷ v)) × (entry (a ∷ v) k <ℤ pos 0)
    by rest true h e = (0, omega arith, omega (arith, ints, h))
    by rest false h e = let q = rest e in (suc q.0, (let l = q.1 in omega (arith, l)), q.2)

negative_from : (v : Vector) (k : ℕ) → entry v k <ℤ pos 0 → has_negative v ≡ true
negative_from v k h = ⊎_elim (λ (e : has_negative v ≡ true). e) (λ (e : has_negative v ≡ false). (let n = none_negative v e k in absurd (omega (arith, ints, n, h)))) (cases_Bool (has_negative v))

not_negative_from : (v : Vector) → ((k : ℕ) → pos 0 ≤ℤ entry v k) → has_negative v ≡ false
not_negative_from v h =
    ⊎_elim (λ (e : has_negative v ≡ true). (let q = some_negative v e in let n = h q.0 in let m = q.2 in absurd (omega (arith, ints, n, m)))) (λ (e : has_negative v ≡ false). e) (cases_Bool (has_negative v))

module _ (d : RootDatum) (loaded : IsLoaded d) where
  test : (r : RootName d) → is_negative_name d r ≡ has_negative (root_at d r).coeffs
  unfolding is_negative_name
  test r = refl

  positive_entries : (r : Root) → IsPositive r → (k : ℕ) → pos 0 ≤ℤ entry r.coeffs k
  positive_entries r h k = at_entry (λ c. pos 0 ≤ℤ c) (omega (arith, ints)) r.coeffs h k

  positive_from : (r : Root) → ((k : ℕ) → pos 0 ≤ℤ entry r.coeffs k) → IsPositive r
  positive_from r h k other l = subst (λ t. pos 0 ≤ℤ t) (get_or_default r.coeffs k (pos 0) other l) (h k)

  -- a root whose entries are not negative is no negative one
  pub not_negative : (r : RootName d) → is_negative_name d r ≡ false → (k : ℕ) → pos 0 ≤ℤ entry (root_at d r).coeffs k
  not_negative r e = none_negative (root_at d r).coeffs (sym (test r) ∙ e)

  negative : (r : RootName d) → is_negative_name d r ≡ true → (k : ℕ) → entry (root_at d r).coeffs k ≤ℤ pos 0
  negative r e k =
      let v = (root_at d r).coeffs in
      let q = some_negative v (sym (test r) ∙ e) in
      by_lt_z (pos 0) (entry v k)
      (λ h. absurd (loaded.axioms.unmixed (root_at d r) (at_root d loaded r)
      (any_at (λ c. pos 0 <ℤ c) v k (inside v k h) h, any_at (λ c. c <ℤ pos 0) v q.0 q.1 q.2)))
      (λ h. h)
    where
      inside : (v : Vector) (j : ℕ) → pos 0 <ℤ entry v j → j < length v
      inside v j h = ⊎_elim (λ l. l) (λ l. (let z = entry_past v j l in absurd (omega (arith, ints, h, z)))) (within_or_past j (length v))

  -- a root whose test fails is positive
  pub is_positive : (r : RootName d) → is_negative_name d r ≡ false → IsPositive (root_at d r)
  is_positive r e = positive_from (root_at d r) (not_negative r e)

  -- and a positive root fails the test
  pub positive_is : (r : RootName d) → IsPositive (root_at d r) → is_negative_name d r ≡ false
  positive_is r h = test r ∙ not_negative_from (root_at d r).coeffs (positive_entries (root_at d r) h)

  -- its number is positive
  pub number_of_positive : (r : RootName d) → is_negative_name d r ≡ false → pos 0 <ℤ signed_number d r
  number_of_positive r e =
      let at = named_is d r in
      positive_number d loaded (signed_number d r) at.number (subst IsPositive (sym at.root) (is_positive r e))

  -- and a root with a positive number is positive
  pub positive_of_number : (r : RootName d) → pos 0 <ℤ signed_number d r → is_negative_name d r ≡ false
  positive_of_number r h =
      let at = named_is d r in
      positive_is r (subst IsPositive at.root (number_is_positive d loaded (signed_number d r) at.number h))

  -- a root has a coefficient at a simple root that is not 0
  no_zero : (r : RootName d) → ((k : ℕ) → k < rank d.base → entry (root_at d r).coeffs k ≡ pos 0) → ⊥
  no_zero r h =
      let c = (root_at d r).coeffs in
      let y = covector d.base (root_at d r) in
      let w = map (λ v. pairing v y) d.base.roots in
      let none : pairing c w ≡ pos 0 *ℤ pairing c w +ℤ pos 0 *ℤ pairing c w =
      pairing-sums (pos 0) (pos 0) c c c w refl refl
      (λ k l. h k (subst (λ n. k < n) (length-map d.base.roots (λ v. pairing v y)) l) ∙ ring (entry c k ∷ []) (num (pos 0)) (num (pos 0) ⊗ var 0 ⊕ num (pos 0) ⊗ var 0) refl) in
      let two = root_self d.base (short d loaded) loaded.axioms.input.corank loaded.axioms.twos (root_at d r) (at_root d loaded r) in
      let spread = pairing-combination c d.base.roots y in
      let zero_is : pairing c w ≡ pos 0 = none ∙ ring (pairing c w ∷ []) (num (pos 0) ⊗ var 0 ⊕ num (pos 0) ⊗ var 0) (num (pos 0)) refl in
      omega (arith, ints, two, spread, zero_is)

  negative_true : (r : RootName d) → IsNegative (root_system d) r → is_negative_name d r ≡ true
  negative_true r h =
      ⊎_elim (λ (e : is_negative_name d r ≡ true). e)
      (λ (e : is_negative_name d r ≡ false). absurd (no_zero r (at_index d loaded (λ k. entry (root_at d r).coeffs k ≡ pos 0)
      (λ k. (let a = h k in let b = not_negative r e k.number in omega (arith, ints, a, b))))))
      (cases_Bool (is_negative_name d r))

  negative_is : (r : RootName d) → is_negative_name d r ≡ true → IsNegative (root_system d) r
  negative_is r e k = negative r e k.number

  opposite_entry : (r : RootName d) (k : ℕ) → entry (root_at d (opposite_name d r)).coeffs k ≡ neg_ℤ (entry (root_at d r).coeffs k)
  opposite_entry r k =
      ap (λ s. entry s.coeffs k) (opposite_at d loaded r) ∙ entry-times (neg_ℤ (pos 1)) (root_at d r).coeffs k
      ∙ (let e : neg_ℤ (pos 1) *ℤ entry (root_at d r).coeffs k ≡ neg_ℤ (entry (root_at d r).coeffs k) = omega (arith, ints) in e)

  -- the opposite of a positive root is negative
  pub positive_opposite : (r : RootName d) → is_negative_name d r ≡ false → is_negative_name d (opposite_name d r) ≡ true
  positive_opposite r e =
      negative_true (opposite_name d r) (λ k. (let a = not_negative r e k.number in let b = opposite_entry r k.number in omega (arith, ints, a, b)))

  -- and that of a negative root is not
  pub negative_opposite : (r : RootName d) → is_negative_name d r ≡ true → is_negative_name d (opposite_name d r) ≡ false
  negative_opposite r e =
      test (opposite_name d r) ∙ not_negative_from (root_at d (opposite_name d r)).coeffs
      (λ k. (let a = negative r e k in let b = opposite_entry r k in omega (arith, ints, a, b)))

  simple_positive : (i : Index d) → is_negative_name d (simple_name d i) ≡ false
  simple_positive i =
      test (simple_name d i) ∙ not_negative_from (root_at d (simple_name d i)).coeffs
      (λ k. subst (λ s. pos 0 ≤ℤ entry s.coeffs k) (sym (simple_at d i)) (positive_entries (simple (suc i.number)) (simple_is_positive d loaded i.number (index_is d i)) k))

  moved_unit : (u : Vector) (k : ℤ) → k ≡ pos 2 → plus u (times (neg_ℤ k) u) ≡ minus u
  moved_unit [] k e = refl
  moved_unit (a ∷ u) k e =
      ap₂ ◌∷◌ (ap (λ t. a +ℤ neg_ℤ t *ℤ a) e ∙ ring (a ∷ []) (var 0 ⊕ num (negsuc 1) ⊗ var 0) (num (negsuc 0) ⊗ var 0) refl) (moved_unit u k e)

  reflect_simple : (i : Index d) → reflect_name d i (simple_name d i) ≡ opposite_name d (simple_name d i)
  reflect_simple i =
      let n = suc i.number in
      let b = d.base in
      let two : cartan b n n ≡ pos 2 = loaded.axioms.twos n (index_is d i) in
      same_name d loaded (reflect_name d i (simple_name d i)) (opposite_name d (simple_name d i))
      (reflect_at d loaded i (simple_name d i) ∙ ap (reflected b n) (simple_at d i)
      ∙ same_pair (reflected b n (simple n)) (opposite (simple n))
      (moved_unit (unit 8 n) (pairing (vector b (simple n)) (simple_coroot b n)) (simple_vector b (short d loaded) loaded.axioms.input.corank n (simple_coroot b n) (index_is d i) ∙ two))
      (moved_unit (unit 8 n) (pairing (simple_root b n) (covector b (simple n))) (simple_covector b (short d loaded) loaded.axioms.input.corank n (simple_root b n) (index_is d i) ∙ two))
      ∙ ap opposite (sym (simple_at d i)) ∙ sym (opposite_at d loaded (simple_name d i)))

  -- a simple reflection keeps the positive roots but its own
  pub stays_positive : (i : Index d) (r : RootName d) → is_negative_name d r ≡ false → ¬ (r ≡ simple_name d i) → is_negative_name d (reflect_name d i r) ≡ false
  stays_positive i r e h =
      let other : root_at d r ≢ simple (suc i.number) = λ same. h (same_name d loaded r (simple_name d i) (same ∙ sym (simple_at d i))) in
      let kept = stays d loaded i.number (root_at d r) (index_is d i) (at_root d loaded r) (positive_from (root_at d r) (not_negative r e)) other in
      test (reflect_name d i r) ∙ not_negative_from (root_at d (reflect_name d i r)).coeffs
      (λ k. subst (λ s. pos 0 ≤ℤ entry s.coeffs k) (sym (reflect_at d loaded i r)) (positive_entries (reflected d.base (suc i.number) (root_at d r)) kept k))

  sign_kept : (i : Index d) (r : RootName d) → ¬ (r ≡ simple_name d i) → ¬ (r ≡ opposite_name d (simple_name d i)) → is_negative_name d (reflect_name d i r) ≡ is_negative_name d r
  sign_kept i r h g =
      ⊎_elim
      (λ (e : is_negative_name d r ≡ true).
      (let o = opposite_name d r in
      let apart : ¬ (o ≡ simple_name d i) = λ same. g (sym (opposite_twice d loaded r) ∙ ap (opposite_name d) same) in
      let kept : is_negative_name d (reflect_name d i o) ≡ false = stays_positive i o (negative_opposite r e) apart in
      let back : reflect_name d i r ≡ opposite_name d (reflect_name d i o) =
      ap (reflect_name d i) (sym (opposite_twice d loaded r)) ∙ reflect_opposite d loaded i o in
      ap (is_negative_name d) back ∙ positive_opposite (reflect_name d i o) kept ∙ sym e))
      (λ (e : is_negative_name d r ≡ false). stays_positive i r e h ∙ sym e)
      (cases_Bool (is_negative_name d r))

  same_root : (r s : RootName d) → (r ≡ s) ⊎ (¬ (r ≡ s))
  same_root r s =
      ⊎_elim (λ (e : r.number ≡ s.number). inl (same_below (length (all_roots d)) r s e))
      (λ (h : ¬ (r.number ≡ s.number)). inr (λ (e : r ≡ s). h (ap (λ (x : RootName d). x.number) e))) (cases_eq r.number s.number)

-- each place stands once among the places
never_first : (n : ℕ) (xs : List (Below n)) → Never (first_place n) (map (next_place n) xs)
never_first n [] = tt
never_first n (x ∷ xs) = ((λ e. (let z = ap (λ (b : Below (suc n)). b.number) e in omega (arith, z))), never_first n xs)

never_next : (n : ℕ) (a : Below n) (xs : List (Below n)) → Never a xs → Never (next_place n a) (map (next_place n) xs)
never_next n a [] h = tt
never_next n a (x ∷ xs) h = ((λ e. h.0 (same_below n x a (let z = ap (λ (b : Below (suc n)). b.number) e in omega (arith, z)))), never_next n a xs h.1)

once_next : (n : ℕ) (a : Below n) (xs : List (Below n)) → Once a xs → Once (next_place n a) (map (next_place n) xs)
once_next n a _ (here {xs = xs} never) = here (never_next n a xs never)
once_next n a _ (there {y = y} {xs = xs} apart rest) =
    there (λ e. apart (same_below n y a (let z = ap (λ (b : Below (suc n)). b.number) e in omega (arith, z)))) (once_next n a xs rest)

-- each place stands among the places once
pub once_place : {A : Type 0} (xs : List A) (a : Below (length xs)) → Once a (places xs)
once_place [] a = absurd (let l = is_below 0 a in omega (arith, l))
once_place (x ∷ xs) a = by (once_place xs) a.number refl
  where
    by : ((b : Below (length xs)) → Once b (places xs)) → (k : ℕ) → a.number ≡ k → Once a (places (x ∷ xs))
    by rest zero e =
        subst (λ b. Once b (places (x ∷ xs))) (same_below (suc (length xs)) (first_place (length xs)) a (sym e)) (here (never_first (length xs) (places xs)))
    by rest (suc k) e =
        let l = is_below (suc (length xs)) a in
        let b : Below (length xs) = at_number (length xs) k (omega (arith, e, l)) in
        subst (λ c. Once c (places (x ∷ xs))) (same_below (suc (length xs)) (next_place (length xs) b) a (sym e))
        (there (λ f. (let z = ap (λ (c : Below (suc (length xs))). c.number) f in omega (arith, z))) (once_next (length xs) b (places xs) (rest b)))

module _ {A : Type 0} (keep : A → Bool) where
  never_kept : (a : A) (xs : List A) → Never a xs → Never a (filter keep xs)
  never_kept a [] h = tt
  never_kept a (x ∷ xs) h = by (never_kept a xs h.1) (keep x)
    where
      by : Never a (filter keep xs) → (b : Bool) → Never a (cond b (x ∷ filter keep xs) (filter keep xs))
      by rest true = (h.0, rest)
      by rest false = rest

  once_kept : (a : A) (xs : List A) → keep a ≡ true → Once a xs → Once a (filter keep xs)
  once_kept a _ k (here {xs = xs} never) = subst (λ b. Once a (cond b (a ∷ filter keep xs) (filter keep xs))) (sym k) (here (never_kept a xs never))
  once_kept a _ k (there {y = y} {xs = xs} apart rest) = by (once_kept a xs k rest) (keep y)
    where
      by : Once a (filter keep xs) → (b : Bool) → Once a (cond b (y ∷ filter keep xs) (filter keep xs))
      by rest true = there apart rest
      by rest false = rest

module _ (d : RootDatum) (loaded : IsLoaded d) where
  -- each positive root stands in the list once
  pub listed : (r : RootName d) → is_negative_name d r ≡ false → Once r (positive_names d)
  unfolding positive_names
  listed r e = once_kept (λ s. not (is_negative_name d s)) r (places (all_roots d)) (ap not e) (once_place (all_roots d) r)

  all_kept : (xs : List (RootName d)) → AllPositive (root_system d) (is_negative_name d) (filter (λ s. not (is_negative_name d s)) xs)
  all_kept [] = tt
  all_kept (x ∷ xs) = by (all_kept xs) (is_negative_name d x) refl
    where
      by : AllPositive (root_system d) (is_negative_name d) (filter (λ s. not (is_negative_name d s)) xs) → (b : Bool) → is_negative_name d x ≡ b
          → AllPositive (root_system d) (is_negative_name d) (cond (not b) (x ∷ filter (λ s. not (is_negative_name d s)) xs) (filter (λ s. not (is_negative_name d s)) xs))
      by rest true e = rest
      by rest false e = (e, rest)

  -- all laws of signs
  pub positive_laws : PositiveLaws (root_system d) (opposite_name d) (is_negative_name d) (positive_names d)
  unfolding positive_names
  positive_laws = record {
    negative_true = negative_true d loaded;
    negative_is = negative_is d loaded;
    positive_opposite = positive_opposite d loaded;
    same_root = same_root d loaded;
    negative_opposite = negative_opposite d loaded;
    simple_positive = simple_positive d loaded;
    simple_opposite_negative = λ i. positive_opposite d loaded (simple_name d i) (simple_positive d loaded i);
    opposite_twice = opposite_twice d loaded;
    reflect_simple = reflect_simple d loaded;
    reflect_opposite = reflect_opposite d loaded;
    sign_kept = sign_kept d loaded;
    listed = listed;
    positive = all_kept (places (all_roots d));
  }
