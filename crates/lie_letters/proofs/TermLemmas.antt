-- The terms of a loaded table: each is at the root i r + j s with i and j at least 1, and for positive r and s that root stands after both.
use Rattle.std.proofs.Common.{◌≡◌, ℕ, zero, suc, ◌+◌, ◌<◌, ◌≤◌, ltb, ℤ, pos, negsuc, ◌+ℤ◌, ◌*ℤ◌, ◌≤ℤ◌, ◌<ℤ◌, List, [], ◌∷◌, map, length, get_or, Bool, true, false, not, cond, Option, None, Some, Ok, refl, sym, ap, ap₂, subst, ◌∙◌, arith, ◌⊎◌, inl, inr, ⊎_elim, slice_get, add-one}
use Rattle.std.proofs.lemmas.Int.{ints}
use Rattle.std.proofs.lemmas.Bool.{cond-true, lt-ltb, true≢false}
use Rattle.std.proofs.lemmas.Option.{unwrap_or-slice_get}
use Rattle.std.proofs.lemmas.List.Quantifiers.{position-Some}
use Rattle.std.specs.Option.{is_some, IsSome, option_map, option_map_or, unwrap_or}
use Rattle.std.specs.List.{find, filter, position, position_or_len, AllZip, AllByRecursion}
use Rattle.lie_base.proofs.Whole.{add-mul}
use Rattle.lie_base.proofs.Members.{In, here, there, from_map}
use Rattle.lie_datum.specs.declared.root_pair.Root.{Root}
use Rattle.lie_datum.specs.Vectors.{Vector, plus, times, minus, total, entry}
use Rattle.lie_datum.specs.RootDatum.{opposite, IsRoot}
use Rattle.lie_datum.specs.RootList.{RootDatum, IsLoaded, IsNumber, root_of, all_roots, height}
use Rattle.lie_datum.proofs.ClosureLemmas.{in_one}
use Rattle.lie_datum.proofs.NumberLemmas.{some_within}
use Rattle.lie_datum.proofs.Entries.{entry-plus, entry-times}
use Rattle.lie_datum.proofs.HeightLemmas.{total-plus, height_positive, number_is_positive, positive_number, before_by_height, entries_not_negative, positive_from_entries}
use Rattle.lie_datum.proofs.SignedRoots.{root_is}
use Rattle.lie_datum.proofs.LoadedLaws.{all_only, all_in, twice_opposite}
use Rattle.lie_const.specs.declared.term.Term.{Term}
use Rattle.lie_const.specs.StructureConstants.{coeffs_of, find_root, same_vector}
use Rattle.lie_const.specs.CommutatorTerms.{number_of, exponents, term_vector, IsTerm, IsPair}
use Rattle.lie_const.specs.ConstantTables.{ConstantTable, value_of, terms_of, LoadsConstants}
use Rattle.lie_letters.specs.RootSystems.{times as multiple}
use Rattle.lie_letters.proofs.NameLemmas.{same_vector-true, same_vector-self}

-- ---- lists
found_member : {A : Type 0} (p : A → Bool) (xs : List A) → is_some (find p xs) ≡ true → (x : A) × In x xs × (p x ≡ true)
found_member p [] e = cc
found_member p (x ∷ xs) e = by (p x) refl e (found_member p xs)
  where
    by : (t : Bool) → p x ≡ t → is_some (cond t (Some x) (find p xs)) ≡ true → (is_some (find p xs) ≡ true → (y : _) × In y xs × (p y ≡ true)) → (y : _) × In y (x ∷ xs) × (p y ≡ true)
    by true h e rest = (x, here refl, h)
    by false h e rest = let m = rest e in (m.0, there m.1, m.2)

-- a member that passes is found at a place within the list
passes_within : {A : Type 0} (p : A → Bool) (xs : List A) (x : A) → In x xs → p x ≡ true → position_or_len p xs < length xs
passes_within p [] x h e = elim h [ ]
passes_within p (y ∷ xs) x h e = by (p y) refl h (λ q. passes_within p xs x q e)
  where
    by : (t : Bool) → p y ≡ t → In x (y ∷ xs) → (In x xs → position_or_len p xs < length xs) → cond (not t) (1 + position_or_len p xs) 0 < length (y ∷ xs)
    by true h q rest = omega arith
    by false h (here s) rest = absurd (true≢false (sym e ∙ ap p s ∙ h))
    by false h (there q) rest = let l = rest q in omega (arith, l)

position_found : {A : Type 0} (p : A → Bool) (xs : List A) (x : A) → In x xs → p x ≡ true → position p xs ≡ Some (position_or_len p xs)
position_found p xs x h e =
    cond-true (ltb (position_or_len p xs) (length xs)) (Some (position_or_len p xs)) None (lt-ltb (position_or_len p xs) (length xs) (passes_within p xs x h e))

-- each of the second list stands beside one that passes
beside_kept : {A B : Type 0} (R : A → B → Type 0) (p : A → Bool) (xs : List A) (ys : List B) → AllZip R (filter p xs) ys
    → AllByRecursion (λ y. (x : A) × In x xs × (p x ≡ true) × R x y) ys
beside_kept R p [] [] h = tt
beside_kept R p [] (y ∷ ys) h = absurd h
beside_kept {A} {B} R p (x ∷ xs) ys h = by (λ zs g. weaker zs (beside_kept R p xs zs g)) (p x) refl ys h
  where
    weaker : (ys : List B) → AllByRecursion (λ y. (z : A) × In z xs × (p z ≡ true) × R z y) ys → AllByRecursion (λ y. (z : A) × In z (x ∷ xs) × (p z ≡ true) × R z y) ys
    weaker [] m = tt
    weaker (y ∷ ys) m = let w = m.0 in ((w.0, there w.1, w.2, w.3), weaker ys m.1)

    by : ((ys : List B) → AllZip R (filter p xs) ys → AllByRecursion (λ y. (z : A) × In z (x ∷ xs) × (p z ≡ true) × R z y) ys) → (t : Bool) → p x ≡ t → (ys : List B)
        → AllZip R (cond t (x ∷ filter p xs) (filter p xs)) ys → AllByRecursion (λ y. (z : A) × In z (x ∷ xs) × (p z ≡ true) × R z y) ys
    by rest true e [] h = absurd h
    by rest true e (y ∷ ys) h = ((x, here refl, e, h.0), rest ys h.1)
    by rest false e ys h = rest ys h

-- ---- vectors and the numbers of roots
minus-minus : (v : Vector) → minus (minus v) ≡ v
minus-minus v = ap (λ r. r.coeffs) (twice_opposite (record { coeffs = v; co_coeffs = [] }))

-- the number k names a root with the coefficients v
pub record Names (d : RootDatum) (v : Vector) (k : ℤ) : Type 0 where
  pub number : IsNumber d k
  pub coeffs : coeffs_of d k ≡ v

module _ (d : RootDatum) (v : Vector) where
  abbrev nothing : Root
  nothing = record { coeffs = []; co_coeffs = [] }

  abbrev up : Root → Bool
  up r = same_vector r.coeffs v

  abbrev down : Root → Bool
  down r = same_vector r.coeffs (minus v)

  names_up : (k : ℕ) → position up d.positive ≡ Some k → Names d v (pos (k + 1))
  names_up k e =
      let at = position-Some up d.positive k nothing e in
      rw add-one (record {
        number = some_within d.positive k at.0;
        coeffs = ap (λ r. r.coeffs) (unwrap_or-slice_get d.positive k nothing) ∙ same_vector-true (get_or d.positive k nothing).coeffs v at.1;
      })

  unwrapped : (o : Option Root) → IsSome o → (unwrap_or (option_map opposite o) nothing).coeffs ≡ minus (unwrap_or o nothing).coeffs
  unwrapped None h = cc
  unwrapped (Some r) h = refl

  mapped : (o : Option Root) → IsSome o → IsSome (option_map opposite o)
  mapped None h = cc
  mapped (Some r) h = refl

  names_down : (k : ℕ) → position down d.positive ≡ Some k → Names d v (negsuc k)
  names_down k e =
      let at = position-Some down d.positive k nothing e in
      let some = some_within d.positive k at.0 in
      record {
        number = mapped (slice_get d.positive k) some;
        coeffs =
            unwrapped (slice_get d.positive k) some
            ∙ ap minus (ap (λ r. r.coeffs) (unwrap_or-slice_get d.positive k nothing) ∙ same_vector-true (get_or d.positive k nothing).coeffs (minus v) at.1)
            ∙ minus-minus v;
      }

  names_by : (o p : Option ℕ) → position up d.positive ≡ o → position down d.positive ≡ p → is_some o ≡ true ⊎ is_some p ≡ true
      → Names d v (option_map_or (λ k. pos (k + 1)) o (option_map_or negsuc p (pos 0)))
  names_by (Some k) p e f h = names_up k e
  names_by None (Some k) e f h = names_down k f
  names_by None None e f h = ⊎_elim (λ g. absurd (true≢false (sym g))) (λ g. absurd (true≢false (sym g))) h

  -- `number_of` names the root with these coefficients, if there is one
  pub number_of-names : IsLoaded d → (r : Root) → IsRoot d.base r → r.coeffs ≡ v → Names d v (number_of d v)
  number_of-names loaded r p e = names_by (position up d.positive) (position down d.positive) refl refl (somewhere (in_one d.positive (map opposite d.positive) r (all_in d loaded r p)))
    where
      listed : In r d.positive → is_some (position up d.positive) ≡ true
      listed h = ap is_some (position_found up d.positive r h (ap (λ c. same_vector c v) e ∙ same_vector-self v))

      opposed : (s : Root) → In s d.positive → r ≡ opposite s → is_some (position down d.positive) ≡ true
      opposed s h f =
          let is : s.coeffs ≡ minus v = sym (minus-minus s.coeffs) ∙ ap minus (ap (λ t. t.coeffs) (sym f) ∙ e) in
          ap is_some (position_found down d.positive s h (ap (λ c. same_vector c (minus v)) is ∙ same_vector-self (minus v)))

      somewhere : In r d.positive ⊎ In r (map opposite d.positive) → is_some (position up d.positive) ≡ true ⊎ is_some (position down d.positive) ≡ true
      somewhere (inl h) = inl (listed h)
      somewhere (inr h) = let s = from_map opposite r d.positive h in inr (opposed s.0 s.1 s.2)

-- ---- terms
-- exponents are at least 1
in_exponents : (e : ℕ × ℕ) (es : List (ℕ × ℕ)) → AllByRecursion (λ x. (1 ≤ x.0) × (1 ≤ x.1)) es → In e es → (1 ≤ e.0) × (1 ≤ e.1)
in_exponents e [] h m = elim m [ ]
in_exponents e (x ∷ es) h (here s) = subst (λ z. (1 ≤ z.0) × (1 ≤ z.1)) (sym s) h.0
in_exponents e (x ∷ es) h (there m) = in_exponents e es h.1 m

large_exponents : AllByRecursion (λ (x : ℕ × ℕ). (1 ≤ x.0) × (1 ≤ x.1)) exponents
large_exponents =
    ((omega arith, omega arith), ((omega arith, omega arith), ((omega arith, omega arith), ((omega arith, omega arith), ((omega arith, omega arith), ((omega arith, omega arith), ((omega arith, omega arith), tt)))))))

-- the term is at the root i r + j s, and i and j are at least 1
pub record IsTermAt (d : RootDatum) (r s : ℤ) (c : Term) : Type 0 where
  pub first : 1 ≤ c.i
  pub second : 1 ≤ c.j
  pub number : IsNumber d c.root
  pub coeffs : coeffs_of d c.root ≡ plus (times (pos c.i) (coeffs_of d r)) (times (pos c.j) (coeffs_of d s))

module _ (d : RootDatum) (loaded : IsLoaded d) where
  term_at : (n : ℤ → ℤ → ℤ) (r s : ℤ) (c : Term) (e : ℕ × ℕ) → In e exponents → is_some (find_root d (term_vector d r s e)) ≡ true → IsTerm d n r s e c → IsTermAt d r s c
  term_at n r s c e m passes t =
      let large = in_exponents e exponents large_exponents m in
      let v = term_vector d r s e in
      let found = found_member (λ x. same_vector x.coeffs v) (all_roots d) passes in
      let named = number_of-names d v loaded found.0 (all_only d loaded found.0 found.1) (same_vector-true found.0.coeffs v found.2) in
      record {
        first = subst (λ k. 1 ≤ k) (sym t.i) large.0;
        second = subst (λ k. 1 ≤ k) (sym t.j) large.1;
        number = subst (IsNumber d) (sym t.root) named.number;
        coeffs =
            ap (coeffs_of d) t.root ∙ named.coeffs
            ∙ ap₂ (λ i j. plus (times (pos i) (coeffs_of d r)) (times (pos j) (coeffs_of d s))) (sym t.i) (sym t.j);
      }

  -- the terms of two roots
  pub terms_at-roots : (c : ConstantTable) (r s : ℤ) → LoadsConstants d (Ok c) → IsPair d r s → AllByRecursion (IsTermAt d r s) (terms_of c r s)
  terms_at-roots c r s h p =
      walk (terms_of c r s) (beside_kept (IsTerm d (value_of c) r s) (λ e. is_some (find_root d (term_vector d r s e))) exponents (terms_of c r s) (h.2 r s p))
    where
      walk : (ts : List Term) → AllByRecursion (λ t. (e : ℕ × ℕ) × In e exponents × (is_some (find_root d (term_vector d r s e)) ≡ true) × IsTerm d (value_of c) r s e t) ts
          → AllByRecursion (IsTermAt d r s) ts
      walk [] m = tt
      walk (t ∷ ts) m = (term_at (value_of c) r s t m.0.0 m.0.1 m.0.2 m.0.3, walk ts m.1)

-- ---- heights
total-times : (k : ℕ) (v : Vector) → total (λ c. c) (times (pos k) v) ≡ multiple k (total (λ c. c) v)
total-times k [] = sym (nothing_times k)
  where
    nothing_times : (k : ℕ) → multiple k (pos 0) ≡ pos 0
    nothing_times zero = refl
    nothing_times (suc k) = let e = nothing_times k in omega (arith, ints, e)
total-times k (a ∷ v) = let e = total-times k v in let f = multiple_is k a in let g = multiple-sum k a (total (λ c. c) v) in omega (arith, ints, e, f, g)
  where
    multiple_is : (k : ℕ) (z : ℤ) → pos k *ℤ z ≡ multiple k z
    multiple_is zero z = omega (arith, ints)
    multiple_is (suc k) z = let e = multiple_is k z in times_suc k z ∙ ap (λ t. z +ℤ t) e
      where
        times_suc : (k : ℕ) (z : ℤ) → pos (suc k) *ℤ z ≡ z +ℤ pos k *ℤ z
        times_suc k z = ap (λ t. t *ℤ z) (more k) ∙ add-mul (pos 1) (pos k) z ∙ ap (λ t. t +ℤ pos k *ℤ z) (one_z z)
          where
            more : (k : ℕ) → pos (suc k) ≡ pos 1 +ℤ pos k
            more k = omega (arith, ints)

            one_z : (z : ℤ) → pos 1 *ℤ z ≡ z
            one_z z = omega (arith, ints)

    multiple-sum : (k : ℕ) (a b : ℤ) → multiple k (a +ℤ b) ≡ multiple k a +ℤ multiple k b
    multiple-sum zero a b = refl
    multiple-sum (suc k) a b = let e = multiple-sum k a b in omega (arith, ints, e)

-- a positive multiple of a positive number is no less
multiple_large : (k : ℕ) (z : ℤ) → 1 ≤ k → pos 0 <ℤ z → z ≤ℤ multiple k z
multiple_large zero z l h = absurd (omega (arith, l))
multiple_large (suc k) z l h = let m = not_negative k z h in omega (arith, ints, m)
  where
    not_negative : (k : ℕ) (z : ℤ) → pos 0 <ℤ z → pos 0 ≤ℤ multiple k z
    not_negative zero z h = omega (arith, ints)
    not_negative (suc k) z h = let m = not_negative k z h in omega (arith, ints, m, h)

-- the term is at a root that stands after r and s
pub record IsLaterTerm (d : RootDatum) (r s : ℤ) (c : Term) : Type 0 where
  pub at : IsTermAt d r s c
  pub positive : pos 0 <ℤ c.root
  pub after_first : r <ℤ c.root
  pub after_second : s <ℤ c.root

module _ (d : RootDatum) (loaded : IsLoaded d) (r s : ℤ) (m : IsNumber d r) (n : IsNumber d s) (p : pos 0 <ℤ r) (q : pos 0 <ℤ s) where
  height-term : (c : Term) → IsTermAt d r s c → height (root_of d c.root) ≡ multiple c.i (height (root_of d r)) +ℤ multiple c.j (height (root_of d s))
  height-term c h =
      ap (total (λ z. z)) h.coeffs
      ∙ total-plus (times (pos c.i) (coeffs_of d r)) (times (pos c.j) (coeffs_of d s))
      ∙ ap₂ ◌+ℤ◌ (total-times c.i (coeffs_of d r)) (total-times c.j (coeffs_of d s))

  not_negative : (k : ℤ) → IsNumber d k → pos 0 <ℤ k → (j : ℕ) → pos 0 ≤ℤ entry (coeffs_of d k) j
  not_negative k h l = entries_not_negative (coeffs_of d k) (number_is_positive d loaded k h l)

  product_not_negative : (k : ℕ) (z : ℤ) → pos 0 ≤ℤ z → pos 0 ≤ℤ (pos k *ℤ z)
  product_not_negative k (pos a) h = omega (arith, ints)
  product_not_negative k (negsuc a) h = absurd (omega (arith, ints, h))

  later : (c : Term) → IsTermAt d r s c → IsLaterTerm d r s c
  later c h =
      let a = height (root_of d r) in
      let b = height (root_of d s) in
      let up = height_positive d loaded (root_of d r) (root_is d loaded r m) (number_is_positive d loaded r m p) in
      let down = height_positive d loaded (root_of d s) (root_is d loaded s n) (number_is_positive d loaded s n q) in
      let first = multiple_large c.i a h.first up in
      let second = multiple_large c.j b h.second down in
      let total_is = height-term c h in
      let positive = positive_number d loaded c.root h.number (positive_from_entries (coeffs_of d c.root) (λ j.
      (let e = ap (λ v. entry v j) h.coeffs ∙ entry-plus (times (pos c.i) (coeffs_of d r)) (times (pos c.j) (coeffs_of d s)) j
      ∙ ap₂ ◌+ℤ◌ (entry-times (pos c.i) (coeffs_of d r) j) (entry-times (pos c.j) (coeffs_of d s) j) in
      let x = product_not_negative c.i (entry (coeffs_of d r) j) (not_negative r m p j) in
      let y = product_not_negative c.j (entry (coeffs_of d s) j) (not_negative s n q j) in
      omega (arith, ints, e, x, y)))) in
      record {
        at = h;
        positive = positive;
        after_first = before_by_height d loaded r c.root m h.number p positive (omega (arith, ints, up, down, first, second, total_is));
        after_second = before_by_height d loaded s c.root n h.number q positive (omega (arith, ints, up, down, first, second, total_is));
      }

  -- the terms of two positive roots stand after both
  pub later_terms : (ts : List Term) → AllByRecursion (IsTermAt d r s) ts → AllByRecursion (IsLaterTerm d r s) ts
  later_terms [] h = tt
  later_terms (c ∷ ts) h = (later c h.0, later_terms ts h.1)
