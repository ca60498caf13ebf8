-- A test that a table holds the constants and terms of a loaded datum: what it passes does. Its purpose is worked examples.
use Rattle.std.proofs.Common.{◌≡◌, ◌≢◌, ℕ, zero, suc, ◌+◌, ◌<◌, ◌≤◌, eqb, Bool, true, false, not, ◌&&◌, ◌||◌, ℤ, pos, negsuc, neg_ℤ, ◌+ℤ◌, ◌*ℤ◌, ◌<ℤ◌, List, [], ◌∷◌, length, Ok, refl, sym, ap, ◌∙◌, arith, inl, inr, ◌⊎◌, ⊎_elim, slice_get}
use Rattle.std.specs.Prelude.{int_lt}
use Rattle.std.proofs.lemmas.Int.{ints, by_lt_z}
use Rattle.std.proofs.lemmas.Bool.{and_parts, and_from, or_left, or_right, or_cases, not-true, eqb-true, true≢false, false≢true, cases_Bool}
use Rattle.std.proofs.lemmas.Bool.Decides.{Decides-int_eq}
use Rattle.std.specs.Ordering.{int_eq}
use Rattle.std.specs.List.{list_any, AllZip}
use Rattle.lie_base.proofs.Members.{In, here, there}
use Rattle.lie_datum.specs.declared.root_pair.Root.{Root}
use Rattle.lie_datum.specs.Vectors.{Vector, plus, times, minus}
use Rattle.lie_datum.specs.RootDatum.{opposite}
use Rattle.lie_datum.specs.RootList.{RootDatum, IsLoaded, IsNumber, root_of, all_roots, IsRootVector, IsRun, IsString}
use Rattle.lie_datum.proofs.Entries.{within_or_past}
use Rattle.lie_datum.proofs.NumberLemmas.{within, some_map, some_within}
use Rattle.lie_datum.proofs.SignedRoots.{number_is}
use Rattle.lie_datum.proofs.LoadedLaws.{all_only, all_in}
use Rattle.lie_base.proofs.Whole.{mul-one}
use Rattle.lie_const.proofs.SumLemmas.{sum_positive}
use Rattle.lie_const.specs.declared.term.Term.{Term}
use Rattle.lie_const.specs.StructureConstants.{same_vector, Table, coeffs_of, IsSum, IsSpecial, IsExtraspecial, norm, gap, IsForced, extra, own, right, left, IsUnitValue, StandsFor}
use Rattle.lie_const.specs.CommutatorTerms.{number_of, coefficient, term_vector, term_exponents, IsTerm}
use Rattle.lie_const.specs.ConstantTables.{ConstantTable, value_of, terms_of, LoadsConstants}
use Rattle.lie_datum.proofs.RootOrder.{same_vector-true, same_vector-self}
use Rattle.lie_datum.proofs.LoadedTest.{each_below, each_at}

pub same_or : (a b : Bool) → (a || b) ≡ true → a ≡ false → b ≡ true
same_or true b e h = absurd (true≢false h)
same_or false b e h = e

any_member : {A : Type 0} (p : A → Bool) (xs : List A) → list_any p xs ≡ true → (x : A) × In x xs × (p x ≡ true)
any_member p [] e = absurd (false≢true e)
any_member {A} p (x ∷ xs) e = by (any_member p xs) (p x) refl e
  where
    by : (list_any p xs ≡ true → (y : A) × In y xs × (p y ≡ true)) → (t : Bool) → p x ≡ t → (t || list_any p xs) ≡ true → (y : A) × In y (x ∷ xs) × (p y ≡ true)
    by rest true h e = (x, here refl, h)
    by rest false h e = let m = rest e in (m.0, there m.1, m.2)

any_from : {A : Type 0} (p : A → Bool) (xs : List A) (x : A) → In x xs → p x ≡ true → list_any p xs ≡ true
any_from p [] x h e = elim h [ ]
any_from p (y ∷ xs) x (here s) e = ap (λ t. t || list_any p xs) (ap p (sym s) ∙ e)
any_from p (y ∷ xs) x (there h) e = last (p y) (any_from p xs x h e)
  where
    last : (t : Bool) → list_any p xs ≡ true → (t || list_any p xs) ≡ true
    last true e = refl
    last false e = e

-- a number below n passes
abbrev some_below : ℕ → (ℕ → Bool) → Bool
some_below zero t = false
some_below (suc n) t = t n || some_below n t

some_at : (n : ℕ) (t : ℕ → Bool) → some_below n t ≡ true → (k : ℕ) × (t k ≡ true) × (k < n)
some_at zero t e = absurd (false≢true e)
some_at (suc n) t e =
    ⊎_elim (λ (h : t n ≡ true). (n, h, omega arith))
    (λ (h : some_below n t ≡ true). (let m = some_at n t h in (m.0, m.1, (let l = m.2 in omega (arith, l)))))
    (or_cases (t n) (some_below n t) e)

some_from : (n : ℕ) (t : ℕ → Bool) (k : ℕ) → k < n → t k ≡ true → some_below n t ≡ true
some_from zero t k l e = absurd (omega (arith, l))
some_from (suc n) t k l e =
    ⊎_elim (λ (m : k < n). or_right (t n) (some_below n t) (some_from n t k m e))
    (λ (m : n ≤ k). (let same : k ≡ n = omega (arith, l, m) in or_left (t n) (some_below n t) (ap t (sym same) ∙ e))) (within_or_past k n)

-- ---- the tests
module _ (d : RootDatum) where
  -- each number of a root, and each positive one
  abbrev pub each_number : (ℤ → Bool) → Bool
  each_number t = each_below (length d.positive) (λ k. t (pos (suc k)) && t (negsuc k))

  abbrev each_positive : (ℤ → Bool) → Bool
  each_positive t = each_below (length d.positive) (λ k. t (pos (suc k)))

  abbrev some_positive : (ℤ → Bool) → Bool
  some_positive t = some_below (length d.positive) (λ k. t (pos (suc k)))

  -- the vector is one of a root
  abbrev root_test : Vector → Bool
  root_test v = list_any (λ r. same_vector r.coeffs v) (all_roots d)

  abbrev sum_vector : ℤ → ℤ → Vector
  sum_vector r s = plus (coeffs_of d r) (coeffs_of d s)

  -- r + s = k
  abbrev sum_test : ℤ → ℤ → ℤ → Bool
  sum_test r s k = same_vector (coeffs_of d k) (sum_vector r s)

  -- the run of s along r has n members
  abbrev run_test : Vector → Vector → ℕ → Bool
  run_test r s n = each_below n (λ k. root_test (plus s (times (pos (suc k)) r))) && not (root_test (plus s (times (pos (n + 1)) r)))

  -- s can be lowered p times by r
  abbrev string_test : ℤ → ℤ → ℕ → Bool
  string_test r s p = run_test (minus (coeffs_of d r)) (coeffs_of d s) p

  -- a special pair with the sum k, and one whose first root comes before r
  abbrev special_test : ℤ → ℤ → ℤ → Bool
  special_test r s k = int_lt r s && sum_test r s k

  abbrev earlier_test : ℤ → ℤ → Bool
  earlier_test r k = some_positive (λ q. int_lt q r && some_positive (λ s. special_test q s k))

  module _ (n : Table) where
    -- N_rs is p + 1 or its opposite
    abbrev unit_test : ℤ → ℤ → Bool
    unit_test r s = some_below 4 (λ p. string_test r s p && (int_eq (n r s) (pos (p + 1)) || int_eq (n r s) (neg_ℤ (pos (p + 1)))))

    -- N_rs is p + 1
    abbrev first_test : ℤ → ℤ → Bool
    first_test r s = some_below 4 (λ p. string_test r s p && int_eq (n r s) (pos (p + 1)))

    -- the signs at a pair
    abbrev signs_test : ℤ → ℤ → Bool
    signs_test r s =
        (root_test (sum_vector r s) || int_eq (n r s) (pos 0)) && (int_eq (n s r) (neg_ℤ (n r s)) && int_eq (n (neg_ℤ r) (neg_ℤ s)) (neg_ℤ (n r s)))

    -- the equation of (r, s) with the extraspecial pair (r0, s0)
    abbrev own_test : ℤ → ℤ → ℤ → ℤ → ℤ → Bool
    own_test r s k r0 s0 =
        int_eq (n r s *ℤ (n r0 s0 *ℤ gap d s r0 *ℤ gap d r r0))
        (norm d k *ℤ (n s (neg_ℤ r0) *ℤ n r (neg_ℤ s0) *ℤ gap d r r0 +ℤ n (neg_ℤ r0) r *ℤ n s (neg_ℤ s0) *ℤ gap d s r0))

    -- the equations of the special pair (r, s) with the sum k
    abbrev pair_test : ℤ → ℤ → ℤ → Bool
    pair_test r s k =
        (unit_test r s && (earlier_test r k || first_test r s))
        && (((int_eq (n s (neg_ℤ k) *ℤ norm d k) (n r s *ℤ norm d r) && unit_test s (neg_ℤ k)) && (int_eq (n (neg_ℤ k) r *ℤ norm d k) (n r s *ℤ norm d s) && unit_test (neg_ℤ k) r))
        && each_positive (λ r0. each_positive (λ s0. int_eq r0 r || (not (special_test r0 s0 k) || (earlier_test r0 k || own_test r s k r0 s0)))))

    abbrev table_test : Bool
    table_test =
        each_number (λ r. each_number (λ s. signs_test r s))
        && each_positive (λ r. each_positive (λ s. each_positive (λ k. not (special_test r s k) || pair_test r s k)))

    -- the terms of a pair
    abbrev term_test : ℤ → ℤ → ℕ × ℕ → Term → Bool
    term_test r s e t =
        (eqb t.i e.0 && eqb t.j e.1)
        && (int_eq t.root (number_of d (term_vector d r s e))
        && (let q = coefficient d n (coeffs_of d r) (coeffs_of d s) e.0 e.1 in int_eq (t.value *ℤ pos q.below) q.above))

    abbrev terms_test : ℤ → ℤ → List (ℕ × ℕ) → List Term → Bool
    terms_test r s [] [] = true
    terms_test r s [] (t ∷ ts) = false
    terms_test r s (e ∷ es) [] = false
    terms_test r s (e ∷ es) (t ∷ ts) = term_test r s e t && terms_test r s es ts

-- the table holds the constants and the terms
abbrev pub constants_test : RootDatum → ConstantTable → Bool
constants_test d c =
    eqb c.positive (length d.positive)
    && (table_test d (value_of c)
    && each_number d (λ r. each_number d (λ s. int_eq s r || (int_eq s (neg_ℤ r) || terms_test d (value_of c) r s (term_exponents d r s) (terms_of c r s)))))

-- ---- what the tests say
module _ (d : RootDatum) where
  pub number_at : (t : ℤ → Bool) → each_number d t ≡ true → (k : ℤ) → IsNumber d k → t k ≡ true
  number_at t e (pos zero) h = cc
  number_at t e (pos (suc k)) h =
      (and_parts (t (pos (suc k))) (t (negsuc k)) (each_at (length d.positive) (λ k. t (pos (suc k)) && t (negsuc k)) e k (within d.positive k h))).0
  number_at t e (negsuc k) h =
      (and_parts (t (pos (suc k))) (t (negsuc k)) (each_at (length d.positive) (λ k. t (pos (suc k)) && t (negsuc k)) e k (within d.positive k (some_map opposite (slice_get d.positive k) h)))).1

  positive_at : (t : ℤ → Bool) → each_positive d t ≡ true → (k : ℤ) → IsNumber d k → pos 0 <ℤ k → t k ≡ true
  positive_at t e (pos zero) h l = cc
  positive_at t e (pos (suc k)) h l = each_at (length d.positive) (λ k. t (pos (suc k))) e k (within d.positive k h)
  positive_at t e (negsuc k) h l = absurd (omega (arith, ints, l))

  int_lt-true : (a b : ℤ) → a <ℤ b → int_lt a b ≡ true
  int_lt-true a b l = ⊎_elim (λ (e : int_lt a b ≡ true). e) (λ (e : int_lt a b ≡ false). absurd (omega (arith, ints, l, e))) (cases_Bool (int_lt a b))

  pub is_equal : (a b : ℤ) → int_eq a b ≡ true → a ≡ b
  is_equal a b e = (Decides-int_eq a b).0 e

  not_equal : (a b : ℤ) → a ≢ b → int_eq a b ≡ false
  not_equal a b h = ⊎_elim (λ (e : int_eq a b ≡ true). absurd (h (is_equal a b e))) (λ (e : int_eq a b ≡ false). e) (cases_Bool (int_eq a b))

  module _ (loaded : IsLoaded d) where
    root_from : (v : Vector) → root_test d v ≡ true → IsRootVector d v
    root_from v e =
        let m = any_member (λ (r : Root). same_vector r.coeffs v) (all_roots d) e in
        (m.0, all_only d loaded m.0 m.1, same_vector-true m.0.coeffs v m.2)

    root_to : (v : Vector) → IsRootVector d v → root_test d v ≡ true
    root_to v h = any_from (λ (r : Root). same_vector r.coeffs v) (all_roots d) h.0 (all_in d loaded h.0 h.1) (ap (λ w. same_vector w v) h.2 ∙ same_vector-self v)

    pub run_from : (r s : Vector) (n : ℕ) → run_test d r s n ≡ true → IsRun d r s n
    run_from r s n e =
        let p = and_parts (each_below n (λ k. root_test d (plus s (times (pos (suc k)) r)))) (not (root_test d (plus s (times (pos (n + 1)) r)))) e in
        record {
          roots = members p.0;
          ends = λ h. true≢false (sym (root_to (plus s (times (pos (n + 1)) r)) h) ∙ not-true (root_test d (plus s (times (pos (n + 1)) r))) p.1);
        }
      where
        members : each_below n (λ k. root_test d (plus s (times (pos (suc k)) r))) ≡ true → (k : ℕ) → 1 ≤ k → k ≤ n → IsRootVector d (plus s (times (pos k) r))
        members q zero l m = absurd (omega (arith, l))
        members q (suc k) l m = root_from (plus s (times (pos (suc k)) r)) (each_at n (λ k. root_test d (plus s (times (pos (suc k)) r))) q k (omega (arith, m)))

    -- a run has one length
    one_run : (r s : Vector) (m n : ℕ) → IsRun d r s m → IsRun d r s n → m ≡ n
    one_run r s m n a b = by (compare m n)
      where
        compare : (m n : ℕ) → (m ≡ n) ⊎ ((m < n) ⊎ (n < m))
        compare m n = grind arith

        by : (m ≡ n) ⊎ ((m < n) ⊎ (n < m)) → m ≡ n
        by (inl e) = e
        by (inr (inl l)) = absurd (a.ends (b.roots (m + 1) (omega arith) (omega (arith, l))))
        by (inr (inr l)) = absurd (b.ends (a.roots (n + 1) (omega arith) (omega (arith, l))))

    module _ (n : Table) where
      unit_from : (r s : ℤ) → unit_test d n r s ≡ true → IsUnitValue d n r s
      unit_from r s e p q string =
          let k = some_at 4 (λ p. string_test d r s p && (int_eq (n r s) (pos (p + 1)) || int_eq (n r s) (neg_ℤ (pos (p + 1))))) e in
          let both = and_parts (string_test d r s k.0) (int_eq (n r s) (pos (k.0 + 1)) || int_eq (n r s) (neg_ℤ (pos (k.0 + 1)))) k.1 in
          let same = one_run (minus (coeffs_of d r)) (coeffs_of d s) k.0 p (run_from (minus (coeffs_of d r)) (coeffs_of d s) k.0 both.0) string.0 in
          ⊎_elim
          (λ (h : int_eq (n r s) (pos (k.0 + 1)) ≡ true). inl (is_equal (n r s) (pos (k.0 + 1)) h ∙ ap (λ j. pos (j + 1)) same))
          (λ (h : int_eq (n r s) (neg_ℤ (pos (k.0 + 1))) ≡ true). inr (is_equal (n r s) (neg_ℤ (pos (k.0 + 1))) h ∙ ap (λ j. neg_ℤ (pos (j + 1))) same))
          (or_cases (int_eq (n r s) (pos (k.0 + 1))) (int_eq (n r s) (neg_ℤ (pos (k.0 + 1)))) both.1)

      first_from : (r s : ℤ) → first_test d n r s ≡ true → (p q : ℕ) → IsString d (root_of d r) (root_of d s) p q → n r s ≡ pos (p + 1)
      first_from r s e p q string =
          let k = some_at 4 (λ p. string_test d r s p && int_eq (n r s) (pos (p + 1))) e in
          let both = and_parts (string_test d r s k.0) (int_eq (n r s) (pos (k.0 + 1))) k.1 in
          let same = one_run (minus (coeffs_of d r)) (coeffs_of d s) k.0 p (run_from (minus (coeffs_of d r)) (coeffs_of d s) k.0 both.0) string.0 in
          is_equal (n r s) (pos (k.0 + 1)) both.1 ∙ ap (λ j. pos (j + 1)) same

    some_positive_at : (t : ℤ → Bool) → some_positive d t ≡ true → (k : ℤ) × IsNumber d k × (pos 0 <ℤ k) × (t k ≡ true)
    some_positive_at t e =
        let m = some_at (length d.positive) (λ k. t (pos (suc k))) e in
        (pos (suc m.0), some_within d.positive m.0 m.2, omega (arith, ints), m.1)

    pub special_from : (r s k : ℤ) → IsNumber d r → IsNumber d s → IsNumber d k → pos 0 <ℤ r → special_test d r s k ≡ true → IsSpecial d r s k
    special_from r s k a b c l e =
        let p = and_parts (int_lt r s) (sum_test d r s k) e in
        let before = p.0 in
        record {
          positive = l;
          before = omega (arith, ints, before);
          sum = record { left = a; right = b; number = c; is = same_vector-true (coeffs_of d k) (sum_vector d r s) p.1 };
        }

    special_to : (r s k : ℤ) → IsSpecial d r s k → special_test d r s k ≡ true
    special_to r s k h =
        and_from (int_lt r s) (sum_test d r s k) (int_lt-true r s h.before) (ap (λ v. same_vector v (sum_vector d r s)) h.sum.is ∙ same_vector-self (sum_vector d r s))

    -- no special pair comes before an extraspecial one
    none_earlier : (r s k : ℤ) → IsExtraspecial d r s k → earlier_test d r k ≡ false
    none_earlier r s k h = ⊎_elim (λ e. absurd (found e)) (λ e. e) (cases_Bool (earlier_test d r k))
      where
        found : earlier_test d r k ≡ true → ⊥
        found e =
            let q = some_positive_at (λ q. int_lt q r && some_positive d (λ s. special_test d q s k)) e in
            let p = and_parts (int_lt q.0 r) (some_positive d (λ s. special_test d q.0 s k)) q.3 in
            let s' = some_positive_at (λ s. special_test d q.0 s k) p.1 in
            let first = h.first q.0 s'.0 (special_from q.0 s'.0 k q.1 s'.1 h.special.sum.number q.2 s'.3) in
            let less = p.0 in
            omega (arith, ints, first, less)

    -- a special pair before which no other comes is extraspecial
    pub extraspecial_from : (r s k : ℤ) → IsNumber d r → IsNumber d s → IsNumber d k → pos 0 <ℤ r → special_test d r s k ≡ true → earlier_test d r k ≡ false → IsExtraspecial d r s k
    extraspecial_from r s k a b c l e none = record {
      special = special_from r s k a b c l e;
      first = λ r' s' h. by_lt_z r' r (λ m. absurd (true≢false (sym (earlier r' s' h m) ∙ none))) (λ m. m);
    }
      where
        below : (t : ℤ → Bool) (q : ℤ) → IsNumber d q → pos 0 <ℤ q → t q ≡ true → some_positive d t ≡ true
        below t (pos zero) n l e = cc
        below t (pos (suc j)) n l e = some_from (length d.positive) (λ k. t (pos (suc k))) j (within d.positive j n) e
        below t (negsuc j) n l e = absurd (omega (arith, ints, l))

        earlier : (r' s' : ℤ) → IsSpecial d r' s' k → r' <ℤ r → earlier_test d r k ≡ true
        earlier r' s' h m =
            let up : pos 0 <ℤ s' = let x = h.positive in let y = h.before in omega (arith, ints, x, y) in
            below (λ q. int_lt q r && some_positive d (λ s. special_test d q s k)) r' h.sum.left h.positive
            (and_from (int_lt r' r) (some_positive d (λ s. special_test d r' s k)) (int_lt-true r' r m) (below (λ s. special_test d r' s k) s' h.sum.right up (special_to r' s' k h)))

    module _ (n : Table) (passed : table_test d n ≡ true) where
      parts : (each_number d (λ r. each_number d (λ s. signs_test d n r s)) ≡ true) × (each_positive d (λ r. each_positive d (λ s. each_positive d (λ k. not (special_test d r s k) || pair_test d n r s k))) ≡ true)
      parts = and_parts _ _ passed

      signs_at : (r s : ℤ) → IsNumber d r → IsNumber d s → (root_test d (sum_vector d r s) || int_eq (n r s) (pos 0)) ≡ true
          × (n s r ≡ neg_ℤ (n r s)) × (n (neg_ℤ r) (neg_ℤ s) ≡ neg_ℤ (n r s))
      signs_at r s a b =
          let t = number_at (λ s. signs_test d n r s) (number_at (λ r. each_number d (λ s. signs_test d n r s)) parts.0 r a) s b in
          let p = and_parts (root_test d (sum_vector d r s) || int_eq (n r s) (pos 0)) _ t in
          let q = and_parts (int_eq (n s r) (neg_ℤ (n r s))) (int_eq (n (neg_ℤ r) (neg_ℤ s)) (neg_ℤ (n r s))) p.1 in
          (p.0, is_equal (n s r) (neg_ℤ (n r s)) q.0, is_equal (n (neg_ℤ r) (neg_ℤ s)) (neg_ℤ (n r s)) q.1)

      none_at : (r s : ℤ) → IsNumber d r → IsNumber d s → ((k : ℤ) → ¬ IsSum d r s k) → n r s ≡ pos 0
      none_at r s a b none =
          ⊎_elim
          (λ (e : root_test d (sum_vector d r s) ≡ true).
          (let v = root_from (sum_vector d r s) e in
          let k = number_is d loaded v.0 v.1 in
          absurd (none k.0 (record { left = a; right = b; number = k.1; is = ap (λ (x : Root). x.coeffs) k.2 ∙ v.2 }))))
          (λ (e : int_eq (n r s) (pos 0) ≡ true). is_equal (n r s) (pos 0) e)
          (or_cases (root_test d (sum_vector d r s)) (int_eq (n r s) (pos 0)) (signs_at r s a b).0)

      -- the equations of a special pair
      pair_at : (r s k : ℤ) → IsSpecial d r s k → pair_test d n r s k ≡ true
      pair_at r s k h =
          let up : pos 0 <ℤ s = let a = h.positive in let b = h.before in omega (arith, ints, a, b) in
          let high = sum_positive d loaded r s k h.sum h.positive up in
          let at = λ (q : ℤ). not (special_test d r s q) || pair_test d n r s q in
          let t = positive_at at (positive_at (λ s. each_positive d (λ k. not (special_test d r s k) || pair_test d n r s k))
          (positive_at (λ r. each_positive d (λ s. each_positive d (λ k. not (special_test d r s k) || pair_test d n r s k))) parts.1 r h.sum.left h.positive) s h.sum.right up) k h.sum.number high in
          same_or (not (special_test d r s k)) (pair_test d n r s k) t (ap not (special_to r s k h))

      record Equations (r s k : ℤ) : Type 0 where
        own_unit : IsUnitValue d n r s
        right_equation : n s (neg_ℤ k) *ℤ norm d k ≡ n r s *ℤ norm d r
        right_unit : IsUnitValue d n s (neg_ℤ k)
        left_equation : n (neg_ℤ k) r *ℤ norm d k ≡ n r s *ℤ norm d s
        left_unit : IsUnitValue d n (neg_ℤ k) r
        first : (earlier_test d r k || first_test d n r s) ≡ true
        others : each_positive d (λ r0. each_positive d (λ s0. int_eq r0 r || (not (special_test d r0 s0 k) || (earlier_test d r0 k || own_test d n r s k r0 s0)))) ≡ true

      equations : (r s k : ℤ) → IsSpecial d r s k → Equations r s k
      equations r s k h =
          let p = and_parts _ _ (pair_at r s k h) in
          let a = and_parts (unit_test d n r s) (earlier_test d r k || first_test d n r s) p.0 in
          let q = and_parts _ _ p.1 in
          let b = and_parts _ _ q.0 in
          let x = and_parts (int_eq (n s (neg_ℤ k) *ℤ norm d k) (n r s *ℤ norm d r)) (unit_test d n s (neg_ℤ k)) b.0 in
          let y = and_parts (int_eq (n (neg_ℤ k) r *ℤ norm d k) (n r s *ℤ norm d s)) (unit_test d n (neg_ℤ k) r) b.1 in
          record {
            own_unit = unit_from n r s a.0;
            right_equation = is_equal _ _ x.0;
            right_unit = unit_from n s (neg_ℤ k) x.1;
            left_equation = is_equal _ _ y.0;
            left_unit = unit_from n (neg_ℤ k) r y.1;
            first = a.1;
            others = q.1;
          }

      own_at : (r s k r0 s0 : ℤ) → IsSpecial d r s k → IsExtraspecial d r0 s0 k → r0 ≢ r → own_test d n r s k r0 s0 ≡ true
      own_at r s k r0 s0 h g apart =
          let up : pos 0 <ℤ s0 = let a = g.special.positive in let b = g.special.before in omega (arith, ints, a, b) in
          let test = λ (q v : ℤ). int_eq q r || (not (special_test d q v k) || (earlier_test d q k || own_test d n r s k q v)) in
          let t = positive_at (test r0) (positive_at (λ q. each_positive d (test q)) (equations r s k h).others r0 g.special.sum.left g.special.positive) s0 g.special.sum.right up in
          let u = same_or (int_eq r0 r) _ t (not_equal r0 r apart) in
          let v = same_or (not (special_test d r0 s0 k)) _ u (ap not (special_to r0 s0 k g.special)) in
          same_or (earlier_test d r0 k) (own_test d n r s k r0 s0) v (none_earlier r0 s0 k g)

      holds : (at : _) (r s a e : ℤ) → IsForced d n at r s a e → ((n r s *ℤ a) ≡ e) × IsUnitValue d n r s
      holds _ _ _ _ _ (extra r s k p q h string) =
          let x = equations r s k h.special in
          (mul-one (n r s) ∙ first_from n r s (same_or (earlier_test d r k) (first_test d n r s) x.first (none_earlier r s k h)) p q string, x.own_unit)
      holds _ _ _ _ _ (own r s k r0 s0 h g apart) = (is_equal _ _ (own_at r s k r0 s0 h g apart), (equations r s k h).own_unit)
      holds _ _ _ _ _ (right r s k h) = ((equations r s k h).right_equation, (equations r s k h).right_unit)
      holds _ _ _ _ _ (left r s k h) = ((equations r s k h).left_equation, (equations r s k h).left_unit)

      stands : StandsFor d n
      stands = record {
        signs = record {
          none = none_at;
          swapped = λ r s a b. (signs_at r s a b).1;
          opposite = λ r s a b. (signs_at r s a b).2;
        };
        values = holds;
      }

    terms_from : (n : Table) (r s : ℤ) (es : List (ℕ × ℕ)) (ts : List Term) → terms_test d n r s es ts ≡ true → AllZip (IsTerm d n r s) es ts
    terms_from n r s [] [] e = tt
    terms_from n r s [] (t ∷ ts) e = absurd (false≢true e)
    terms_from n r s (x ∷ es) [] e = absurd (false≢true e)
    terms_from n r s (x ∷ es) (t ∷ ts) e =
        let p = and_parts (term_test d n r s x t) (terms_test d n r s es ts) e in
        let q = and_parts (eqb t.i x.0 && eqb t.j x.1) _ p.0 in
        let a = and_parts (eqb t.i x.0) (eqb t.j x.1) q.0 in
        let b = and_parts (int_eq t.root (number_of d (term_vector d r s x))) _ q.1 in
        (record { i = eqb-true t.i x.0 a.0; j = eqb-true t.j x.1 a.1; root = is_equal _ _ b.0; value = is_equal _ _ b.1 }, terms_from n r s es ts p.1)

-- a table that passes holds the constants and the terms
pub constants_from : (d : RootDatum) (c : ConstantTable) → IsLoaded d → constants_test d c ≡ true → LoadsConstants d (Ok c)
constants_from d c loaded e =
    let p = and_parts (eqb c.positive (length d.positive)) _ e in
    let q = and_parts (table_test d (value_of c)) _ p.1 in (
      eqb-true c.positive (length d.positive) p.0,
      stands d loaded (value_of c) q.0,
      λ r s pair.
          (let t = number_at d (λ s. int_eq s r || (int_eq s (neg_ℤ r) || terms_test d (value_of c) r s (term_exponents d r s) (terms_of c r s)))
          (number_at d (λ r. each_number d (λ s. int_eq s r || (int_eq s (neg_ℤ r) || terms_test d (value_of c) r s (term_exponents d r s) (terms_of c r s)))) q.1 r pair.left) s pair.right in
          let u = same_or (int_eq s r) _ t (not_equal d s r pair.unequal) in
          let v = same_or (int_eq s (neg_ℤ r)) _ u (not_equal d s (neg_ℤ r) pair.independent) in
          terms_from d loaded (value_of c) r s (term_exponents d r s) (terms_of c r s) v),
    )
