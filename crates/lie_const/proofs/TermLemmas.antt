-- The terms of two roots: none where the roots have no sum, and a number for each where its fraction is whole.
use Rattle.std.proofs.Common.{◌≡◌, ◌≢◌, ℕ, zero, suc, ◌+◌, ◌*◌, ◌<◌, ◌≤◌, ℤ, pos, negsuc, neg_ℤ, ◌+ℤ◌, ◌*ℤ◌, ◌≤ℤ◌, List, [], ◌∷◌, length, Bool, true, false, cond, Some, slice_get, refl, sym, ap, subst, ◌∙◌, arith, inl, inr, unsigned_abs}
use Rattle.std.proofs.lemmas.Int.{ints, by_lt_z}
use Rattle.std.specs.List.{filter, AllZip}
use Rattle.std.proofs.Common.{◌++◌, get_or, take}
use Rattle.std.proofs.lemmas.List.Elements.{filter_more}
use Rattle.std.proofs.lemmas.Slice.Zip.{all_zipped_more}
use Rattle.std.proofs.lemmas.List.{append-nil}
use Rattle.lie_const.specs.declared.faults.ConstFault.{ConstFault}
use Rattle.lie_const.specs.declared.faults.ConstFault.TheVariants.{NoMemory, Constant, Fraction}
use Rattle.lie_const.specs.TermFilling.{IsAdded, absent, present, IsFirstInPair, IsTermFault, IsPairFault}
use Rattle.std.specs.Option.{is_some}
use Rattle.lie_datum.specs.Vectors.{Vector, pairing, plus, times, combination}
use Rattle.lie_datum.specs.declared.root_pair.Root.{Root}
use Rattle.lie_datum.specs.RootDatum.{IsRoot, root_pairing, covector, opposite}
use Rattle.lie_datum.specs.RootList.{RootDatum, IsLoaded, IsRootVector, root_of}
use Rattle.lie_base.proofs.Members.{In, here, there}
use Rattle.lie_datum.proofs.Turns.{pairing-combination-plus, pairing-combination-times}
use Rattle.lie_datum.proofs.NormBound.{pairing_small}
use Rattle.lie_datum.proofs.LoadedLaws.{self, second}
use Rattle.lie_datum.proofs.SignedRoots.{root_is, number_is, same_number, opposite_number}
use Rattle.lie_const.specs.declared.term.Term.{Term}
use Rattle.lie_const.specs.StructureConstants.{Table, IsSum, find_root}
use Rattle.lie_const.specs.CommutatorTerms.{string_product, sign, factorial, coefficient, exponents, term_vector, term_exponents, IsTerm, IsFraction, IsPair}
use Rattle.lie_const.proofs.SumLemmas.{neg_neg, not_double, not_opposite}
use Rattle.lie_const.proofs.FoundRoots.{find_root_none}

-- what holds of the first and of the rest
in_cons : {A : Type 0} (P : A → Type 0) (x : A) (xs : List A) → P x → ((y : A) → In y xs → P y) → (y : A) → In y (x ∷ xs) → P y
in_cons P x xs p h y (here e) = subst P (sym e) p
in_cons P x xs p h y (there q) = h y q

exponents_positive : (e : ℕ × ℕ) → In e exponents → (1 ≤ e.0) × (1 ≤ e.1)
exponents_positive =
    let P : ℕ × ℕ → Type 0 = λ e. (1 ≤ e.0) × (1 ≤ e.1) in
    let one : (m n : ℕ) → 1 ≤ m → 1 ≤ n → P (m, n) = λ m n p q. (p, q) in
    in_cons P (1, 1) _ (one 1 1 (omega arith) (omega arith)) (in_cons P (1, 2) _ (one 1 2 (omega arith) (omega arith)) (in_cons P (2, 1) _ (one 2 1 (omega arith) (omega arith))
    (in_cons P (1, 3) _ (one 1 3 (omega arith) (omega arith)) (in_cons P (3, 1) _ (one 3 1 (omega arith) (omega arith)) (in_cons P (2, 3) _ (one 2 3 (omega arith) (omega arith))
    (in_cons P (3, 2) [] (one 3 2 (omega arith) (omega arith)) (λ e q. elim q [ ])))))))

-- ---- where r + s is no root, no i r + j s is
module _ (d : RootDatum) (loaded : IsLoaded d) (r s : ℤ) (pair : IsPair d r s) (none : (k : ℤ) → ¬ IsSum d r s k) where
  R : Root
  R = root_of d r

  S : Root
  S = root_of d s

  is_R : IsRoot d.base R
  unfolding R
  is_R = root_is d loaded r pair.left

  is_S : IsRoot d.base S
  unfolding S
  is_S = root_is d loaded s pair.right

  not_opposite_roots : R ≢ opposite S
  unfolding R S
  not_opposite_roots e =
      let o = opposite_number d s pair.right in
      let f = same_number d loaded r (neg_ℤ s) pair.left o.0 (e ∙ sym o.1) in
      pair.independent (sym (neg_neg s) ∙ ap neg_ℤ (sym f))

  no_sum : ¬ IsRootVector d (plus R.coeffs S.coeffs)
  unfolding R S
  no_sum h = let t = number_is d loaded h.0 h.1 in none t.0 (record { left = pair.left; right = pair.right; number = t.1; is = ap (λ z. z.coeffs) t.2 ∙ h.2 })

  -- neither pairing is negative
  right_pairing : pos 0 ≤ℤ root_pairing d.base S R
  right_pairing = by_lt_z (root_pairing d.base S R) (pos 0) (λ l. absurd (no_sum ((second d loaded).sum R S is_R is_S not_opposite_roots (inr l)))) (λ l. l)

  left_pairing : pos 0 ≤ℤ root_pairing d.base R S
  left_pairing = by_lt_z (root_pairing d.base R S) (pos 0) (λ l. absurd (no_sum ((second d loaded).sum R S is_R is_S not_opposite_roots (inl l)))) (λ l. l)

  -- the pairings of i r + j s
  combined : (t q : Root) (i j : ℕ) → t.coeffs ≡ plus (times (pos i) R.coeffs) (times (pos j) S.coeffs) → root_pairing d.base t q ≡ pos i *ℤ root_pairing d.base R q +ℤ pos j *ℤ root_pairing d.base S q
  combined t q i j e =
      ap (λ v. pairing (combination v d.base.roots) (covector d.base q)) e
      ∙ pairing-combination-plus (times (pos i) R.coeffs) S.coeffs (pos j) d.base.roots (covector d.base q)
      ∙ ap (λ z. z +ℤ pos j *ℤ root_pairing d.base S q) (pairing-combination-times (pos i) R.coeffs d.base.roots (covector d.base q))

  -- a number of at most 3 that is twice a number and a product
  at_most_one : (i j : ℕ) (a z : ℤ) → pos 0 ≤ℤ a → z ≡ pos i *ℤ pos 2 +ℤ pos j *ℤ a → unsigned_abs z ≤ 3 → i ≤ 1
  at_most_one i j (negsuc a) z p e l = absurd (omega (arith, ints, p))
  at_most_one i j (pos a) z p e l = by z (omega (arith, ints, e)) l
    where
      by : (z : ℤ) → pos (2 * i) ≤ℤ z → unsigned_abs z ≤ 3 → i ≤ 1
      by (pos n) h l = omega (arith, ints, h, l)
      by (negsuc n) h l = absurd (omega (arith, ints, h))

  times_one : (v : Vector) → times (pos 1) v ≡ v
  times_one [] = refl
  times_one (a ∷ v) = let e : pos 1 *ℤ a ≡ a = omega (arith, ints) in let f = times_one v in cc

  no_multiple : (i j : ℕ) → 1 ≤ i → 1 ≤ j → ¬ IsRootVector d (plus (times (pos i) R.coeffs) (times (pos j) S.coeffs))
  no_multiple i j p q h =
      let t = h.0 in
      let at_r = combined t R i j h.2 ∙ ap (λ z. pos i *ℤ z +ℤ pos j *ℤ root_pairing d.base S R) (self d loaded R is_R) in
      let at_s = combined t S i j h.2 ∙ ap (λ z. pos i *ℤ root_pairing d.base R S +ℤ pos j *ℤ z) (self d loaded S is_S) in
      let one_i = at_most_one i j (root_pairing d.base S R) (root_pairing d.base t R) right_pairing at_r (pairing_small d loaded t R h.1 is_R) in
      let one_j = at_most_one j i (root_pairing d.base R S) (root_pairing d.base t S) left_pairing (omega (arith, ints, at_s)) (pairing_small d loaded t S h.1 is_S) in
      let e : i ≡ 1 = omega (arith, p, one_i) in
      let f : j ≡ 1 = omega (arith, q, one_j) in
      no_sum (
        t,
        h.1,
        h.2 ∙ ap (λ n. plus (times (pos n) R.coeffs) (times (pos j) S.coeffs)) e ∙ ap (λ n. plus (times (pos 1) R.coeffs) (times (pos n) S.coeffs)) f
            ∙ ap (λ v. plus v (times (pos 1) S.coeffs)) (times_one R.coeffs) ∙ ap (plus R.coeffs) (times_one S.coeffs),
      )

  none_found : (i j : ℕ) → 1 ≤ i → 1 ≤ j → is_some (find_root d (term_vector d r s (i, j))) ≡ false
  unfolding R S
  none_found i j p q = ap is_some (find_root_none d loaded (term_vector d r s (i, j)) (λ t k e. no_multiple i j p q (t, k, e)))

  none_of : (es : List (ℕ × ℕ)) → ((e : ℕ × ℕ) → In e es → (1 ≤ e.0) × (1 ≤ e.1)) → filter (λ e. is_some (find_root d (term_vector d r s e))) es ≡ []
  none_of [] h = refl
  none_of (e ∷ es) h =
      let p = h e (here refl) in
      ap (λ t. cond t (e ∷ filter (λ e. is_some (find_root d (term_vector d r s e))) es) (filter (λ e. is_some (find_root d (term_vector d r s e))) es)) (none_found e.0 e.1 p.0 p.1) ∙ none_of es (λ x q. h x (there q))

  pub no_terms : term_exponents d r s ≡ []
  no_terms = none_of exponents exponents_positive

-- ---- the fraction of each (i, j)
module _ (d : RootDatum) (n : Table) (r s : Vector) where
  -- (1, j) for j other than 1
  pub coefficient-one : (j : ℕ) → j ≢ 1 → coefficient d n r s 1 j ≡ record { above = sign j *ℤ string_product d n s r j; below = factorial j }
  coefficient-one zero o = refl
  coefficient-one (suc zero) o = absurd (o refl)
  coefficient-one (suc (suc j)) o = refl

  -- the others have no term
  pub coefficient-other : (i j : ℕ) → i ≢ 1 → j ≢ 1 → ¬ ((i ≡ 3) × (j ≡ 2)) → ¬ ((i ≡ 2) × (j ≡ 3)) → coefficient d n r s i j ≡ record { above = pos 0; below = 1 }
  coefficient-other (suc zero) j a b c e = absurd (a refl)
  coefficient-other zero (suc zero) a b c e = absurd (b refl)
  coefficient-other zero zero a b c e = refl
  coefficient-other zero (suc (suc j)) a b c e = refl
  coefficient-other (suc (suc i)) (suc zero) a b c e = absurd (b refl)
  coefficient-other (suc (suc zero)) zero a b c e = refl
  coefficient-other (suc (suc zero)) (suc (suc zero)) a b c e = refl
  coefficient-other (suc (suc zero)) (suc (suc (suc zero))) a b c e = absurd (e (refl, refl))
  coefficient-other (suc (suc zero)) (suc (suc (suc (suc j)))) a b c e = refl
  coefficient-other (suc (suc (suc zero))) zero a b c e = refl
  coefficient-other (suc (suc (suc zero))) (suc (suc zero)) a b c e = absurd (c (refl, refl))
  coefficient-other (suc (suc (suc zero))) (suc (suc (suc j))) a b c e = refl
  coefficient-other (suc (suc (suc (suc i)))) zero a b c e = refl
  coefficient-other (suc (suc (suc (suc i)))) (suc (suc j)) a b c e = refl

-- ---- the list of terms, one (i, j) after another
module _ (d : RootDatum) (n : Table) (r s : ℤ) where
  abbrev pub has_root : ℕ × ℕ → Bool
  has_root e = is_some (find_root d (term_vector d r s e))

  -- one more (i, j)
  pub terms_more : (es : List (ℕ × ℕ)) (k : ℕ) (old new : List Term) → k < length es → AllZip (IsTerm d n r s) (filter has_root (take k es)) old → IsAdded d n r s (get_or es k (0, 0)) old new → AllZip (IsTerm d n r s) (filter has_root (take (k + 1) es)) new
  terms_more es k old new l h (absent f e) =
      subst (AllZip (IsTerm d n r s) (filter has_root (take (k + 1) es))) (sym e)
      (subst (λ t. AllZip (IsTerm d n r s) t old) (sym (filter_more has_root es k (0, 0) l ∙ ap (λ t. filter has_root (take k es) ++ cond t (get_or es k (0, 0) ∷ []) []) f ∙ append-nil (filter has_root (take k es)))) h)
  terms_more es k old new l h (present t f q e) =
      subst (AllZip (IsTerm d n r s) (filter has_root (take (k + 1) es))) (sym e)
      (subst (λ x. AllZip (IsTerm d n r s) x (old ++ t ∷ [])) (sym (filter_more has_root es k (0, 0) l ∙ ap (λ t. filter has_root (take k es) ++ cond t (get_or es k (0, 0) ∷ []) []) f))
      (all_zipped_more (IsTerm d n r s) (filter has_root (take k es)) old (get_or es k (0, 0)) t h q))

  -- a term that has a number is whole
  pub valued : (es : List (ℕ × ℕ)) (ts : List Term) (t : ℕ) (e : ℕ × ℕ) → AllZip (IsTerm d n r s) es ts → slice_get es t ≡ Some e → ¬ IsFraction d n r s e
  valued [] ts t e h g = cc
  valued (x ∷ es) [] t e h g = absurd h
  valued (x ∷ es) (y ∷ ts) zero e h g = λ f. (let i : x ≡ e = cc in subst (IsFraction d n r s) (sym i) f y.value h.0.value)
  valued (x ∷ es) (y ∷ ts) (suc t) e h g = valued es ts t e h.1 g

-- the place of a member that passes, among those that pass
pub passed_at : {A : Type 0} (p : A → Bool) (xs : List A) (k : ℕ) (z : A) → k < length xs → p (get_or xs k z) ≡ true → slice_get (filter p xs) (length (filter p (take k xs))) ≡ Some (get_or xs k z)
passed_at p [] k z l h = absurd (omega (arith, l))
passed_at p (x ∷ xs) zero z l h = ap (λ t. slice_get (cond t (x ∷ filter p xs) (filter p xs)) 0) h
passed_at p (x ∷ xs) (suc k) z l h = by (p x) (passed_at p xs k z (omega (arith, l)) h)
  where
    by : (b : Bool) → slice_get (filter p xs) (length (filter p (take k xs))) ≡ Some (get_or xs k z) → slice_get (cond b (x ∷ filter p xs) (filter p xs)) (length (cond b (x ∷ filter p (take k xs)) (filter p (take k xs)))) ≡ Some (get_or xs k z)
    by true e = e
    by false e = e

-- those that pass in front are the first of those that pass
pub passed_front : {A : Type 0} (p : A → Bool) (xs : List A) (k t : ℕ) (e : A) → t < length (filter p (take k xs)) → slice_get (filter p xs) t ≡ Some e → slice_get (filter p (take k xs)) t ≡ Some e
passed_front p [] zero t e l h = absurd (omega (arith, l))
passed_front p [] (suc k) t e l h = absurd (omega (arith, l))
passed_front p (x ∷ xs) zero t e l h = absurd (omega (arith, l))
passed_front p (x ∷ xs) (suc k) t e l h = by (p x) t l h (λ t l h. passed_front p xs k t e l h)
  where
    by : (b : Bool) (t : ℕ) → t < length (cond b (x ∷ filter p (take k xs)) (filter p (take k xs))) → slice_get (cond b (x ∷ filter p xs) (filter p xs)) t ≡ Some e →
        ((t : ℕ) → t < length (filter p (take k xs)) → slice_get (filter p xs) t ≡ Some e → slice_get (filter p (take k xs)) t ≡ Some e) → slice_get (cond b (x ∷ filter p (take k xs)) (filter p (take k xs))) t ≡ Some e
    by true zero l h f = h
    by true (suc t) l h f = f t (omega (arith, l)) h
    by false t l h f = f t l h

-- the first (i, j) whose term isn't whole
pub first_in_pair : (d : RootDatum) (n : Table) (r s : ℤ) (k : ℕ) (ts : List Term) (i j : ℕ) → k < length exponents → AllZip (IsTerm d n r s) (filter (has_root d n r s) (take k exponents)) ts →
    (i, j) ≡ get_or exponents k (0, 0) → has_root d n r s (get_or exponents k (0, 0)) ≡ true → IsFraction d n r s (get_or exponents k (0, 0)) → IsFirstInPair d n r s i j
first_in_pair d n r s k ts i j l h e p f = record {
  term = length (filter (has_root d n r s) (take k exponents));
  exponents = passed_at (has_root d n r s) exponents k (0, 0) l p ∙ ap Some (sym e);
  fraction = subst (IsFraction d n r s) (sym e) f;
  earlier = λ t x m g. valued d n r s (filter (has_root d n r s) (take k exponents)) ts t x h (passed_front (has_root d n r s) exponents k t x m g);
}

-- roots with a sum are neither equal nor opposite
pub pair_from_sum : (d : RootDatum) → IsLoaded d → (r s k : ℤ) → IsSum d r s k → IsPair d r s
pair_from_sum d loaded r s k h = record { left = h.left; right = h.right; unequal = λ e. not_double d loaded r k (subst (λ t. IsSum d r t k) e h); independent = not_opposite d loaded r s k h }

-- the fault of a term, as the fault of its pair
pub term_fault : (d : RootDatum) (n : Table) (r s : ℤ) (k : ℕ) (ts : List Term) (f : ConstFault) → IsPair d r s → k < length exponents → AllZip (IsTerm d n r s) (filter (has_root d n r s) (take k exponents)) ts →
    IsTermFault d n r s (get_or exponents k (0, 0)) f → IsPairFault d n r s f
term_fault d n r s k ts NoMemory pair l h g = tt
term_fault d n r s k ts (Constant p q a e) pair l h g = absurd g
term_fault d n r s k ts (Fraction p q i j) pair l h g = (g.0, g.1, pair, first_in_pair d n r s k ts i j l h g.2 g.3 g.4)
