-- The terms (k, 1) of a commutator, as those that stand in a list.
use Rattle.std.proofs.Common.{◌≡◌, ℕ, zero, suc, ◌≤◌, ℤ, pos, ◌*ℤ◌, List, [], ◌∷◌, refl, sym, ap, subst, ◌∙◌, arith, cond, true, false, Bool, Some, is_some}
use Rattle.std.proofs.Math.IntN.{*ℤ_comm}
use Rattle.std.proofs.lemmas.Int.{ints}
use Rattle.std.specs.List.{find, filter, AllZip}
use Rattle.lie_base.proofs.Members.{In, here, there}
use Rattle.lie_datum.specs.Vectors.{Vector, plus, times, entry}
use Rattle.lie_datum.specs.RootList.{RootDatum, IsLoaded, IsNumber, all_roots, IsRootVector}
use Rattle.lie_datum.proofs.Entries.{entry-times, length-times, same_entries}
use Rattle.lie_datum.proofs.LoadedLaws.{all_only, all_in}
use Rattle.lie_datum.proofs.SignedRoots.{number_is}
use Rattle.lie_const.specs.declared.term.Term.{Term}
use Rattle.lie_const.specs.StructureConstants.{Table, coeffs_of, same_vector, find_root}
use Rattle.lie_const.specs.CommutatorTerms.{string_product, factorial, coefficient, IsValue, exponents, term_vector, term_exponents, IsTerm, AreTerms, number_of}
use Rattle.lie_weight.proofs.NumberOf.{same_vector-true, same_vector-yes, number_of-root}
use Rattle.lie_weight.proofs.LineLemmas.{line}

module _ {A B : Type 0} where
  -- each item of the second list has one of the first
  zip_left : (P : A → B → Type 0) (es : List A) (ts : List B) (t : B) → AllZip P es ts → In t ts → (e : A) × In e es × P e t
  zip_left P [] [] t h i = elim i [ ]
  zip_left P [] (u ∷ ts) t h i = absurd h
  zip_left P (e ∷ es) [] t h i = absurd h
  zip_left P (e ∷ es) (u ∷ ts) t h (here q) = (e, here refl, subst (P e) (sym q) h.0)
  zip_left P (e ∷ es) (u ∷ ts) t h (there i) = let f = zip_left P es ts t h.1 i in (f.0, there f.1, f.2)

  zip_right : (P : A → B → Type 0) (es : List A) (ts : List B) (e : A) → AllZip P es ts → In e es → (t : B) × In t ts × P e t
  zip_right P [] [] e h i = elim i [ ]
  zip_right P [] (u ∷ ts) e h i = absurd h
  zip_right P (f ∷ es) [] e h i = absurd h
  zip_right P (f ∷ es) (u ∷ ts) e h (here q) = (u, here refl, subst (λ x. P x u) (sym q) h.0)
  zip_right P (f ∷ es) (u ∷ ts) e h (there i) = let g = zip_right P es ts e h.1 i in (g.0, there g.1, g.2)

module _ {A : Type 0} (p : A → Bool) where
  -- what stands in a filtered list
  filter_only : (xs : List A) (x : A) → In x (filter p xs) → p x ≡ true
  filter_only [] x i = elim i [ ]
  filter_only (y ∷ xs) x i = by (p y) refl i (filter_only xs x)
    where
      by : (t : Bool) → p y ≡ t → In x (cond t (y ∷ filter p xs) (filter p xs)) → (In x (filter p xs) → p x ≡ true) → p x ≡ true
      by true e (here q) f = ap p q ∙ e
      by true e (there j) f = f j
      by false e j f = f j

  filter_in : (xs : List A) (x : A) → In x xs → p x ≡ true → In x (filter p xs)
  filter_in [] x i e = elim i [ ]
  filter_in (y ∷ xs) x i e = by (p y) refl i (λ j. filter_in xs x j e)
    where
      by : (t : Bool) → p y ≡ t → In x (y ∷ xs) → (In x xs → In x (filter p xs)) → In x (cond t (y ∷ filter p xs) (filter p xs))
      by true f (here q) g = here q
      by true f (there j) g = there (g j)
      by false f (here q) g = let h = ap p q in cc
      by false f (there j) g = g j

  -- what a search finds
  find_only : (xs : List A) → is_some (find p xs) ≡ true → (x : A) × In x xs × (p x ≡ true)
  find_only [] e = cc
  find_only (y ∷ xs) e = by (p y) refl e (find_only xs)
    where
      by : (t : Bool) → p y ≡ t → is_some (cond t (Some y) (find p xs)) ≡ true → (is_some (find p xs) ≡ true → (x : A) × In x xs × (p x ≡ true)) → (x : A) × In x (y ∷ xs) × (p x ≡ true)
      by true f g k = (y, here refl, f)
      by false f g k = let h = k g in (h.0, there h.1, h.2)

  find_in : (xs : List A) (x : A) → In x xs → p x ≡ true → is_some (find p xs) ≡ true
  find_in [] x i e = elim i [ ]
  find_in (y ∷ xs) x i e = by (p y) refl i (λ j. find_in xs x j e)
    where
      by : (t : Bool) → p y ≡ t → In x (y ∷ xs) → (In x xs → is_some (find p xs) ≡ true) → is_some (cond t (Some y) (find p xs)) ≡ true
      by true f j g = refl
      by false f (here q) g = let h = ap p q in cc
      by false f (there j) g = g j

-- the value of a term (k, 1)
value-is : (d : RootDatum) (n : Table) (R S : Vector) (c : ℤ) (k : ℕ) → IsValue c (coefficient d n R S k 1) → pos (factorial k) *ℤ c ≡ string_product d n R S k
value-is d n R S c k h = *ℤ_comm (pos (factorial k)) c ∙ h

-- the exponents (1, 1), (2, 1) and (3, 1) are listed
listed : (k : ℕ) → 1 ≤ k → k ≤ 3 → In (k, 1) exponents
listed zero p q = absurd (omega arith)
listed (suc zero) p q = here refl
listed (suc (suc zero)) p q = there (there (here refl))
listed (suc (suc (suc zero))) p q = there (there (there (there (here refl))))
listed (suc (suc (suc (suc k)))) p q = absurd (omega arith)

module _ (d : RootDatum) (loaded : IsLoaded d) where
  root_found : (v : Vector) → is_some (find_root d v) ≡ true → IsRootVector d v
  root_found v e = let f = find_only (λ r. same_vector r.coeffs v) (all_roots d) e in (f.0, all_only d loaded f.0 f.1, same_vector-true f.0.coeffs v f.2)

  root_listed : (v : Vector) → IsRootVector d v → is_some (find_root d v) ≡ true
  root_listed v h = find_in (λ r. same_vector r.coeffs v) (all_roots d) h.0 (all_in d loaded h.0 h.1) (same_vector-yes h.0.coeffs v h.2)

  -- k r + 1 s
  line-term : (r s : ℤ) (k : ℕ) → term_vector d r s (k, 1) ≡ line (coeffs_of d r) (coeffs_of d s) k
  line-term r s k = ap (plus (times (pos k) (coeffs_of d r)))
      (same_entries (times (pos 1) (coeffs_of d s)) (coeffs_of d s) (length-times (pos 1) (coeffs_of d s)) (λ j. entry-times (pos 1) (coeffs_of d s) j ∙ once (entry (coeffs_of d s) j)))
    where
      once : (x : ℤ) → pos 1 *ℤ x ≡ x
      once x = omega (arith, ints)

  module _ (n : Table) (r s : ℤ) (ts : List Term) (terms : AreTerms d n r s ts) where
    -- what a term (k, 1) in the list says
    pub record IsTermOf (k : ℕ) (t : Term) : Type 0 where
      pub number : IsNumber d t.root
      pub coeffs : coeffs_of d t.root ≡ line (coeffs_of d r) (coeffs_of d s) k
      pub value : pos (factorial k) *ℤ t.value ≡ string_product d n (coeffs_of d r) (coeffs_of d s) k

    pub term_found : (k : ℕ) (t : Term) → In t ts → t.i ≡ k → t.j ≡ 1 → IsTermOf k t
    term_found k t i p q =
        let f = zip_left (IsTerm d n r s) (term_exponents d r s) ts t terms i in
        let e = f.0 in
        let at = f.2 in
        let same : e ≡ (k, 1) = pair (sym at.i ∙ p) (sym at.j ∙ q) in
        let some = subst (λ x. is_some (find_root d (term_vector d r s x)) ≡ true) same (filter_only (λ x. is_some (find_root d (term_vector d r s x))) exponents e f.1) in
        let root = root_found (term_vector d r s (k, 1)) some in
        let number = at.root ∙ ap (λ x. number_of d (term_vector d r s x)) same in
        named t.root number root (subst (λ x. IsValue t.value (coefficient d n (coeffs_of d r) (coeffs_of d s) x.0 x.1)) same at.value)
      where
        pair : {e : ℕ × ℕ} → e.0 ≡ k → e.1 ≡ 1 → e ≡ (k, 1)
        pair a b = λ i. (a i, b i)

        named : (x : ℤ) → t.root ≡ number_of d (term_vector d r s (k, 1)) → IsRootVector d (term_vector d r s (k, 1)) → IsValue t.value (coefficient d n (coeffs_of d r) (coeffs_of d s) k 1) → IsTermOf k t
        named x e root v =
            let u = number_is d loaded root.0 root.1 in
            let at : coeffs_of d u.0 ≡ term_vector d r s (k, 1) = ap (λ z. z.coeffs) u.2 ∙ root.2 in
            let same = e ∙ number_of-root d loaded (term_vector d r s (k, 1)) u.0 u.1 at in
            record {
              number = subst (IsNumber d) (sym same) u.1;
              coeffs = ap (coeffs_of d) same ∙ at ∙ line-term r s k;
              value = value-is d n (coeffs_of d r) (coeffs_of d s) t.value k v;
            }

    pub term_none : (k : ℕ) → 1 ≤ k → k ≤ 3 → ((t : Term) → In t ts → t.i ≡ k → t.j ≡ 1 → ⊥) → ¬ IsRootVector d (line (coeffs_of d r) (coeffs_of d s) k)
    term_none k p q f h =
        let some = root_listed (term_vector d r s (k, 1)) (subst (IsRootVector d) (sym (line-term r s k)) h) in
        let t = zip_right (IsTerm d n r s) (term_exponents d r s) ts (k, 1) terms (filter_in (λ x. is_some (find_root d (term_vector d r s x))) exponents (k, 1) (listed k p q) some) in
        f t.0 t.1 t.2.i t.2.j
