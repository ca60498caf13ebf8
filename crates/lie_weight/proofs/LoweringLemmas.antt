-- Each root that is neither simple nor the negative of a simple root is lowered by some simple reflection.
use Rattle.std.proofs.Common.{◌≡◌, ◌≢◌, ℕ, zero, suc, ◌+◌, ◌-◌, ◌<◌, ◌≤◌, ℤ, pos, negsuc, neg_ℤ, ◌+ℤ◌, ◌*ℤ◌, ◌≤ℤ◌, ◌<ℤ◌, List, [], ◌∷◌, map, length, get_or, refl, sym, ap, subst, ◌∙◌, arith, ◌⊎◌, inl, inr, ⊎_elim, unsigned_abs}
use Rattle.std.proofs.lemmas.Int.{ints}
use Rattle.std.proofs.Math.IntN.{+ℤ_idl, *ℤ_comm, *ℤ-zero}
use Rattle.lie_base.proofs.Whole.{mul-add}
use Rattle.lie_base.proofs.RingSolver.{ring, var, neg, num, ◌⊕◌, ◌⊗◌}
use Rattle.lie_datum.specs.declared.root_pair.Root.{Root}
use Rattle.lie_datum.specs.Vectors.{Vector, pairing, plus, times, minus, unit, combination, total, entry}
use Rattle.lie_datum.specs.RootDatum.{rank, simple, simple_root, simple_coroot, vector, covector, opposite, reflected, IsRoot, is_simple, is_reflected, IsPositive, IsSimpleIndex}
use Rattle.lie_datum.specs.RootList.{RootDatum, root_of, IsNumber, IsLoaded, height, form, length2, all_roots}
use Rattle.lie_datum.proofs.Entries.{within_or_past}
use Rattle.lie_datum.proofs.Linear.{pairing-plus, pairing-times, pairing-combination}
use Rattle.lie_datum.proofs.FormLaw.{form_linear}
use Rattle.lie_datum.proofs.NormBound.{length_positive}
use Rattle.lie_datum.proofs.HeightLemmas.{total-plus, height_positive, number_is_positive, entries_not_negative}
use Rattle.lie_datum.proofs.LoadedLaws.{short, first}
use Rattle.lie_datum.proofs.ReflectionLaws.{simple_reflection_law_holds}
use Rattle.lie_datum.proofs.SignedRoots.{root_is, number_is, same_number, opposite_number}
use Rattle.lie_datum.proofs.VectorLemmas.{abs_neg}
use Rattle.lie_weight.specs.Conjugation.{absolute_height, reflected_height, IsLowering}
use Rattle.lie_orbit.proofs.WeightLemmas.{vector-simple, pairing-simple, simple_some, simple_is}

-- ---- numbers
not_above : (a n : ℤ) → a ≤ℤ pos 0 → pos 0 ≤ℤ n → (a *ℤ n) ≤ℤ pos 0
not_above (pos zero) n p q = omega (arith, ints)
not_above (pos (suc k)) n p q = absurd (omega (arith, ints, p))
not_above (negsuc k) (negsuc m) p q = absurd (omega (arith, ints, q))
not_above (negsuc k) (pos m) p q =
    let e = ring (negsuc k ∷ (pos m ∷ [])) (neg (var 0) ⊗ var 1) (neg (var 0 ⊗ var 1)) refl in
    omega (arith, ints, e)

total-unit : (n i : ℕ) → 1 ≤ i → i ≤ n → total (λ c. c) (unit n i) ≡ pos 1
total-unit zero i p q = absurd (omega (arith, p, q))
total-unit (suc n) zero p q = absurd (omega (arith, p))
total-unit (suc n) (suc zero) p q = ap (λ t. pos 1 +ℤ t) (zeros n)
  where
    zeros : (n : ℕ) → total (λ c. c) (unit n 0) ≡ pos 0
    zeros zero = refl
    zeros (suc n) = +ℤ_idl (total (λ c. c) (unit n 0)) ∙ zeros n
total-unit (suc n) (suc (suc i)) p q = +ℤ_idl (total (λ c. c) (unit n (suc i))) ∙ total-unit n (suc i) (omega arith) (omega (arith, q))

total-times : (k : ℤ) (x : Vector) → total (λ c. c) (times k x) ≡ k *ℤ total (λ c. c) x
total-times k [] = ring (k ∷ []) (num (pos 0)) (var 0 ⊗ num (pos 0)) refl
total-times k (a ∷ x) = ap (λ t. k *ℤ a +ℤ t) (total-times k x) ∙ sym (mul-add k a (total (λ c. c) x))

module _ (d : RootDatum) (loaded : IsLoaded d) where
  -- ---- the form
  form_nothing : (x : Vector) (rs : List Root) → total (λ s. pairing x (covector d.base s) *ℤ pairing [] (covector d.base s)) rs ≡ pos 0
  form_nothing x [] = refl
  form_nothing x (s ∷ rs) = let h = form_nothing x rs in let z = *ℤ-zero (pairing x (covector d.base s)) in omega (arith, ints, h, z)

  -- the form of x with a sum of vectors, none of which it is positive with
  form_low : (x c : Vector) (vs : List Vector) → ((j : ℕ) → pos 0 ≤ℤ entry c j) → ((j : ℕ) → j < length vs → form d x (get_or vs j []) ≤ℤ pos 0) → form d x (combination c vs) ≤ℤ pos 0
  form_low x [] vs p h = let e = form_nothing x (all_roots d) in omega (arith, ints, e)
  form_low x (a ∷ c) [] p h = let e = form_nothing x (all_roots d) in omega (arith, ints, e)
  form_low x (a ∷ c) (v ∷ vs) p h =
      let rest = combination c vs in
      let l = form_linear d.base (all_roots d) x rest v (plus (times a v) rest) a (λ s.
      pairing-plus (times a v) rest (covector d.base s) ∙ ap (λ t. t +ℤ pairing rest (covector d.base s)) (pairing-times a v (covector d.base s))
      ∙ ring ((a *ℤ pairing v (covector d.base s)) ∷ (pairing rest (covector d.base s) ∷ [])) (var 0 ⊕ var 1) (var 1 ⊕ var 0) refl) in
      let m = form_low x c vs (λ j. p (suc j)) (λ j q. h (suc j) (omega (arith, q))) in
      let n = not_above (form d x v) a (h zero (omega arith)) (p zero) in
      let k = *ℤ_comm a (form d x v) in
      omega (arith, ints, l, m, n, k)

  simple_form : (x : Vector) (j : ℕ) → IsSimpleIndex d.base j → pairing x (simple_coroot d.base j) ≤ℤ pos 0 → form d x (simple_root d.base j) ≤ℤ pos 0
  simple_form x j s p =
      let law = (first d loaded (simple j) (is_simple j s)).0 x in
      let norm = length_positive d loaded (simple j) (is_simple j s) in
      let n = not_above (pairing x (covector d.base (simple j))) (length2 d (simple j)) (subst (λ t. t ≤ℤ pos 0) (sym (pairing-simple d loaded j x s)) p) (omega (arith, ints, norm)) in
      let low : form d x (vector d.base (simple j)) ≤ℤ pos 0 = omega (arith, ints, law, n) in
      subst (λ v. form d x v ≤ℤ pos 0) (vector-simple d loaded j s) low

  -- a positive root is positive with some simple coroot
  not_low : (t : Root) → IsRoot d.base t → IsPositive t → ¬ ((j : ℕ) → IsSimpleIndex d.base j → pairing (vector d.base t) (simple_coroot d.base j) ≤ℤ pos 0)
  not_low t r p h =
      let x = vector d.base t in
      let low = form_low x t.coeffs d.base.roots (entries_not_negative t.coeffs p) (λ j l.
      (let s : IsSimpleIndex d.base (j + 1) = (omega arith, omega (arith, l)) in
      let back : j + 1 - 1 ≡ j = omega arith in
      subst (λ k. form d x (get_or d.base.roots k []) ≤ℤ pos 0) back (simple_form x (j + 1) s (h (j + 1) s)))) in
      let high = length_positive d loaded t r in
      absurd (omega (arith, ints, low, high))

  -- ---- heights
  height-reflected : (i : ℕ) (t : Root) → IsSimpleIndex d.base i → height (reflected d.base i t) ≡ height t +ℤ neg_ℤ (pairing (vector d.base t) (simple_coroot d.base i))
  height-reflected i t s =
      let k = neg_ℤ (pairing (vector d.base t) (simple_coroot d.base i)) in
      let e = short d loaded in
      let q = s.1 in
      total-plus t.coeffs (times k (unit 8 i)) ∙ ap (λ u. height t +ℤ u) (total-times k (unit 8 i) ∙ ap (λ u. k *ℤ u) (total-unit 8 i s.0 (omega (arith, e, q))) ∙ (let h : k *ℤ pos 1 ≡ k = omega (arith, ints) in h))

  vector-opposite : (t : Root) (y : Vector) → pairing (vector d.base (opposite t)) y ≡ negsuc 0 *ℤ pairing (vector d.base t) y
  vector-opposite t y =
      pairing-combination (minus t.coeffs) d.base.roots y ∙ pairing-times (negsuc 0) t.coeffs (map (λ v. pairing v y) d.base.roots) ∙ ap (λ u. negsuc 0 *ℤ u) (sym (pairing-combination t.coeffs d.base.roots y))

  -- a positive root whose reflection is no lower
  no_lower : (i : ℕ) (t : Root) → IsSimpleIndex d.base i → IsRoot d.base t → IsPositive t → t ≢ simple i → unsigned_abs (height t) ≤ unsigned_abs (height (reflected d.base i t)) → pairing (vector d.base t) (simple_coroot d.base i) ≤ℤ pos 0
  no_lower i t s r p n l =
      let e = height-reflected i t s in
      let a = height_positive d loaded t r p in
      let b = height_positive d loaded (reflected d.base i t) (is_reflected i t s r) ((simple_reflection_law_holds d loaded).others i t s r p n).0 in
      by (height t) (height (reflected d.base i t)) (pairing (vector d.base t) (simple_coroot d.base i)) e a b l
    where
      by : (x y z : ℤ) → y ≡ x +ℤ neg_ℤ z → pos 0 <ℤ x → pos 0 <ℤ y → unsigned_abs x ≤ unsigned_abs y → z ≤ℤ pos 0
      by (pos m) (pos k) z e a b l = omega (arith, ints, e, l)
      by (negsuc m) y z e a b l = absurd (omega (arith, ints, a))
      by (pos m) (negsuc k) z e a b l = absurd (omega (arith, ints, b))

  -- the opposite of a root has the opposite heights
  opposite_height : (t : Root) → unsigned_abs (height (opposite t)) ≡ unsigned_abs (height t)
  opposite_height t = ap unsigned_abs (total-times (negsuc 0) t.coeffs ∙ (let h : negsuc 0 *ℤ height t ≡ neg_ℤ (height t) = omega (arith, ints) in h)) ∙ abs_neg (height t)

  opposite_reflected : (i : ℕ) (t : Root) → IsSimpleIndex d.base i → unsigned_abs (height (reflected d.base i (opposite t))) ≡ unsigned_abs (height (reflected d.base i t))
  opposite_reflected i t s =
      let p = pairing (vector d.base t) (simple_coroot d.base i) in
      let h = height t in
      let e = total-times (negsuc 0) t.coeffs in
      let f = vector-opposite t (simple_coroot d.base i) in
      let g = height-reflected i t s in
      let k = height-reflected i (opposite t) s in
      let turned : height (reflected d.base i (opposite t)) ≡ neg_ℤ (height (reflected d.base i t)) = omega (arith, ints, e, f, g, k) in
      ap unsigned_abs turned ∙ abs_neg (height (reflected d.base i t))

  -- ---- the root that is lowered
  module _ (r : ℤ) (number : IsNumber d r) (past : rank d.base < unsigned_abs r) where
    abbrev NoneLower : Type 0
    NoneLower = (j : ℕ) → IsSimpleIndex d.base j → absolute_height d r ≤ reflected_height d j r

    not_simple : (k : ℤ) → IsNumber d k → unsigned_abs k ≡ unsigned_abs r → (j : ℕ) → IsSimpleIndex d.base j → root_of d k ≢ simple j
    not_simple k n e j s f =
        let g = ap unsigned_abs (same_number d loaded k (pos j) n (simple_some d loaded j s) (f ∙ sym (simple_is d loaded j s))) in
        let q = s.1 in
        absurd (omega (arith, e, g, q, past))

    none_at : (k : ℤ) → IsNumber d k → pos 0 <ℤ k → unsigned_abs k ≡ unsigned_abs r → ((j : ℕ) → IsSimpleIndex d.base j → unsigned_abs (height (root_of d k)) ≤ unsigned_abs (height (reflected d.base j (root_of d k)))) → ⊥
    none_at k n p e h =
        let t = root_of d k in
        let root = root_is d loaded k n in
        let positive = number_is_positive d loaded k n p in
        not_low t root positive (λ j s. no_lower j t s root positive (not_simple k n e j s) (h j s))

  pub some_lower : (r : ℤ) → IsNumber d r → rank d.base < unsigned_abs r → ¬ ((j : ℕ) → IsSimpleIndex d.base j → absolute_height d r ≤ reflected_height d j r)
  some_lower (pos zero) n past h = absurd (omega (arith, past))
  some_lower (pos (suc k)) n past h = none_at (pos (suc k)) n past (pos (suc k)) n (omega (arith, ints)) refl h
  some_lower (negsuc k) n past h =
      let o = opposite_number d (negsuc k) n in
      let back = opposite_number d (pos (suc k)) o.0 in
      let t = root_of d (pos (suc k)) in
      none_at (negsuc k) n past (pos (suc k)) o.0 (omega (arith, ints)) refl (λ j s.
      (let a = h j s in
      let e = ap (λ (u : Root). unsigned_abs (height u)) back.1 ∙ opposite_height t in
      let f = ap (λ (u : Root). unsigned_abs (height (reflected d.base j u))) back.1 ∙ opposite_reflected j t s in
      omega (arith, a, e, f)))

  -- ---- the least index
  module _ (r : ℤ) (number : IsNumber d r) (past : rank d.base < unsigned_abs r) where
    record Found : Type 0 where
      pub index : ℕ
      pub is_index : IsSimpleIndex d.base index
      pub low : reflected_height d index r < absolute_height d r
      pub least : (j : ℕ) → IsSimpleIndex d.base j → j < index → absolute_height d r ≤ reflected_height d j r

    search_index : (n : ℕ) → n ≤ rank d.base → Found ⊎ ((j : ℕ) → IsSimpleIndex d.base j → j ≤ n → absolute_height d r ≤ reflected_height d j r)
    search_index zero l = inr (λ j s m. absurd (let p = s.0 in omega (arith, p, m)))
    search_index (suc n) l = ⊎_elim (λ f. inl f) (λ h. ⊎_elim (λ low. inl (record {
      index = suc n;
      is_index = (omega arith, l);
      low = low;
      least = λ j s m. h j s (omega (arith, m));
    })) (λ high. inr (λ j s m. ⊎_elim (λ a. h j s (omega (arith, a))) (λ a. subst (λ t. absolute_height d r ≤ reflected_height d t r) (let e : suc n ≡ j = omega (arith, a, m) in e) high) (within_or_past j (suc n)))) (within_or_past (reflected_height d (suc n) r) (absolute_height d r))) (search_index n (omega (arith, l)))

    pub lowering_exists : (i : ℕ) × (s : ℤ) × IsLowering d i r s
    lowering_exists = ⊎_elim (λ f.
        (let t = reflected d.base f.index (root_of d r) in
        let q = number_is d loaded t (is_reflected f.index (root_of d r) f.is_index (root_is d loaded r number)) in
        (f.index, q.0, record { index = f.is_index; from = number; past = past; number = q.1; root = q.2; lower = f.low; least = f.least })))
        (λ h. absurd (some_lower r number past (λ j s. h j s s.1))) (search_index (rank d.base) (omega arith))
