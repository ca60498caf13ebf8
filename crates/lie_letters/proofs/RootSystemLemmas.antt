-- The root system of a loaded datum: coefficients determine a root, and simple reflections keep the pairings.
use Rattle.std.proofs.Common.{◌≡◌, ◌≢◌, ℕ, zero, suc, ◌<◌, ◌≤◌, List, [], ◌∷◌, map, length, refl, sym, ap, ap₂, ◌∙◌, subst, arith, inl, inr, ⊎_elim}
use Rattle.std.proofs.lemmas.Int.{ints}
use Rattle.std.specs.Prelude.{ℤ, pos, neg_ℤ, ◌+ℤ◌, ◌-ℤ◌, ◌*ℤ◌}
use Rattle.std.proofs.Math.ListN.{length-map}
use Rattle.std.proofs.lemmas.Bool.{cases_eq}
use Rattle.lie_datum.specs.Vectors.{Vector, entry, pairing, plus, times, unit, combination}
use Rattle.lie_datum.specs.RootDatum.{rank, vector, covector, root_pairing, simple_coroot}
use Rattle.lie_datum.specs.RootList.{RootDatum, IsLoaded}
use Rattle.lie_base.proofs.RingSolver.{ring, var, num, ◌⊕◌, ◌⊗◌}
use Rattle.lie_datum.proofs.Linear.{pairing-combination}
use Rattle.lie_datum.proofs.Entries.{entry-unit}
use Rattle.lie_datum.proofs.Roots.{root_lengths, entry-moved, pairing_invariant, simple_covector, root_self}
use Rattle.lie_datum.proofs.LoadedLaws.{short}
use Rattle.lie_letters.specs.RootSystems.{RootLaws, IsSum, coefficient_at, pairing_at, root_system}
use Rattle.lie_letters.specs.RootSystems.{times as multiple}
use Rattle.lie_letters.specs.Names.{RootName, Index, root_at, simple_name, reflect_name}
use Rattle.lie_letters.proofs.NameLemmas.{same_index, index_of, simple_at, index_is, at_root, same_name, reflect_at, reflect_twice}

-- another entry of a unit vector
pub entry-other : (n i k : ℕ) → k ≢ i → entry (unit n (suc i)) k ≡ pos 0
entry-other zero i k h = refl
entry-other (suc n) zero zero h = absurd (h refl)
entry-other (suc n) zero (suc k) h = entry-none n k
  where
    entry-none : (n k : ℕ) → entry (unit n zero) k ≡ pos 0
    entry-none zero k = refl
    entry-none (suc n) zero = refl
    entry-none (suc n) (suc k) = entry-none n k
entry-other (suc n) (suc i) zero h = refl
entry-other (suc n) (suc i) (suc k) h = entry-other n i k (λ e. h (ap suc e))

-- a combination depends on as many coefficients as there are vectors
combination-same : (c e : Vector) (vs : List Vector) → length c ≡ length e → ((k : ℕ) → k < length vs → entry c k ≡ entry e k) → combination c vs ≡ combination e vs
combination-same [] [] vs l h = refl
combination-same [] (b ∷ e) vs l h = cc
combination-same (a ∷ c) [] vs l h = cc
combination-same (a ∷ c) (b ∷ e) [] l h = refl
combination-same (a ∷ c) (b ∷ e) (v ∷ vs) l h =
    ap₂ (λ x y. plus (times x v) y) (h 0 (omega arith)) (combination-same c e vs (let m : length c ≡ length e = cc in m) (λ k m. h (suc k) (omega (arith, m))))

multiple-is : (x : ℕ) (z : ℤ) → multiple x z ≡ pos x *ℤ z
multiple-is zero z = omega (arith, ints)
multiple-is (suc x) z =
    let more : pos (suc x) ≡ pos x +ℤ pos 1 = omega (arith, ints) in
    ap (λ t. z +ℤ t) (multiple-is x z) ∙ ring (pos x ∷ (z ∷ [])) (var 1 ⊕ var 0 ⊗ var 1) ((var 0 ⊕ num (pos 1)) ⊗ var 1) refl ∙ ap (λ t. t *ℤ z) (sym more)

-- entries that are sums have pairings that are sums
pub pairing-sums : (x y : ℤ) (c a b w : Vector) → length c ≡ length a → length c ≡ length b → ((k : ℕ) → k < length w → entry c k ≡ x *ℤ entry a k +ℤ y *ℤ entry b k)
    → pairing c w ≡ x *ℤ pairing a w +ℤ y *ℤ pairing b w
pairing-sums x y [] [] [] w l m h = ring (x ∷ (y ∷ [])) (num (pos 0)) (var 0 ⊗ num (pos 0) ⊕ var 1 ⊗ num (pos 0)) refl
pairing-sums x y [] (a ∷ as') b w l m h = cc
pairing-sums x y [] [] (b ∷ bs) w l m h = cc
pairing-sums x y (c ∷ cs) [] b w l m h = cc
pairing-sums x y (c ∷ cs) (a ∷ as') [] w l m h = cc
pairing-sums x y (c ∷ cs) (a ∷ as') (b ∷ bs) [] l m h = ring (x ∷ (y ∷ [])) (num (pos 0)) (var 0 ⊗ num (pos 0) ⊕ var 1 ⊗ num (pos 0)) refl
pairing-sums x y (c ∷ cs) (a ∷ as') (b ∷ bs) (w ∷ ws) l m h =
    let rest = pairing-sums x y cs as' bs ws (let e : length cs ≡ length as' = cc in e) (let e : length cs ≡ length bs = cc in e) (λ k n. h (suc k) (omega (arith, n))) in
    ap₂ (λ s t. s *ℤ w +ℤ t) (h 0 (omega arith)) rest
    ∙ ring (x ∷ (y ∷ (a ∷ (b ∷ (w ∷ (pairing as' ws ∷ (pairing bs ws ∷ [])))))))
    ((var 0 ⊗ var 2 ⊕ var 1 ⊗ var 3) ⊗ var 4 ⊕ (var 0 ⊗ var 5 ⊕ var 1 ⊗ var 6))
    (var 0 ⊗ (var 2 ⊗ var 4 ⊕ var 5) ⊕ var 1 ⊗ (var 3 ⊗ var 4 ⊕ var 6)) refl

module _ (d : RootDatum) (loaded : IsLoaded d) where
  -- a root has eight coefficients
  pub lengths : (r : RootName d) → length (root_at d r).coeffs ≡ 8
  lengths r = (root_lengths d.base (short d loaded) loaded.axioms.input.corank (root_at d r) (at_root d loaded r)).0

  -- what holds of each simple index holds of each number below the rank
  pub at_index : (P : ℕ → Type 0) → ((k : Index d) → P k.number) → (k : ℕ) → k < rank d.base → P k
  at_index P h k l = let i = index_of d loaded k l in subst P i.1 (h i.0)

  determined : (r s : RootName d) → ((k : Index d) → coefficient_at d r k ≡ coefficient_at d s k) → r ≡ s
  determined r s h =
      same_name d loaded r s (loaded.axioms.apart (root_at d r) (root_at d s) (at_root d loaded r) (at_root d loaded s)
      (combination-same (root_at d r).coeffs (root_at d s).coeffs d.base.roots (lengths r ∙ sym (lengths s))
      (at_index (λ k. entry (root_at d r).coeffs k ≡ entry (root_at d s).coeffs k) h)))

  -- a simple index is at most eight
  pub in_eight : (i : Index d) → suc i.number ≤ 8
  in_eight i = let l = (index_is d i).1 in let s = short d loaded in omega (arith, l, s)

  reflected_entry : (i : Index d) (r : RootName d) (k : ℕ)
      → entry (root_at d (reflect_name d i r)).coeffs k
      ≡ entry (root_at d r).coeffs k +ℤ neg_ℤ (pairing (vector d.base (root_at d r)) (simple_coroot d.base (suc i.number))) *ℤ entry (unit 8 (suc i.number)) k
  reflected_entry i r k =
      ap (λ s. entry s.coeffs k) (reflect_at d loaded i r)
      ∙ entry-moved (root_at d r).coeffs (neg_ℤ (pairing (vector d.base (root_at d r)) (simple_coroot d.base (suc i.number)))) (unit 8 (suc i.number)) k

  simple_pairing : (i : Index d) (r : RootName d) → pairing_at d r (simple_name d i) ≡ pairing (vector d.base (root_at d r)) (simple_coroot d.base (suc i.number))
  simple_pairing i r =
      ap (λ s. root_pairing d.base (root_at d r) s) (simple_at d i)
      ∙ simple_covector d.base (short d loaded) loaded.axioms.input.corank (suc i.number) (vector d.base (root_at d r)) (index_is d i)

  reflect_here : (i : Index d) (r : RootName d) → coefficient_at d (reflect_name d i r) i ≡ coefficient_at d r i -ℤ pairing_at d r (simple_name d i)
  reflect_here i r =
      let c = entry (root_at d r).coeffs i.number in
      let k = pairing (vector d.base (root_at d r)) (simple_coroot d.base (suc i.number)) in
      reflected_entry i r i.number
      ∙ ap (λ t. c +ℤ neg_ℤ k *ℤ t) (entry-unit 8 i.number (in_eight i))
      ∙ (let e : c +ℤ neg_ℤ k *ℤ pos 1 ≡ c -ℤ k = omega (arith, ints) in e)
      ∙ ap (λ t. c -ℤ t) (sym (simple_pairing i r))

  reflect_other : (i k : Index d) (r : RootName d) → ¬ (k ≡ i) → coefficient_at d (reflect_name d i r) k ≡ coefficient_at d r k
  reflect_other i k r h =
      let c = entry (root_at d r).coeffs k.number in
      let m = neg_ℤ (pairing (vector d.base (root_at d r)) (simple_coroot d.base (suc i.number))) in
      reflected_entry i r k.number
      ∙ ap (λ t. c +ℤ m *ℤ t) (entry-other 8 i.number k.number (λ e. h (same_index d k i e)))
      ∙ (let e : c +ℤ m *ℤ pos 0 ≡ c = omega (arith, ints) in e)

  pairing_sum : (r a b : RootName d) (x y : ℕ) → IsSum (root_system d) r x a y b → (s : RootName d)
      → pairing_at d r s ≡ multiple x (pairing_at d a s) +ℤ multiple y (pairing_at d b s)
  pairing_sum r a b x y h s =
      let w = map (λ v. pairing v (covector d.base (root_at d s))) d.base.roots in
      let spread = λ (q : RootName d). pairing-combination (root_at d q).coeffs d.base.roots (covector d.base (root_at d s)) in
      let entries = at_index (λ k. entry (root_at d r).coeffs k ≡ multiple x (entry (root_at d a).coeffs k) +ℤ multiple y (entry (root_at d b).coeffs k)) h in
      spread r
      ∙ pairing-sums (pos x) (pos y) (root_at d r).coeffs (root_at d a).coeffs (root_at d b).coeffs w (lengths r ∙ sym (lengths a)) (lengths r ∙ sym (lengths b))
      (λ k l. entries k (subst (λ n. k < n) (length-map d.base.roots (λ v. pairing v (covector d.base (root_at d s)))) l)
      ∙ ap₂ ◌+ℤ◌ (multiple-is x (entry (root_at d a).coeffs k)) (multiple-is y (entry (root_at d b).coeffs k)))
      ∙ ap₂ ◌+ℤ◌ (ap (λ t. pos x *ℤ t) (sym (spread a)) ∙ sym (multiple-is x (pairing_at d a s))) (ap (λ t. pos y *ℤ t) (sym (spread b)) ∙ sym (multiple-is y (pairing_at d b s)))

  -- all laws of the root system
  pub root_laws : RootLaws (root_system d)
  root_laws = record {
    same_index = λ i j. ⊎_elim (λ (e : i.number ≡ j.number). inl (same_index d i j e)) (λ (h : ¬ (i.number ≡ j.number)). inr (λ (e : i ≡ j). h (ap (λ (k : Index d). k.number) e))) (cases_eq i.number j.number);
    determined = determined;
    simple_here = λ i. ap (λ s. entry s.coeffs i.number) (simple_at d i) ∙ entry-unit 8 i.number (in_eight i);
    simple_other = λ i k h. ap (λ s. entry s.coeffs k.number) (simple_at d i) ∙ entry-other 8 i.number k.number (λ e. h (same_index d k i e));
    reflect_here = reflect_here;
    reflect_other = reflect_other;
    reflect_twice = reflect_twice d loaded;
    pairing_sum = pairing_sum;
    pairing_reflect = λ i r s. ap₂ (root_pairing d.base) (reflect_at d loaded i r) (reflect_at d loaded i s)
        ∙ pairing_invariant d.base (short d loaded) loaded.axioms.input.corank loaded.axioms.twos (suc i.number) (root_at d r) (root_at d s) (index_is d i);
    pairing_self = λ i. root_self d.base (short d loaded) loaded.axioms.input.corank loaded.axioms.twos (root_at d (simple_name d i)) (at_root d loaded (simple_name d i));
  }
