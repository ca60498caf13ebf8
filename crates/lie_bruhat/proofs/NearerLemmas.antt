-- A positive root that is not simple has a lower neighbour under a simple reflection.
use Rattle.std.proofs.Common.{◌≡◌, ℕ, zero, suc, ◌-◌, ◌*◌, ◌<◌, ◌≤◌, true, false, List, [], ◌∷◌, length, get_or, refl, sym, ap, ◌∙◌, subst, arith, inl, inr, ◌⊎◌, ⊎_elim}
use Rattle.std.proofs.lemmas.Int.{ints, by_lt_z}
use Rattle.std.proofs.Math.IntN.{pos-*ℤ-pos, *ℤ_comm}
use Rattle.std.specs.Prelude.{ℤ, pos, negsuc, neg_ℤ, ◌+ℤ◌, ◌*ℤ◌, ◌≤ℤ◌, ◌<ℤ◌, unsigned_abs}
use Rattle.lie_datum.specs.declared.root_pair.Root.{Root}
use Rattle.lie_datum.specs.Vectors.{Vector, pairing, plus, times, unit, combination, total, entry}
use Rattle.lie_datum.specs.RootDatum.{Base, vector, covector, simple, simple_coroot, simple_root, is_simple, IsSimpleIndex}
use Rattle.lie_datum.specs.RootList.{RootDatum, all_roots, IsLoaded, height}
use Rattle.lie_base.proofs.RingSolver.{ring, var, num, neg, ◌⊕◌, ◌⊗◌}
use Rattle.lie_datum.proofs.Linear.{pairing-plus, pairing-times}
use Rattle.lie_datum.proofs.Roots.{simple_vector, simple_covector}
use Rattle.lie_datum.proofs.FormLaw.{form_over, form_linear, form_same}
use Rattle.lie_datum.proofs.RootPairLaw.{norm_positive}
use Rattle.lie_datum.proofs.LoadedLaws.{short, first, all_simple, all_in, all_only}
use Rattle.lie_letters.specs.Names.{RootName, Index, root_at, simple_name, opposite_name, reflect_name, is_negative_name}
use Rattle.lie_letters.proofs.NameLemmas.{index_of, at_root, opposite_at, reflect_at, opposite_twice}
use Rattle.lie_letters.proofs.RootSystemLemmas.{in_eight}
use Rattle.lie_letters.proofs.PositiveRootLemmas.{stays_positive, positive_laws, not_negative, positive_opposite, negative_opposite}
use Rattle.lie_letters.proofs.SettingLaws.{reflect_opposite}

-- a factor of a positive product whose other factor isn't negative
positive_factor : (a c : ℤ) → pos 0 ≤ℤ a → pos 0 <ℤ (a *ℤ c) → pos 0 <ℤ c
positive_factor (negsuc n) c h p = absurd (omega (arith, ints, h))
positive_factor (pos n) c h p =
    by_lt_z (pos 0) c (λ l. l)
    (λ l. (let m = unsigned_abs c in
    let low : c ≡ neg_ℤ (pos m) = omega (arith, ints, l) in
    let is : pos n *ℤ c ≡ neg_ℤ (pos (n * m)) = ap (λ z. pos n *ℤ z) low ∙ ring (pos n ∷ (pos m ∷ [])) (var 0 ⊗ neg (var 1)) (neg (var 0 ⊗ var 1)) refl ∙ ap neg_ℤ (pos-*ℤ-pos n m) in
    absurd (omega (arith, ints, p, is))))

total-plus : (x y : Vector) → total (λ c. c) (plus x y) ≡ total (λ c. c) x +ℤ total (λ c. c) y
total-plus [] y = omega (arith, ints)
total-plus (a ∷ x) [] = omega (arith, ints)
total-plus (a ∷ x) (b ∷ y) = let h = total-plus x y in omega (arith, ints, h)

total-times : (k : ℤ) (x : Vector) → total (λ c. c) (times k x) ≡ k *ℤ total (λ c. c) x
total-times k [] = ring (k ∷ []) (num (pos 0)) (var 0 ⊗ num (pos 0)) refl
total-times k (a ∷ x) = ap (λ t. k *ℤ a +ℤ t) (total-times k x) ∙ ring (k ∷ (a ∷ (total (λ c. c) x ∷ []))) (var 0 ⊗ var 1 ⊕ var 0 ⊗ var 2) (var 0 ⊗ (var 1 ⊕ var 2)) refl

total-none : (n : ℕ) → total (λ c. c) (unit n zero) ≡ pos 0
total-none zero = refl
total-none (suc n) = let h = total-none n in omega (arith, ints, h)

total-unit : (n i : ℕ) → suc i ≤ n → total (λ c. c) (unit n (suc i)) ≡ pos 1
total-unit zero i l = absurd (omega (arith, l))
total-unit (suc n) zero l = let h = total-none n in omega (arith, ints, h)
total-unit (suc n) (suc i) l = let h = total-unit n i (omega (arith, l)) in omega (arith, ints, h)

total-positive : (v : Vector) → ((k : ℕ) → pos 0 ≤ℤ entry v k) → pos 0 ≤ℤ total (λ c. c) v
total-positive [] h = omega (arith, ints)
total-positive (a ∷ v) h = let x = h 0 in let y = total-positive v (λ k. h (suc k)) in omega (arith, ints, x, y)

module _ (b : Base) (rs : List Root) (x : Vector) where
  form-nothing : form_over b rs x [] ≡ pos 0
  form-nothing = let e = form_linear b rs x [] [] [] (pos 1) (λ s. refl) in omega (arith, ints, e)

  -- a positive value at a combination comes from one of its terms
  some_term : (c : Vector) (vs : List Vector) → pos 0 <ℤ form_over b rs x (combination c vs) → (k : ℕ) × (k < length vs) × (pos 0 <ℤ (entry c k *ℤ form_over b rs x (get_or vs k [])))
  some_term [] vs h = let z = form-nothing in absurd (omega (arith, ints, h, z))
  some_term (a ∷ c) [] h = let z = form-nothing in absurd (omega (arith, ints, h, z))
  some_term (a ∷ c) (v ∷ vs) h =
      let y = combination c vs in
      let split : form_over b rs x (plus (times a v) y) ≡ form_over b rs x y +ℤ a *ℤ form_over b rs x v =
      form_linear b rs x y v (plus (times a v) y) a
      (λ s. pairing-plus (times a v) y (covector b s) ∙ ap (λ t. t +ℤ pairing y (covector b s)) (pairing-times a v (covector b s))
      ∙ ring (a ∷ (pairing v (covector b s) ∷ (pairing y (covector b s) ∷ []))) (var 0 ⊗ var 1 ⊕ var 2) (var 2 ⊕ var 0 ⊗ var 1) refl) in
      let t = a *ℤ form_over b rs x v in
      by_lt_z (pos 0) (a *ℤ form_over b rs x v) (λ l. (0, omega arith, l))
      (λ l. (let rest = some_term c vs (later (form_over b rs x (plus (times a v) y)) (form_over b rs x y) (a *ℤ form_over b rs x v) split h l) in
      (suc rest.0, (let m = rest.1 in omega (arith, m)), rest.2)))
    where
      later : (w y t : ℤ) → w ≡ y +ℤ t → pos 0 <ℤ w → t ≤ℤ pos 0 → pos 0 <ℤ y
      later w y t e h l = omega (arith, ints, e, h, l)

module _ (d : RootDatum) (loaded : IsLoaded d) where
  -- a positive root pairs positively with some simple coroot
  lower : (r : RootName d) → is_negative_name d r ≡ false → (i : Index d) × (pos 0 <ℤ pairing (vector d.base (root_at d r)) (simple_coroot d.base (suc i.number)))
  lower r e =
      let b = d.base in
      let all = all_roots d in
      let x = vector b (root_at d r) in
      let norm = norm_positive b (short d loaded) loaded.axioms.input.corank loaded.axioms.twos all (all_simple d loaded) (all_in d loaded) (all_only d loaded) in
      let t = some_term b all x (root_at d r).coeffs b.roots (norm (root_at d r) (at_root d loaded r)) in
      let i = index_of d loaded t.0 t.1 in
      let k = suc t.0 in
      let good : IsSimpleIndex b k = (omega arith, (let l = t.1 in omega (arith, l))) in
      let part : pos 0 <ℤ form_over b all x (simple_root b k) = positive_factor (entry (root_at d r).coeffs t.0) (form_over b all x (simple_root b k)) (not_negative d loaded r e t.0)
      (subst (λ n. pos 0 <ℤ (entry (root_at d r).coeffs t.0 *ℤ form_over b all x (get_or b.roots n []))) (let m : t.0 ≡ suc t.0 - 1 = omega arith in m) t.2) in
      let same : form_over b all x (vector b (simple k)) ≡ form_over b all x (simple_root b k) =
      form_same b all x (vector b (simple k)) (simple_root b k) (λ s. simple_vector b (short d loaded) loaded.axioms.input.corank k (covector b s) good) in
      let law = (first d loaded (simple k) (is_simple k good)).0 x in
      let size : pos 0 <ℤ form_over b all (vector b (simple k)) (vector b (simple k)) = norm (simple k) (is_simple k good) in
      let p = pairing x (covector b (simple k)) in
      let product : pos 0 <ℤ (form_over b all (vector b (simple k)) (vector b (simple k)) *ℤ p) =
      subst (λ z. pos 0 <ℤ z) (law ∙ *ℤ_comm p (form_over b all (vector b (simple k)) (vector b (simple k)))) (twice (form_over b all x (vector b (simple k))) (subst (λ z. pos 0 <ℤ z) (sym same) part)) in
      let positive : pos 0 <ℤ p = positive_factor (form_over b all (vector b (simple k)) (vector b (simple k))) p (weaker _ size) product in (
        i.0,
        subst (λ n. pos 0 <ℤ pairing x (simple_coroot b (suc n))) (sym i.1)
            (subst (λ z. pos 0 <ℤ z) (simple_covector b (short d loaded) loaded.axioms.input.corank k x good) positive),
      )
    where
      twice : (z : ℤ) → pos 0 <ℤ z → pos 0 <ℤ (pos 2 *ℤ z)
      twice z h = omega (arith, ints, h)

      weaker : (z : ℤ) → pos 0 <ℤ z → pos 0 ≤ℤ z
      weaker z h = omega (arith, ints, h)

  -- the height, without its sign
  pub depth_of : RootName d → ℕ
  depth_of r = unsigned_abs (height (root_at d r))

  pub depth_is : (r : RootName d) → depth_of r ≡ unsigned_abs (height (root_at d r))
  unfolding depth_of
  depth_is r = refl

  pub height_opposite : (r : RootName d) → height (root_at d (opposite_name d r)) ≡ neg_ℤ (height (root_at d r))
  height_opposite r =
      ap height (opposite_at d loaded r) ∙ total-times (neg_ℤ (pos 1)) (root_at d r).coeffs
      ∙ (let e : neg_ℤ (pos 1) *ℤ height (root_at d r) ≡ neg_ℤ (height (root_at d r)) = omega (arith, ints) in e)

  height_reflect : (i : Index d) (r : RootName d) → height (root_at d (reflect_name d i r)) ≡ height (root_at d r) +ℤ neg_ℤ (pairing (vector d.base (root_at d r)) (simple_coroot d.base (suc i.number)))
  height_reflect i r =
      let p = neg_ℤ (pairing (vector d.base (root_at d r)) (simple_coroot d.base (suc i.number))) in
      ap height (reflect_at d loaded i r)
      ∙ total-plus (root_at d r).coeffs (times p (unit 8 (suc i.number)))
      ∙ ap (λ t. height (root_at d r) +ℤ t) (total-times p (unit 8 (suc i.number)) ∙ ap (λ t. p *ℤ t) (total-unit 8 i.number (in_eight d loaded i)) ∙ (let e : p *ℤ pos 1 ≡ p = omega (arith, ints) in e))

  -- a negative root is the opposite of a simple one, or a simple reflection takes it nearer
  pub nearer : (r : RootName d) → is_negative_name d r ≡ true
      → (i : Index d) × ((r ≡ opposite_name d (simple_name d i)) ⊎ ((is_negative_name d (reflect_name d i r) ≡ true) × (depth_of (reflect_name d i r) < depth_of r)))
  unfolding depth_of
  nearer r e =
      let o = opposite_name d r in
      let up : is_negative_name d o ≡ false = negative_opposite d loaded r e in
      let (i, p) = lower o up in (
        i,
        ⊎_elim
            (λ (s : o ≡ simple_name d i). inl (sym (opposite_twice d loaded r) ∙ ap (opposite_name d) s))
            (λ (h : ¬ (o ≡ simple_name d i)).
            (let kept = stays_positive d loaded i o up h in
            let back : reflect_name d i r ≡ opposite_name d (reflect_name d i o) = ap (reflect_name d i) (sym (opposite_twice d loaded r)) ∙ reflect_opposite d loaded i o in
            let low : pos 0 ≤ℤ height (root_at d (reflect_name d i o)) = total-positive (root_at d (reflect_name d i o)).coeffs (not_negative d loaded (reflect_name d i o) kept) in
            let fall = height_reflect i o in
            let this = height_opposite r in
            let other = ap (λ q. height (root_at d q)) back ∙ height_opposite (reflect_name d i o) in
            inr (ap (is_negative_name d) back ∙ positive_opposite d loaded (reflect_name d i o) kept, omega (arith, ints, p, low, fall, this, other))))
            ((positive_laws d loaded).same_root o (simple_name d i)),
      )
