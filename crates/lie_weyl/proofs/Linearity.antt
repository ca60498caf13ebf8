-- A word acts linearly, so what it does to the simple roots says what it does to all.
use Rattle.std.proofs.Common.{◌≡◌, ℕ, zero, suc, ◌-◌, ◌≤◌, ℤ, pos, negsuc, neg_ℤ, ◌+ℤ◌, ◌*ℤ◌, List, [], ◌∷◌, length, get_or, refl, sym, ap, ◌∙◌, arith}
use Rattle.lie_datum.specs.declared.root_pair.Root.{Root}
use Rattle.lie_datum.specs.Vectors.{Vector, pairing, plus, times, unit, entry}
use Rattle.lie_datum.specs.RootDatum.{Base, rank, vector, simple_coroot, simple, reflected, IsSimpleIndex, IsRoot, is_simple, is_reflected}
use Rattle.lie_datum.specs.RootList.{RootDatum, IsLoaded}
use Rattle.lie_base.proofs.RingSolver.{ring, var, num, neg, ◌⊕◌, ◌⊗◌}
use Rattle.lie_datum.proofs.Entries.{entry-plus, entry-times, length-plus, length-times, length-unit, same_entries}
use Rattle.lie_datum.proofs.Roots.{HasLengths, entry-moved, length-moved, simple_vector}
use Rattle.lie_datum.proofs.Reflections.{pairing-unit}
use Rattle.lie_datum.proofs.Linear.{pairing-plus, pairing-times}
use Rattle.lie_datum.proofs.Turns.{pairing-combination-plus}
use Rattle.lie_datum.proofs.SignedRoots.{same_coeffs}
use Rattle.lie_datum.proofs.LoadedLaws.{short}
use Rattle.lie_weyl.specs.WeylElement.{moved, Spells, SameProduct}
use Rattle.lie_weyl.proofs.Words.{IsWord, letter, is_word, IsRoot-moved, lengths}

-- the coefficients of x are those of y and k times those of z
abbrev pub IsShift : Root → Root → Root → ℤ → Type 0
IsShift x y z k = x.coeffs ≡ plus y.coeffs (times k z.coeffs)

-- minus the pairing with the i-th simple coroot: s_i r = r + k a_i
abbrev pub turn : Base → ℕ → Root → ℤ
turn b i r = neg_ℤ (pairing (vector b r) (simple_coroot b i))

module _ (d : RootDatum) (loaded : IsLoaded d) where
  reflected_shift : (j : ℕ) (x y z : Root) (k : ℤ) → HasLengths x → HasLengths y → HasLengths z → IsShift x y z k → IsShift (reflected d.base j x) (reflected d.base j y) (reflected d.base j z) k
  reflected_shift j x y z k p q r h =
      let a = simple_coroot d.base j in
      let e = unit 8 j in
      let m = neg_ℤ (pairing (vector d.base y) a) in
      let n = neg_ℤ (pairing (vector d.base z) a) in
      let pair = ap (λ v. pairing (vector d.base (record { coeffs = v; co_coeffs = x.co_coeffs })) a) h ∙ pairing-combination-plus y.coeffs z.coeffs k d.base.roots a in
      let ry = length-moved y.coeffs m e q.0 (length-unit 8 j) in
      let rz = length-moved z.coeffs n e r.0 (length-unit 8 j) in
      same_entries (reflected d.base j x).coeffs (plus (reflected d.base j y).coeffs (times k (reflected d.base j z).coeffs))
      (length-moved x.coeffs (neg_ℤ (pairing (vector d.base x) a)) e p.0 (length-unit 8 j) ∙ sym (length-plus (reflected d.base j y).coeffs (times k (reflected d.base j z).coeffs) 8 ry (length-times k (reflected d.base j z).coeffs ∙ rz)))
      (λ t. entry-moved x.coeffs (neg_ℤ (pairing (vector d.base x) a)) e t ∙ ap (λ u. entry x.coeffs t +ℤ neg_ℤ u *ℤ entry e t) pair
      ∙ ap (λ u. u +ℤ neg_ℤ (pairing (vector d.base y) a +ℤ k *ℤ pairing (vector d.base z) a) *ℤ entry e t) (ap (λ v. entry v t) h ∙ entry-plus y.coeffs (times k z.coeffs) t ∙ ap (λ u. entry y.coeffs t +ℤ u) (entry-times k z.coeffs t))
      ∙ ring (entry y.coeffs t ∷ (k ∷ (entry z.coeffs t ∷ (pairing (vector d.base y) a ∷ (pairing (vector d.base z) a ∷ (entry e t ∷ []))))))
      (var 0 ⊕ var 1 ⊗ var 2 ⊕ neg (var 3 ⊕ var 1 ⊗ var 4) ⊗ var 5) (var 0 ⊕ neg (var 3) ⊗ var 5 ⊕ var 1 ⊗ (var 2 ⊕ neg (var 4) ⊗ var 5)) refl
      ∙ ap (λ u. u +ℤ k *ℤ (entry z.coeffs t +ℤ n *ℤ entry e t)) (sym (entry-moved y.coeffs m e t)) ∙ ap (λ u. entry (reflected d.base j y).coeffs t +ℤ k *ℤ u) (sym (entry-moved z.coeffs n e t))
      ∙ ap (λ u. entry (reflected d.base j y).coeffs t +ℤ u) (sym (entry-times k (reflected d.base j z).coeffs t)) ∙ sym (entry-plus (reflected d.base j y).coeffs (times k (reflected d.base j z).coeffs) t))

  pub moved_shift : (w : List ℕ) (x y z : Root) (k : ℤ) → IsWord d.base w → IsRoot d.base x → IsRoot d.base y → IsRoot d.base z → IsShift x y z k → IsShift (moved d.base w x) (moved d.base w y) (moved d.base w z) k
  moved_shift [] x y z k h p q r s = s
  moved_shift (j ∷ w) x y z k (letter i h) p q r s =
      reflected_shift j (moved d.base w x) (moved d.base w y) (moved d.base w z) k
      (lengths d loaded (moved d.base w x) (IsRoot-moved d loaded w x h p)) (lengths d loaded (moved d.base w y) (IsRoot-moved d loaded w y h q)) (lengths d loaded (moved d.base w z) (IsRoot-moved d loaded w z h r))
      (moved_shift w x y z k h p q r s)

  -- the image of s_i r is that of r and a multiple of that of a_i
  pub moved_turn : (w : List ℕ) (i : ℕ) (r : Root) → IsWord d.base w → IsSimpleIndex d.base i → IsRoot d.base r →
      IsShift (moved d.base w (reflected d.base i r)) (moved d.base w r) (moved d.base w (simple i)) (turn d.base i r)
  moved_turn w i r h s p = moved_shift w (reflected d.base i r) r (simple i) (turn d.base i r) h (is_reflected i r s p) p (is_simple i s) refl

  -- words that agree on the simple roots agree
  pub moved_same : (w v : List ℕ) → IsWord d.base w → IsWord d.base v → ((i : ℕ) → IsSimpleIndex d.base i → moved d.base w (simple i) ≡ moved d.base v (simple i)) → SameProduct d w v
  moved_same w v p q h r m = same_coeffs d loaded (moved d.base w r) (moved d.base v r) (IsRoot-moved d loaded w r p m) (IsRoot-moved d loaded v r q m) (by r m)
    where
      by : (r : Root) → IsRoot d.base r → (moved d.base w r).coeffs ≡ (moved d.base v r).coeffs
      by _ (is_simple i s) = ap (λ t. t.coeffs) (h i s)
      by _ (is_reflected i r s m) =
          let k = turn d.base i r in
          moved_turn w i r p s m
          ∙ ap (λ t. plus t (times k (moved d.base w (simple i)).coeffs)) (by r m) ∙ ap (λ t. plus (moved d.base v r).coeffs (times k t.coeffs)) (h i s)
          ∙ sym (moved_turn v i r q s m)

  -- two words of one element act alike
  pub spelled_same : (w v : List ℕ) (images : List ℤ) → Spells d w images → Spells d v images → SameProduct d w v
  spelled_same w v images a b = moved_same w v (is_word d.base w a.letters) (is_word d.base v b.letters) (λ i s. sym (a.images_are i s) ∙ b.images_are i s)

  -- the value of a linear function at an image, from its values at the images of the simple roots
  pub linear_image : (f : Vector → ℤ) → ((x y : Vector) (k : ℤ) → f (plus x (times k y)) ≡ f x +ℤ k *ℤ f y) → (w : List ℕ) → IsWord d.base w → (us : List ℤ) → rank d.base ≤ length us →
      ((i : ℕ) → IsSimpleIndex d.base i → get_or us (i - 1) (pos 0) ≡ f (moved d.base w (simple i)).coeffs) → (r : Root) → IsRoot d.base r → f (moved d.base w r).coeffs ≡ pairing r.coeffs us
  linear_image f linear w h us count at _ (is_simple zero s) = absurd (omega (arith, s.0))
  linear_image f linear w h us count at _ (is_simple (suc i) s) =
      let a = s.1 in
      let low = short d loaded in
      let e : suc i - 1 ≡ i = omega arith in
      sym (at (suc i) s) ∙ ap (λ k. get_or us k (pos 0)) e ∙ sym (pairing-unit 8 i us (omega (arith, a, low)) (omega (arith, a, count)))
  linear_image f linear w h us count at _ (is_reflected zero r s p) = absurd (omega (arith, s.0))
  linear_image f linear w h us count at _ (is_reflected (suc i) r s p) =
      let k = turn d.base (suc i) r in
      let a = s.1 in
      let low = short d loaded in
      let e : suc i - 1 ≡ i = omega arith in
      ap f (moved_turn w (suc i) r h s p) ∙ linear (moved d.base w r).coeffs (moved d.base w (simple (suc i))).coeffs k
      ∙ ap (λ t. t +ℤ k *ℤ f (moved d.base w (simple (suc i))).coeffs) (linear_image f linear w h us count at r p)
      ∙ ap (λ t. pairing r.coeffs us +ℤ k *ℤ t) (sym (at (suc i) s) ∙ ap (λ k. get_or us k (pos 0)) e ∙ sym (pairing-unit 8 i us (omega (arith, a, low)) (omega (arith, a, count))))
      ∙ ap (λ t. pairing r.coeffs us +ℤ t) (sym (pairing-times k (unit 8 (suc i)) us)) ∙ sym (pairing-plus r.coeffs (times k (unit 8 (suc i))) us)

  -- the image of -a_i is the opposite of that of a_i
  pub turned_entry : (w : List ℕ) (i : ℕ) → IsWord d.base w → IsSimpleIndex d.base i → (j : ℕ) →
      entry (moved d.base w (reflected d.base i (simple i))).coeffs j ≡ neg_ℤ (entry (moved d.base w (simple i)).coeffs j)
  turned_entry w i h s j =
      let a = moved d.base w (simple i) in
      let two = simple_vector d.base (short d loaded) loaded.axioms.input.corank i (simple_coroot d.base i) s ∙ loaded.axioms.twos i s in
      ap (λ v. entry v j) (moved_turn w i (simple i) h s (is_simple i s)) ∙ entry-plus a.coeffs (times (turn d.base i (simple i)) a.coeffs) j
      ∙ ap (λ u. entry a.coeffs j +ℤ u) (entry-times (turn d.base i (simple i)) a.coeffs j) ∙ ap (λ u. entry a.coeffs j +ℤ neg_ℤ u *ℤ entry a.coeffs j) two
      ∙ ring (entry a.coeffs j ∷ []) (var 0 ⊕ num (negsuc 1) ⊗ var 0) (neg (var 0)) refl
