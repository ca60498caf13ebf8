-- The length of a product with a simple reflection on the right: longer exactly if the simple root stays positive.
use Rattle.std.proofs.Common.{◌≡◌, ℕ, suc, List, [], ◌∷◌, ◌++◌, Bool, true, false, refl, sym, ◌∙◌, ap, subst, arith, ◌⊎◌, inl, inr}
use Rattle.lie_letters.specs.RootSystems.{RootSystem, RootLaws, PositiveLaws}
use Rattle.lie_bruhat.proofs.InTurn.{along, backwards}
use Rattle.lie_bruhat.proofs.ProductLemmas.{along_append, along_back, back_along, conjugated}
use Rattle.lie_bruhat.proofs.LengthLemmas.{length_of, shorter, longer, length_same, along_opposite}

module _ (D : RootSystem) (laws : RootLaws D) (opposite : D.Root → D.Root) (is_negative : D.Root → Bool) (positives : List D.Root)
    (pl : PositiveLaws D opposite is_negative positives) where
  abbrev long : List D.Index → ℕ
  long = length_of D laws opposite is_negative positives pl

  -- the change of the length by a reflection on the right, by the sign of the image of the simple root
  abbrev Changes : D.Index → List D.Index → Bool → Type 0
  Changes i p false = long (p ++ (i ∷ [])) ≡ suc (long p)
  Changes i p true = long p ≡ suc (long (p ++ (i ∷ [])))

  -- the same by a reflection on the left, by the sign of the inverse image
  left_changes : (k : D.Index) (p : List D.Index) (b : Bool) → is_negative (along D (backwards p) (D.simple k)) ≡ b
      → ((b ≡ false) × (long (k ∷ p) ≡ suc (long p))) ⊎ ((b ≡ true) × (long p ≡ suc (long (k ∷ p))))
  left_changes k p false e = inl (refl, longer D laws opposite is_negative positives pl k p e)
  left_changes k p true e = inr (refl, shorter D laws opposite is_negative positives pl k p (pl.negative_is (along D (backwards p) (D.simple k)) e))

  combine : (k i : D.Index) (p : List D.Index) (b c : Bool) → Changes i p b
      → ((c ≡ false) × (long (k ∷ p) ≡ suc (long p))) ⊎ ((c ≡ true) × (long p ≡ suc (long (k ∷ p))))
      → ((c ≡ false) × (long (k ∷ (p ++ (i ∷ []))) ≡ suc (long (p ++ (i ∷ []))))) ⊎ ((c ≡ true) × (long (p ++ (i ∷ [])) ≡ suc (long (k ∷ (p ++ (i ∷ []))))))
      → Changes i (k ∷ p) b
  combine k i p false c h (inl x) (inl y) = omega (arith, h, x.1, y.1)
  combine k i p true c h (inl x) (inl y) = omega (arith, h, x.1, y.1)
  combine k i p false c h (inr x) (inr y) = omega (arith, h, x.1, y.1)
  combine k i p true c h (inr x) (inr y) = omega (arith, h, x.1, y.1)
  combine k i p b c h (inl x) (inr y) = let e = x.0 in let f = y.0 in cc
  combine k i p b c h (inr x) (inl y) = let e = x.0 in let f = y.0 in cc

  backwards_snoc : (p : List D.Index) (i : D.Index) → backwards (p ++ (i ∷ [])) ≡ i ∷ backwards p
  backwards_snoc [] i = refl
  backwards_snoc (k ∷ p) i = ap (λ q. q ++ (k ∷ [])) (backwards_snoc p i)

  opposite_along : (p : List D.Index) (r : D.Root) → along D p (opposite r) ≡ opposite (along D p r)
  opposite_along = along_opposite D laws opposite is_negative positives pl

  pub changes : (i : D.Index) (p : List D.Index) (b : Bool) → is_negative (along D p (D.simple i)) ≡ b → Changes i p b
  changes i [] b e = subst (λ c. Changes i [] c) (sym (pl.simple_positive i) ∙ e) (longer D laws opposite is_negative positives pl i [] (pl.simple_positive i))
  changes i (k ∷ p) b e =
      step (is_negative (along D p (D.simple i))) refl (changes i p) (pl.same_root (along D p (D.simple i)) (D.simple k))
      (pl.same_root (along D p (D.simple i)) (opposite (D.simple k)))
    where
      β : D.Root
      β = along D p (D.simple i)

      step : (a : Bool) → is_negative β ≡ a → ((c : Bool) → is_negative β ≡ c → Changes i p c)
          → (β ≡ D.simple k) ⊎ (¬ (β ≡ D.simple k)) → (β ≡ opposite (D.simple k)) ⊎ (¬ (β ≡ opposite (D.simple k)))
          → Changes i (k ∷ p) b
      step a f known (inl s) other =
          let image : D.reflect k β ≡ opposite (D.simple k) = ap (D.reflect k) s ∙ pl.reflect_simple k in
          let is_true : true ≡ b = sym (ap is_negative image ∙ pl.simple_opposite_negative k) ∙ e in
          let back : along D (backwards p) (D.simple k) ≡ D.simple i = ap (along D (backwards p)) (sym s) ∙ back_along D laws p (D.simple i) in
          let long_k = longer D laws opposite is_negative positives pl k p (ap is_negative back ∙ pl.simple_positive i) in
          let gone = length_same D laws opposite is_negative positives pl (k ∷ (p ++ (i ∷ []))) p (λ r.
          ap (D.reflect k) (along_append D laws p (i ∷ []) r ∙ conjugated D laws p i k r s) ∙ laws.reflect_twice k (along D p r)) in
          subst (λ c. Changes i (k ∷ p) c) is_true (long_k ∙ ap suc (sym gone))
      step a f known (inr n) (inl s) =
          let image : D.reflect k β ≡ D.simple k =
          ap (D.reflect k) s ∙ pl.reflect_opposite k (D.simple k) ∙ ap opposite (pl.reflect_simple k) ∙ pl.opposite_twice (D.simple k) in
          let is_false : false ≡ b = sym (ap is_negative image ∙ pl.simple_positive k) ∙ e in
          let turned : along D p (opposite (D.simple i)) ≡ D.simple k =
          opposite_along p (D.simple i) ∙ ap opposite s ∙ pl.opposite_twice (D.simple k) in
          let back : along D (backwards p) (D.simple k) ≡ opposite (D.simple i) =
          ap (along D (backwards p)) (sym turned) ∙ back_along D laws p (opposite (D.simple i)) in
          let low : is_negative (along D (backwards p) (D.simple k)) ≡ true = ap is_negative back ∙ pl.simple_opposite_negative i in
          let short_k = shorter D laws opposite is_negative positives pl k p (pl.negative_is (along D (backwards p) (D.simple k)) low) in
          let sent : along D (p ++ (i ∷ [])) (D.simple i) ≡ D.simple k =
          along_append D laws p (i ∷ []) (D.simple i) ∙ ap (along D p) (pl.reflect_simple i) ∙ turned in
          let gone = length_same D laws opposite is_negative positives pl (k ∷ (p ++ (i ∷ []))) p (λ r.
          sym (conjugated D laws (p ++ (i ∷ [])) i k r sent) ∙ along_append D laws p (i ∷ []) (D.reflect i r)
          ∙ ap (along D p) (laws.reflect_twice i r)) in
          subst (λ c. Changes i (k ∷ p) c) is_false (gone ∙ short_k)
      step a f known (inr n) (inr m) =
          let kept : is_negative β ≡ b = sym (pl.sign_kept k β n m) ∙ e in
          let γ = along D (backwards p) (D.simple k) in
          let not_simple : ¬ (γ ≡ D.simple i) = λ h. n (ap (along D p) (sym h) ∙ along_back D laws p (D.simple k)) in
          let not_opposite : ¬ (γ ≡ opposite (D.simple i)) = λ h.
          m (sym (pl.opposite_twice β) ∙ ap opposite (sym (opposite_along p (D.simple i)) ∙ ap (along D p) (sym h) ∙ along_back D laws p (D.simple k))) in
          let moved : is_negative (along D (backwards (p ++ (i ∷ []))) (D.simple k)) ≡ is_negative γ =
          ap (λ q. is_negative (along D q (D.simple k))) (backwards_snoc p i) ∙ pl.sign_kept i γ not_simple not_opposite in
          combine k i p b (is_negative γ) (known b kept) (left_changes k p (is_negative γ) refl)
          (left_changes k (p ++ (i ∷ [])) (is_negative γ) moved)
