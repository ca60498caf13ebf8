-- Words of least descents: they end at 1, and reversed elements have them as least words.
use Rattle.std.proofs.Common.{◌≡◌, ◌≢◌, ℕ, zero, suc, ◌+◌, ◌<◌, List, [], ◌∷◌, ◌++◌, length, reverse, refl, sym, ap, subst, ◌∙◌, arith, ◌⊎◌, inl, inr, ⊎_elim}
use Rattle.std.proofs.lemmas.List.{append_assoc, append-nil, reverse-reverse, length-reverse}
use Rattle.std.specs.Ordering.{nat_cmp, ordering_then}
use Rattle.std.specs.Cmp.{nat_cmp_is}
use Rattle.std.specs.Cmp.Lexicographic.{slice_cmp}
use Rattle.std.specs.declared.cmp.Ordering.TheVariants.{Less, Equal, Greater}
use Rattle.lie_datum.specs.RootDatum.{simple, reflected, IsSimpleIndex, is_reflected, IsPositive}
use Rattle.lie_datum.specs.RootList.{RootDatum, IsLoaded}
use Rattle.lie_weyl.specs.WeylElement.{moved, SameProduct, word_length}
use Rattle.lie_weyl.specs.Descents.{IsLeastOf}
use Rattle.lie_weyl.proofs.Words.{IsWord, empty, letter, is_word, are_letters, IsWord-append, one_letter, IsWord-reverse, reverse-cons, IsRoot-moved, moved-append, reverse_moved, reverse_same, twice}
use Rattle.lie_weyl.proofs.LengthLemmas.{length_same, longer, shorter, length_le, length_reverse}

-- i is the least simple index whose root the word makes negative
pub record IsLeastDescent (d : RootDatum) (w : List ℕ) (i : ℕ) : Type 0 where
  pub index : IsSimpleIndex d.base i
  pub down : ¬ IsPositive (moved d.base w (simple i))
  pub before : (j : ℕ) → IsSimpleIndex d.base j → j < i → IsPositive (moved d.base w (simple j))

-- each letter of p is the least descent of the word before it
abbrev pub AreDescents : RootDatum → List ℕ → List ℕ → Type 0
AreDescents d w [] = Unit {0}
AreDescents d w (i ∷ p) = IsLeastDescent d w i × AreDescents d (w ++ i ∷ []) p

pub descents_more : (d : RootDatum) (w p : List ℕ) (i : ℕ) → AreDescents d w p → IsLeastDescent d (w ++ p) i → AreDescents d w (p ++ i ∷ [])
descents_more d w [] i h x = (subst (λ z. IsLeastDescent d z i) (append-nil w) x, tt)
descents_more d w (j ∷ p) i h x = (h.0, descents_more d (w ++ j ∷ []) p i h.1 (subst (λ z. IsLeastDescent d z i) (sym (append_assoc w (j ∷ []) p)) x))

pub descents_word : (d : RootDatum) (w p : List ℕ) → AreDescents d w p → IsWord d.base p
descents_word d w [] h = empty
descents_word d w (i ∷ p) h = letter h.0.index (descents_word d (w ++ i ∷ []) p h.1)

less_or : (i j : ℕ) → (i < j) ⊎ ((i ≡ j) ⊎ (j < i))
less_or zero zero = inr (inl refl)
less_or zero (suc j) = inl (omega arith)
less_or (suc i) zero = inr (inr (omega arith))
less_or (suc i) (suc j) = ⊎_elim (λ l. inl (omega (arith, l))) (λ h. ⊎_elim (λ e. inr (inl (ap suc e))) (λ l. inr (inr (omega (arith, l)))) h) (less_or i j)

module _ (d : RootDatum) (loaded : IsLoaded d) where
  -- each descent takes one from the length
  pub descents_size : (w p : List ℕ) → IsWord d.base w → AreDescents d w p → word_length d (w ++ p) + length p ≡ word_length d w
  descents_size w [] h a = ap (λ z. word_length d z + 0) (append-nil w) ∙ omega arith
  descents_size w (i ∷ p) h a =
      let v = w ++ i ∷ [] in
      let rest = descents_size v p (IsWord-append d.base w (i ∷ []) h (one_letter d.base i a.0.index)) a.1 in
      let down = shorter d loaded w i h a.0.index a.0.down in
      let e = ap (word_length d) (append_assoc w (i ∷ []) p) in
      omega (arith, rest, down, e)

  -- the first letter of a word of the inverse may be moved to the element
  moved_letter : (w : List ℕ) (j : ℕ) (q : List ℕ) → IsWord d.base w → IsSimpleIndex d.base j → IsWord d.base q → SameProduct d (reverse w) (j ∷ q) → SameProduct d (w ++ j ∷ []) (reverse q)
  moved_letter w j q h s k e r p =
      let t = reflected d.base j r in
      let m = is_reflected j r s p in
      let back = reverse_same d loaded (reverse w) (j ∷ q) (IsWord-reverse d.base w h) (letter s k) e t m in
      moved-append d.base w (j ∷ []) r ∙ ap (λ z. moved d.base z t) (sym (reverse-reverse w)) ∙ back
      ∙ ap (λ z. moved d.base z t) (reverse-cons j q) ∙ moved-append d.base (reverse q) (j ∷ []) t ∙ ap (moved d.base (reverse q)) (twice d loaded j r s p)

  -- the first letter of a shortest word of the inverse is a descent
  first_down : (w : List ℕ) (j : ℕ) (q : List ℕ) → IsWord d.base w → IsSimpleIndex d.base j → IsWord d.base q → SameProduct d (reverse w) (j ∷ q) → length (j ∷ q) ≡ word_length d w → ¬ IsPositive (moved d.base w (simple j))
  first_down w j q h s k e n p =
      let a = longer d loaded w j h s p in
      let b = length_same d loaded (w ++ j ∷ []) (reverse q) (moved_letter w j q h s k e) in
      let c = length_le d loaded (reverse q) (IsWord-reverse d.base q k) in
      let f = length-reverse q in
      omega (arith, a, b, c, f, n)

  descents_least : (w p : List ℕ) → IsWord d.base w → AreDescents d w p → word_length d (w ++ p) ≡ 0 → (q : List ℕ) → IsWord d.base q → SameProduct d (reverse w) q → length q ≡ length p → slice_cmp nat_cmp p q ≢ Greater
  descents_least w [] h a z [] k e n = λ f. cc
  descents_least w [] h a z (j ∷ q) k e n = λ f. cc
  descents_least w (i ∷ p) h a z [] k e n = absurd (omega (arith, n))
  descents_least w (i ∷ p) h a z (j ∷ q) (letter s k) e n =
      let size = descents_size w (i ∷ p) h a in
      let down = first_down w j q h s k e (omega (arith, size, z, n)) in
      ⊎_elim
      (λ l. (let c = nat_cmp_is i j Less l in λ f. (let g = ap (λ o. ordering_then o (slice_cmp nat_cmp p q)) c ∙ f in cc)))
      (λ m. ⊎_elim
      (λ same. (let c = nat_cmp_is i j Equal same in
      let v = w ++ i ∷ [] in
      let x = IsWord-append d.base w (i ∷ []) h (one_letter d.base i a.0.index) in
      let shifted = subst (λ t. SameProduct d (w ++ t ∷ []) (reverse q)) (sym same) (moved_letter w j q h s k e) in
      let back = reverse_same d loaded v (reverse q) x (IsWord-reverse d.base q k) shifted in
      let rest = descents_least v p x a.1 (ap (word_length d) (append_assoc w (i ∷ []) p) ∙ z) q k (λ r t. back r t ∙ ap (λ y. moved d.base y r) (reverse-reverse q)) (omega (arith, n)) in
      λ f. rest (ap (λ o. ordering_then o (slice_cmp nat_cmp p q)) c ∙ f)))
      (λ l. absurd (down (a.0.before j s l))) m)
      (less_or i j)

  -- a word of least descents that ends at 1 is the least word of the inverse
  pub least_of_inverse : (w p : List ℕ) → IsWord d.base w → AreDescents d w p → SameProduct d (w ++ p) [] → word_length d (w ++ p) ≡ 0 → IsLeastOf d (reverse w) p
  least_of_inverse w p h a e z =
      let k = descents_word d w p a in
      let same : SameProduct d (reverse w) p = λ r m.
      ap (moved d.base (reverse w)) (sym (e r m) ∙ moved-append d.base w p r) ∙ reverse_moved d loaded w (moved d.base p r) h (IsRoot-moved d loaded p r k m) in
      let size = descents_size w p h a in
      record {
        letters = are_letters d.base p k;
        same = same;
        shortest = (let b = length_reverse d loaded w h in omega (arith, size, z, b));
        least = λ v l f n. descents_least w p h a z v (is_word d.base v l) f n;
      }
