-- Words of simple reflections: joined, reversed, and what they do to roots.
use Rattle.std.proofs.Common.{◌≡◌, ℕ, zero, suc, List, [], ◌∷◌, ◌++◌, reverse, refl, sym, ap, subst, ◌∙◌, arith}
use Rattle.std.proofs.lemmas.List.{reverse-append, reverse-reverse}
use Rattle.lie_datum.specs.declared.root_pair.Root.{Root}
use Rattle.lie_datum.specs.RootDatum.{Base, reflected, IsSimpleIndex, IsRoot, is_reflected}
use Rattle.lie_datum.specs.RootList.{RootDatum, IsLoaded}
use Rattle.lie_datum.proofs.Roots.{root_lengths, HasLengths, reflected_twice}
use Rattle.lie_datum.proofs.LoadedLaws.{short}
use Rattle.lie_weyl.specs.WeylElement.{moved, AreLetters, SameProduct}

-- each letter is a simple index, letter by letter
pub data IsWord (b : Base) : List ℕ → Type 0 where
  empty : IsWord b []
  letter : {i : ℕ} {w : List ℕ} → IsSimpleIndex b i → IsWord b w → IsWord b (i ∷ w)

pub is_word : (b : Base) (w : List ℕ) → AreLetters b w → IsWord b w
is_word b [] h = empty
is_word b (i ∷ w) h = letter (h 0 i (omega arith)) (is_word b w (λ k e l. h (suc k) e (omega (arith, l))))

pub are_letters : (b : Base) (w : List ℕ) → IsWord b w → AreLetters b w
are_letters b [] h k d l = absurd (omega (arith, l))
are_letters b (i ∷ w) (letter s h) zero d l = s
are_letters b (i ∷ w) (letter s h) (suc k) d l = are_letters b w h k d (omega (arith, l))

pub IsWord-append : (b : Base) (w v : List ℕ) → IsWord b w → IsWord b v → IsWord b (w ++ v)
IsWord-append b [] v h k = k
IsWord-append b (i ∷ w) v (letter s h) k = letter s (IsWord-append b w v h k)

pub one_letter : (b : Base) (i : ℕ) → IsSimpleIndex b i → IsWord b (i ∷ [])
one_letter b i s = letter s empty

pub reverse-cons : (i : ℕ) (w : List ℕ) → reverse (i ∷ w) ≡ reverse w ++ i ∷ []
reverse-cons i w = reverse-append (i ∷ []) w

pub IsWord-reverse : (b : Base) (w : List ℕ) → IsWord b w → IsWord b (reverse w)
IsWord-reverse b [] h = empty
IsWord-reverse b (i ∷ w) (letter s h) = subst (IsWord b) (sym (reverse-cons i w)) (IsWord-append b (reverse w) (i ∷ []) (IsWord-reverse b w h) (one_letter b i s))

-- a joined word acts as its parts, the last first
pub moved-append : (b : Base) (w v : List ℕ) (r : Root) → moved b (w ++ v) r ≡ moved b w (moved b v r)
moved-append b [] v r = refl
moved-append b (i ∷ w) v r = ap (reflected b i) (moved-append b w v r)

module _ (d : RootDatum) (loaded : IsLoaded d) where
  pub IsRoot-moved : (w : List ℕ) (r : Root) → IsWord d.base w → IsRoot d.base r → IsRoot d.base (moved d.base w r)
  IsRoot-moved [] r h p = p
  IsRoot-moved (i ∷ w) r (letter s h) p = is_reflected i (moved d.base w r) s (IsRoot-moved w r h p)

  pub lengths : (r : Root) → IsRoot d.base r → HasLengths r
  lengths = root_lengths d.base (short d loaded) loaded.axioms.input.corank

  -- s_i twice
  pub twice : (i : ℕ) (r : Root) → IsSimpleIndex d.base i → IsRoot d.base r → reflected d.base i (reflected d.base i r) ≡ r
  twice i r s p = reflected_twice d.base (short d loaded) loaded.axioms.input.corank loaded.axioms.twos i r s (lengths r p)

  -- the reversed word undoes the word
  pub reverse_moved : (w : List ℕ) (r : Root) → IsWord d.base w → IsRoot d.base r → moved d.base (reverse w) (moved d.base w r) ≡ r
  reverse_moved [] r h p = refl
  reverse_moved (i ∷ w) r (letter s h) p =
      ap (λ v. moved d.base v (reflected d.base i (moved d.base w r))) (reverse-cons i w)
      ∙ moved-append d.base (reverse w) (i ∷ []) (reflected d.base i (moved d.base w r))
      ∙ ap (moved d.base (reverse w)) (twice i (moved d.base w r) s (IsRoot-moved w r h p)) ∙ reverse_moved w r h p

  -- and the word undoes its reversed word
  pub moved_reverse : (w : List ℕ) (r : Root) → IsWord d.base w → IsRoot d.base r → moved d.base w (moved d.base (reverse w) r) ≡ r
  moved_reverse w r h p =
      ap (λ v. moved d.base v (moved d.base (reverse w) r)) (sym (reverse-reverse w)) ∙ reverse_moved (reverse w) r (IsWord-reverse d.base w h) p

  -- words of one product have reversed words of one product
  pub reverse_same : (w v : List ℕ) → IsWord d.base w → IsWord d.base v → SameProduct d w v → SameProduct d (reverse w) (reverse v)
  reverse_same w v h k e r p =
      let s = moved d.base (reverse w) r in
      let q = IsRoot-moved (reverse w) r (IsWord-reverse d.base w h) p in
      sym (reverse_moved v s k q) ∙ ap (moved d.base (reverse v)) (sym (e s q) ∙ moved_reverse w r h p)

  -- what a letter after the word does to the simple root
  pub after_letter : (w : List ℕ) (i : ℕ) (r : Root) → moved d.base (w ++ i ∷ []) r ≡ moved d.base w (reflected d.base i r)
  after_letter w i r = moved-append d.base w (i ∷ []) r
