-- Words of simple indices by their numbers: products, lengths, and the images that they spell.
use Rattle.std.proofs.Common.{◌≡◌, ℕ, suc, ◌-◌, ◌<◌, ℤ, pos, List, [], ◌∷◌, map, length, refl, sym, ap, ap₂, subst, ◌∙◌, arith}
use Rattle.std.specs.List.{range_with_len}
use Rattle.std.proofs.lemmas.List.FromFn.{get_or-map-range_with_len, length-map-range_with_len}
use Rattle.std.proofs.lemmas.List.{length-map}
use Rattle.lie_datum.specs.declared.root_pair.Root.{Root}
use Rattle.lie_datum.specs.RootDatum.{rank, simple, reflected, IsSimpleIndex, IsRoot, is_simple}
use Rattle.lie_datum.specs.RootList.{RootDatum, IsLoaded, IsNumber, root_of}
use Rattle.lie_datum.proofs.SignedRoots.{number_is}
use Rattle.lie_weyl.specs.WeylElement.{moved, AreLetters, SameProduct, Spells, word_length}
use Rattle.lie_weyl.proofs.Words.{IsWord, is_word, are_letters, empty, letter, IsRoot-moved}
use Rattle.lie_weyl.proofs.LengthLemmas.{length_same, length_le}
use Rattle.lie_weyl.proofs.Linearity.{spelled_same}
use Rattle.lie_const.specs.CommutatorTerms.{number_of}
use Rattle.lie_const.proofs.FoundRoots.{number_of_is}
use Rattle.lie_letters.specs.Names.{RootName, Index, root_at}
use Rattle.lie_letters.specs.Frames.{FrameData, setting}
use Rattle.lie_letters.proofs.NameLemmas.{index_of, index_is, at_root, same_name, reflect_at, name_of_number, named_is}
use Rattle.lie_bruhat.specs.WeylWords.{carried}
use Rattle.lie_bruhat.proofs.ShapeLemmas.{IsShort}

module _ (f : FrameData) (loaded : IsLoaded f.datum) where
  abbrev d : RootDatum
  d = f.datum

  -- the numbers of simple indices, counted from 1
  abbrev pub numbers : List (Index d) → List ℕ
  numbers p = map (λ i. suc i.number) p

  -- they are a word
  pub word_of_numbers : (p : List (Index d)) → IsWord d.base (numbers p)
  word_of_numbers [] = empty
  word_of_numbers (i ∷ p) = letter (index_is d i) (word_of_numbers p)

  indices_from : {w : List ℕ} → IsWord d.base w → (p : List (Index d)) × (numbers p ≡ w)
  indices_from empty = ([], refl)
  indices_from (letter {i = i} s h) =
      let k = index_of d loaded (i - 1) (let l = s.0 in let u = s.1 in omega (arith, l, u)) in
      let p = indices_from h in
      (k.0 ∷ p.0, ap₂ ◌∷◌ (let e = k.1 in let l = s.0 in omega (arith, e, l)) p.1)

  -- a word, as simple indices
  pub indices_of : (w : List ℕ) → AreLetters d.base w → (p : List (Index d)) × (numbers p ≡ w)
  indices_of w l = indices_from (is_word d.base w l)

  -- the product on a root, by its coefficients
  pub carried_at : (p : List (Index d)) (r : RootName d) → root_at d (carried (setting f) p r) ≡ moved d.base (numbers p) (root_at d r)
  carried_at [] r = refl
  carried_at (i ∷ p) r = reflect_at d loaded i (carried (setting f) p r) ∙ ap (reflected d.base (suc i.number)) (carried_at p r)

  -- each root has a name
  pub name_of : (r : Root) → IsRoot d.base r → (n : RootName d) × (root_at d n ≡ r)
  name_of r h =
      let k = number_is d loaded r h in
      let n = name_of_number d k.0 k.1 in
      (n.0, sym (named_is d n.0).root ∙ ap (root_of d) n.1 ∙ k.2)

  -- words with one product, by names and by coefficients
  pub same_carried : (p q : List (Index d)) → SameProduct d (numbers p) (numbers q) → (r : RootName d) → carried (setting f) p r ≡ carried (setting f) q r
  same_carried p q h r =
      same_name d loaded (carried (setting f) p r) (carried (setting f) q r) (carried_at p r ∙ h (root_at d r) (at_root d loaded r) ∙ sym (carried_at q r))

  pub same_product : (p q : List (Index d)) → ((r : RootName d) → carried (setting f) p r ≡ carried (setting f) q r) → SameProduct d (numbers p) (numbers q)
  same_product p q h r at =
      let n = name_of r at in
      ap (moved d.base (numbers p)) (sym n.1) ∙ sym (carried_at p n.0) ∙ ap (root_at d) (h n.0) ∙ carried_at q n.0 ∙ ap (moved d.base (numbers q)) n.1

  -- a word with as many letters as its length is short
  pub short_word : (q : List (Index d)) → length (numbers q) ≡ word_length d (numbers q) → IsShort (setting f) q
  short_word q size v same =
      let e = length_same d loaded (numbers v) (numbers q) (same_product v q same) in
      let l = length_le d loaded (numbers v) (word_of_numbers v) in
      let a = length-map v (λ (i : Index d). suc i.number) in
      let b = length-map q (λ (i : Index d). suc i.number) in
      omega (arith, size, e, l, a, b)

  -- the images of the simple roots
  pub images : List (Index d) → List ℤ
  images p = map (λ k. number_of d (moved d.base (numbers p) (simple (suc k))).coeffs) (range_with_len 0 (rank d.base))

  -- the number that the coefficients of a root tell
  found_number : (r : Root) → IsRoot d.base r → IsNumber d (number_of d r.coeffs) × (root_of d (number_of d r.coeffs) ≡ r)
  found_number r h =
      let k = number_is d loaded r h in
      let e = number_of_is d loaded k.0 r.coeffs k.1 (ap (λ s. s.coeffs) k.2) in
      (subst (IsNumber d) (sym e) k.1, ap (root_of d) e ∙ k.2)

  -- the word spells them
  pub images_spelled : (p : List (Index d)) → Spells d (numbers p) (images p)
  unfolding images
  images_spelled p =
      let value : ℕ → ℤ = λ k. number_of d (moved d.base (numbers p) (simple (suc k))).coeffs in
      let image = λ (i : ℕ) (s : IsSimpleIndex d.base i).
      found_number (moved d.base (numbers p) (simple i)) (IsRoot-moved d loaded (numbers p) (simple i) (word_of_numbers p) (is_simple i s)) in
      let long = length-map-range_with_len value 0 (rank d.base) in
      record {
        letters = are_letters d.base (numbers p) (word_of_numbers p);
        count = long;
        numbers = λ k e l.
            (let h : k < rank d.base = omega (arith, l, long) in
            let at = get_or-map-range_with_len value 0 (rank d.base) k k e h (omega arith) in
            subst (IsNumber d) (sym at) (image (suc k) (omega arith, omega (arith, h))).0);
        images_are = λ i s.
            (let h : i - 1 < rank d.base = (let a = s.0 in let b = s.1 in omega (arith, a, b)) in
            let at = get_or-map-range_with_len value 0 (rank d.base) (i - 1) (i - 1) (pos 0) h (omega arith) in
            let one : suc (i - 1) ≡ i = (let a = s.0 in omega (arith, a)) in
            ap (root_of d) (at ∙ ap (λ k. number_of d (moved d.base (numbers p) (simple k)).coeffs) one) ∙ (image i s).1);
      }

  -- another word of these images has the same product
  pub respelled : (p : List (Index d)) (w : List ℕ) → Spells d w (images p) → SameProduct d (numbers p) w
  respelled p w h = spelled_same d loaded (numbers p) w (images p) (images_spelled p) h
