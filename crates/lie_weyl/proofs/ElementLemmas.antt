-- Elements and their words: another word of the same product spells the same element.
use Rattle.std.proofs.Common.{◌≡◌, ℕ, zero, suc, ◌-◌, ◌<◌, ℤ, pos, List, [], ◌∷◌, length, get_or, reverse, refl, sym, ap, ◌∙◌, arith}
use Rattle.std.proofs.lemmas.List.{reverse-reverse, length-reverse}
use Rattle.lie_datum.specs.Vectors.{Vector, entry}
use Rattle.lie_datum.specs.RootDatum.{simple, IsSimpleIndex, is_simple}
use Rattle.lie_datum.specs.RootList.{RootDatum, IsLoaded, root_of, height}
use Rattle.lie_datum.proofs.SignedRoots.{same_number}
use Rattle.lie_weyl.specs.WeylElement.{moved, AreLetters, Spells, SameProduct, IsLength, IsLeastWord}
use Rattle.lie_weyl.specs.Descents.{IsLeastOf, AreHeights}
use Rattle.lie_weyl.proofs.Words.{is_word, are_letters, IsWord-reverse, reverse_same}
use Rattle.lie_weyl.proofs.Linearity.{spelled_same}
use Rattle.lie_weyl.proofs.LengthLemmas.{length_same, length_le, length_reverse}

-- the same product, the same element
pub respelled : (d : RootDatum) (w v : List ℕ) (images : List ℤ) → Spells d w images → AreLetters d.base v → SameProduct d w v → Spells d v images
respelled d w v images s l e = record {
  letters = l;
  count = s.count;
  numbers = s.numbers;
  images_are = λ i q. s.images_are i q ∙ e (simple i) (is_simple i q);
}

-- the heights of the images are those of the word
pub spelled_heights : (d : RootDatum) (w : List ℕ) (images : List ℤ) (heights : Vector) → Spells d w images → ((k : ℕ) → k < length images → entry heights k ≡ height (root_of d (get_or images k (pos 0)))) → AreHeights d w heights
spelled_heights d w images heights s h i q =
    let a = q.0 in
    let b = q.1 in
    let n = s.count in
    h (i - 1) (omega (arith, a, b, n)) ∙ ap height (s.images_are i q)

same_list : (xs ys : List ℤ) → length xs ≡ length ys → ((k : ℕ) → k < length xs → get_or xs k (pos 0) ≡ get_or ys k (pos 0)) → xs ≡ ys
same_list [] [] n h = refl
same_list [] (y ∷ ys) n h = absurd (omega (arith, n))
same_list (x ∷ xs) [] n h = absurd (omega (arith, n))
same_list (x ∷ xs) (y ∷ ys) n h = let e = h zero (omega arith) in let f = same_list xs ys (omega (arith, n)) (λ k l. h (suc k) (omega (arith, l))) in cc

module _ (d : RootDatum) (loaded : IsLoaded d) where
  -- a word has one list of images
  pub one_list : (w : List ℕ) (x y : List ℤ) → Spells d w x → Spells d w y → x ≡ y
  one_list w x y s t =
      let m = s.count in
      let n = t.count in
      same_list x y (m ∙ sym n) (λ k l. same_number d loaded (get_or x k (pos 0)) (get_or y k (pos 0)) (s.numbers k (pos 0) l) (t.numbers k (pos 0) (omega (arith, l, m, n)))
      (let e : suc k - 1 ≡ k = omega arith in
      let q : IsSimpleIndex d.base (suc k) = (omega arith, omega (arith, l, m)) in
      ap (λ j. root_of d (get_or x j (pos 0))) (sym e) ∙ s.images_are (suc k) q ∙ sym (t.images_are (suc k) q) ∙ ap (λ j. root_of d (get_or y j (pos 0))) e))

  pub is_length : (w p : List ℕ) (images : List ℤ) → Spells d w images → IsLeastOf d (reverse w) p → IsLength d images (length p)
  is_length w p images s h =
      let k = is_word d.base w s.letters in
      let q = is_word d.base p h.letters in
      let n = length_reverse d loaded w k in
      let short = h.shortest in
      let same = reverse_same d loaded (reverse w) p (IsWord-reverse d.base w k) q h.same in
      let back : SameProduct d w (reverse p) = λ r m. ap (λ v. moved d.base v r) (sym (reverse-reverse w)) ∙ same r m in
      record {
        counted = λ v t. short ∙ n ∙ length_same d loaded w v (spelled_same d loaded w v images s t);
        reached = (reverse p, respelled d w (reverse p) images s (are_letters d.base (reverse p) (IsWord-reverse d.base p q)) back, length-reverse p);
        least = λ v t. (let a = length_same d loaded w v (spelled_same d loaded w v images s t) in let b = length_le d loaded v (is_word d.base v t.letters) in omega (arith, short, n, a, b));
      }

  pub is_least_word : (w p : List ℕ) (images : List ℤ) → Spells d w images → IsLeastOf d w p → IsLeastWord d p images
  is_least_word w p images s h = record {
    spells = respelled d w p images s h.letters h.same;
    shortest = h.shortest ∙ length_same d loaded w p h.same;
    least = λ v t n. h.least v t.letters (spelled_same d loaded w v images s t) n;
  }
