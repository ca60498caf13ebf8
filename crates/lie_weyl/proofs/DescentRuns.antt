-- What the loop that writes the word of descents keeps, and how it ends.
use Rattle.std.proofs.Common.{◌≡◌, ℕ, ◌+◌, ◌≤◌, pos, ◌≤ℤ◌, List, [], ◌∷◌, ◌++◌, length, reverse, subst, ◌∙◌, arith, ⊎_elim}
use Rattle.std.proofs.lemmas.List.{append_assoc}
use Rattle.lie_datum.specs.Vectors.{Vector, entry}
use Rattle.lie_datum.specs.RootDatum.{IsWithin}
use Rattle.lie_datum.specs.RootList.{RootDatum, IsLoaded}
use Rattle.lie_weyl.specs.WeylElement.{word_length}
use Rattle.lie_weyl.specs.Descents.{AreHeights, EndsAtRank, AreTurned, IsFirstNegative, IsLeastOf}
use Rattle.lie_weyl.proofs.Words.{IsWord, IsWord-append}
use Rattle.lie_weyl.proofs.LengthLemmas.{trivial, length_same, length_empty, length_all, descent_or_trivial, shorter}
use Rattle.lie_weyl.proofs.DescentLemmas.{AreDescents, descents_more, descents_word, descents_size, least_of_inverse}
use Rattle.lie_weyl.proofs.HeightSigns.{heights_turned, first_descent, no_descent, heights_small}

module _ (d : RootDatum) (loaded : IsLoaded d) (w : List ℕ) (h : IsWord d.base w) where
  pub run_more : (word : List ℕ) (left turned : Vector) (k : ℕ) → AreDescents d w word → AreHeights d (w ++ word) left → EndsAtRank d left → IsFirstNegative left k → AreTurned d (k + 1) left turned →
      AreDescents d w (word ++ (k + 1) ∷ []) × AreHeights d (w ++ (word ++ (k + 1) ∷ [])) turned
  run_more word left turned k a at ends f t =
      let whole = IsWord-append d.base w word h (descents_word d w word a) in
      let least = first_descent d loaded (w ++ word) left k whole at ends f in (
        descents_more d w word (k + 1) a least,
        subst (λ v. AreHeights d v turned) (append_assoc w word ((k + 1) ∷ [])) (heights_turned d loaded (w ++ word) (k + 1) left turned whole least.index at t),
      )

  -- where no height is below 0, the product is 1
  pub run_ends : (word : List ℕ) (left : Vector) → AreDescents d w word → AreHeights d (w ++ word) left → EndsAtRank d left → (IsWithin 800 left → (k : ℕ) → pos 0 ≤ℤ entry left k) → IsLeastOf d (reverse w) word
  run_ends word left a at ends up =
      let whole = IsWord-append d.base w word h (descents_word d w word a) in
      let one = trivial d loaded (w ++ word) whole (no_descent d loaded (w ++ word) left whole at (up (heights_small d loaded (w ++ word) left whole at ends))) in
      least_of_inverse d loaded w word h a one (length_same d loaded (w ++ word) [] one ∙ length_empty d loaded)

  -- after as many descents as there are positive roots too
  pub run_full : (word : List ℕ) → AreDescents d w word → length d.positive ≤ length word → IsLeastOf d (reverse w) word
  run_full word a n =
      let whole = IsWord-append d.base w word h (descents_word d w word a) in
      let size = descents_size d loaded w word h a in
      let most = length_all d loaded w in
      let none : word_length d (w ++ word) ≡ 0 = omega (arith, size, most, n) in
      least_of_inverse d loaded w word h a (⊎_elim (λ f. absurd (let g = shorter d loaded (w ++ word) f.0 whole f.1 f.2 in omega (arith, g, none))) (λ f. f) (descent_or_trivial d loaded (w ++ word) whole)) none
