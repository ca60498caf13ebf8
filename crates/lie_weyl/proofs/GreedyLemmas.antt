-- The greedy word of an element is the word of least descents of its inverse.
use Rattle.std.proofs.Common.{ℕ, List, [], ◌∷◌, ◌++◌, reverse, sym, ap, subst, ◌∙◌}
use Rattle.std.proofs.lemmas.List.{append_assoc, append-nil, reverse-reverse}
use Rattle.lie_datum.specs.RootDatum.{simple, is_simple}
use Rattle.lie_datum.specs.RootList.{RootDatum, IsLoaded}
use Rattle.lie_datum.proofs.LoadedLaws.{not_both}
use Rattle.lie_weyl.specs.WeylElement.{moved, SameProduct}
use Rattle.lie_weyl.specs.Descents.{IsLeastOf}
use Rattle.lie_weyl.specs.Laws.{IsGreedyWord}
use Rattle.lie_weyl.proofs.Words.{IsWord, empty, letter, IsWord-reverse, IsRoot-moved, reverse-cons, reverse_same}
use Rattle.lie_weyl.proofs.LengthLemmas.{length_same, length_empty}
use Rattle.lie_weyl.proofs.DescentLemmas.{AreDescents, least_of_inverse}

module _ (d : RootDatum) (loaded : IsLoaded d) where
  greedy_descents : (w p : List ℕ) → IsWord d.base w → IsGreedyWord d w p → AreDescents d (reverse w) p × SameProduct d (reverse w ++ p) []
  greedy_descents w [] h e = (tt, (λ r m. ap (λ v. moved d.base v r) (append-nil (reverse w)) ∙ reverse_same d loaded w [] h empty e r m))
  greedy_descents w (i ∷ p) h (f, e) =
      let v = reverse w in
      let k = IsWord-reverse d.base w h in
      let rest = greedy_descents (i ∷ w) p (letter f.index h) e in
      let turned = reverse-cons i w in (
        (
          record {
            index = f.index;
            down = λ q. not_both d loaded (moved d.base v (simple i)) (IsRoot-moved d loaded v (simple i) k (is_simple i f.index)) f.down q;
            before = f.before;
          },
          subst (λ z. AreDescents d z p) turned rest.0,
        ),
        (λ r m. ap (λ z. moved d.base z r) (sym (append_assoc v (i ∷ []) p) ∙ ap (λ z. z ++ p) (sym turned)) ∙ rest.1 r m),
      )

  pub greedy_least : (w p : List ℕ) → IsWord d.base w → IsGreedyWord d w p → IsLeastOf d w p
  greedy_least w p h e =
      let a = greedy_descents w p h e in
      subst (λ z. IsLeastOf d z p) (reverse-reverse w)
      (least_of_inverse d loaded (reverse w) p (IsWord-reverse d.base w h) a.0 a.1 (length_same d loaded (reverse w ++ p) [] a.1 ∙ length_empty d loaded))
