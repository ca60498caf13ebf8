use Rattle.std.proofs.Common.{suc, reverse, ap, sym, ◌∙◌}
use Rattle.lie_datum.specs.RootDatum.{simple, is_simple}
use Rattle.lie_datum.proofs.LoadedLaws.{not_both}
use Rattle.lie_weyl.specs.WeylElement.{moved, word_length}
use Rattle.lie_weyl.proofs.Words.{is_word, letter, IsWord-reverse, IsRoot-moved, reverse-cons}
use Rattle.lie_weyl.proofs.LengthLemmas.{longer, shorter, length_reverse}
use Rattle.lie_weyl.proofs.laws.one_factor_more.Goals as goal

pub returns-clause-right : goal.returns-clause-right
returns-clause-right c = λ d loaded w i l s.
    let h = is_word d.base w l in (
      longer d loaded w i h s,
      (λ n. shorter d loaded w i h s (λ p. not_both d loaded (moved d.base w (simple i)) (IsRoot-moved d loaded w (simple i) h (is_simple i s)) n p)),
    )

pub returns-clause-left : goal.returns-clause-left
returns-clause-left c = λ d loaded w i l s.
    let h = is_word d.base w l in
    let v = reverse w in
    let k = IsWord-reverse d.base w h in
    let turned = ap (word_length d) (sym (reverse-cons i w)) ∙ length_reverse d loaded _ (letter s h) in
    let same = length_reverse d loaded w h in (
      (λ p. sym turned ∙ longer d loaded v i k s p ∙ ap suc same),
      (λ n. ap suc (sym turned) ∙ shorter d loaded v i k s (λ p. not_both d loaded (moved d.base v (simple i)) (IsRoot-moved d loaded v (simple i) k (is_simple i s)) n p) ∙ same),
    )
