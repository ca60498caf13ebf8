use Rattle.std.proofs.Common.{reverse, subst, sym, ap, ◌∙◌}
use Rattle.std.proofs.lemmas.List.{reverse-reverse}
use Rattle.std.specs.Cmp.Rules.{signed_items}
use Rattle.lie_weyl.specs.WeylElement.{Spells}
use Rattle.lie_weyl.proofs.Words.{is_word, IsWord-reverse, reverse_same}
use Rattle.lie_weyl.proofs.ElementLemmas.{respelled, spelled_heights, one_list}
use Rattle.lie_weyl.specs.WeylElement.{moved}
use Rattle.lie_weyl.proofs.weyl.Weyl.from_images.Goals as goal

pub returns-then-eq : goal.returns-then-eq
returns-then-eq c =
    let d = c.args.datum.now in (
      sym c.images.ensures ∙ (signed_items c.images.result.now c.args.images.now).0 (sym c.eq.ensures ∙ c.if-eq.true),
      (reverse c.deref.result.now, c.inverse-w.ensures.word c.deref.result.now c.from_word.ensures),
    )

pub returns-else-eq : goal.returns-else-eq
returns-else-eq c = λ e.
    let d = c.args.datum.now in
    let w = e.0 in
    let s = e.1 in
    let p = c.descents-word.result.items in
    let least = c.descents-word.ensures.least w s.letters (spelled_heights d w c.args.images.now c.heights.result s c.heights.ensures.heights) in
    let h = subst (λ v. Spells d v c.from_word.result) c.deref.ensures.0 c.from_word.ensures in
    let g = c.inverse-w.ensures.word p h in
    let k = is_word d.base w s.letters in
    let back = reverse_same d c.loaded.ensures (reverse w) p (IsWord-reverse d.base w k) (is_word d.base p least.letters) least.same in
    let t = respelled d (reverse p) w c.inverse-w.result g s.letters (λ r m. sym (back r m) ∙ ap (λ v. moved d.base v r) (reverse-reverse w)) in
    let same = c.images.ensures ∙ one_list d c.loaded.ensures w c.inverse-w.result c.args.images.now t s in
    let yes = c.eq.ensures ∙ (signed_items c.images.result.now c.args.images.now).1 same in
    let no = c.if-eq.false in cc
