use Rattle.std.proofs.Common.{sym, ap, subst, ◌∙◌}
use Rattle.lie_datum.specs.RootDatum.{IsWithin}
use Rattle.lie_datum.specs.RootList.{root_of}
use Rattle.lie_datum.specs.Vectors.{combination}
use Rattle.lie_datum.proofs.SignedRoots.{root_is}
use Rattle.lie_weyl.specs.WeylElement.{moved}
use Rattle.lie_weyl.proofs.Words.{is_word, IsRoot-moved}
use Rattle.lie_weyl.proofs.ImageLemmas.{combined_image, named_some, named_same}
use Rattle.lie_weyl.proofs.weyl.Weyl.image.Goals as goal

pub combination-requires-clause-coeffs : goal.combination-requires-clause-coeffs
combination-requires-clause-coeffs c =
    let d = c.args.datum.now in
    subst (IsWithin 100) (sym c.coeffs.ensures) (c.loaded.ensures.axioms.finite.small (root_of d c.args.r) (root_is d c.loaded.ensures c.args.r c.requires.number)).0

pub unwrap-requires : goal.unwrap-requires
unwrap-requires c =
    let d = c.args.datum.now in
    let vs = c.vectors-vectors.result in
    let w = c.requires.element.0 in
    let s = c.requires.element.1 in
    let r = root_of d c.args.r in
    let p = root_is d c.loaded.ensures c.args.r c.requires.number in
    let h = is_word d.base w s.letters in
    let v = c.vectors-vectors.ensures in
    named_some d c.loaded.ensures (moved d.base w r) (IsRoot-moved d c.loaded.ensures w r h p) _ c.named.result
    (combined_image d c.loaded.ensures w h vs v.count v.lengths (λ i q. v.images i w q s) r p ∙ ap (λ x. combination x vs) (sym c.coeffs.ensures) ∙ sym c.combination.ensures.value) c.named.ensures

pub returns-clause-image : goal.returns-clause-image
returns-clause-image c = λ w s.
    let d = c.args.datum.now in
    let vs = c.vectors-vectors.result in
    let r = root_of d c.args.r in
    let p = root_is d c.loaded.ensures c.args.r c.requires.number in
    let h = is_word d.base w s.letters in
    let v = c.vectors-vectors.ensures in
    named_same d c.loaded.ensures (moved d.base w r) (IsRoot-moved d c.loaded.ensures w r h p) _ c.named.result c.unwrap.result
    (combined_image d c.loaded.ensures w h vs v.count v.lengths (λ i q. v.images i w q s) r p ∙ ap (λ x. combination x vs) (sym c.coeffs.ensures) ∙ sym c.combination.ensures.value) c.named.ensures c.unwrap.ensures
