use Rattle.std.proofs.Common.{◌≡◌, ◌+◌, ◌-◌, ◌∷◌, drop, length, get_or, sym, ap, subst, ◌∙◌, arith}
use Rattle.std.proofs.lemmas.List.{drop_more}
use Rattle.lie_weyl.specs.WeylElement.{Spells}
use Rattle.lie_weyl.proofs.weyl.Weyl.from_word.Goals as goal

pub loop-k-preserved : goal.loop-k-preserved
loop-k-preserved c =
    let d = c.args.datum.now in
    let w = c.args.word.now in
    let k = c.loop-k.k in
    let t = c.loop-k-test.true in
    let n = length w in
    let e : n - 1 - k ≡ n - (k + 1) = omega (arith, t) in
    let f : n - k ≡ n - (k + 1) + 1 = omega (arith, t) in
    subst (λ v. Spells d v c.simple_times-product.result)
    (ap (λ i. get_or w i 0 ∷ drop (n - k) w) e ∙ ap (λ i. get_or w (n - (k + 1)) 0 ∷ drop i w) f ∙ sym (drop_more w (n - (k + 1)) 0 (omega (arith, t))))
    (c.simple_times-product.ensures.word (drop (n - k) w) c.loop-k.invariant)
