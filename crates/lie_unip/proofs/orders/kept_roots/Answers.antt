use Rattle.std.proofs.Common.{true, refl, ◌≡◌, ◌<◌, ◌+◌, pos, length, ap, ◌∙◌, arith}
use Rattle.std.specs.Prelude.{nat_lt}
use Rattle.std.proofs.lemmas.Bool.Decides.{nat_tests}
use Rattle.lie_datum.specs.RootList.{root_of}
use Rattle.lie_weyl.specs.WeylElement.{moved}
use Rattle.lie_unip.proofs.DatumLemmas.{kept_more}
use Rattle.lie_unip.proofs.orders.kept_roots.Goals as goal

pub loop-k-preserved : goal.loop-k-preserved
loop-k-preserved c = λ word s.
    let d = c.args.datum.now in
    let k = c.loop-k.k in
    let test = c.loop-k-test.true in
    let m = c.m-m.ensures.value in
    let inside : k < length d.positive = omega (arith, test, m) in
    let before : nat_lt k c.m-m.result ≡ true = grind (arith, nat_tests) in
    let at : c.at.result ≡ pos (k + 1) = c.at.ensures ∙ rw before refl in
    kept_more d c.loaded.ensures word k c.image-image.result c.is_positive.result c.loop-k.kept.items c.push.new.self.items s.letters inside c.image-image.ensures.number
    (c.image-image.ensures.image word s ∙ ap (λ n. moved d.base word (root_of d n)) at) c.is_positive.ensures.0 c.is_positive.ensures.1 (c.loop-k.invariant word s) c.in_ok-push.ensures.items
