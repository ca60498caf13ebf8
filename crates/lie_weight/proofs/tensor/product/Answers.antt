-- One root more, and the whole product.
use Rattle.std.proofs.Common.{◌≡◌, ◌*◌, map, length, ap, subst, ◌∙◌, arith}
use Rattle.std.proofs.lemmas.List.{map_push}
use Rattle.lie_datum.specs.Numbers.{number_at}
use Rattle.lie_weight.specs.Kept.{kept_module}
use Rattle.lie_weight.specs.TensorParts.{AreTensorPowers}
use Rattle.lie_weight.proofs.TensorPlaces.{AreProducts, products_push, product_is, product_kept}
use Rattle.lie_weight.proofs.tensor.product.Goals as goal

pub loop-place-preserved : goal.loop-place-preserved
loop-place-preserved c =
    let d = c.args.datum.now in
    let v = c.args.first.now in
    let w = c.args.second.now in
    let p = c.loop-place.place in
    let more = c.in_ok-product_powers.field-0 in
    let xs = c.loop-place.powers.items in
    products_push d v w p (map (λ l. l.items) xs) (map (λ l. l.items) c.push.new.self.items) more.items c.loop-place.invariant
    (subst (λ q. AreTensorPowers v w q more.items) (c.at-root.ensures ∙ ap (λ m. number_at m p) c.m-positive.ensures.value) c.in_ok-product_powers.ensures)
    (ap (map (λ l. l.items)) c.in_ok-push.ensures.items ∙ map_push (λ l. l.items) xs more)

pub invariant_of-result : goal.invariant_of-result
invariant_of-result c =
    let d = c.args.datum.now in
    let v = c.args.first.now in
    let w = c.args.second.now in
    let t = kept_module (record { positive = c.m-positive.result; weights = c.args.weights; powers = c.loop-place.powers }) in
    let m = c.m-positive.ensures.value in
    let b = c.m-positive.ensures.bound in
    let end : c.loop-place.place ≡ 2 * length d.positive = let f = c.loop-place-test.false in let a = c.loop-place.auto in omega (arith, f, a, m) in
    product_kept d v w t m c.requires.weights (subst (λ n. AreProducts d v w n t.powers) end c.loop-place.invariant) (omega (arith, m, b)) c.requires.few c.requires.light

pub returns : goal.returns
returns c =
    let d = c.args.datum.now in
    let v = c.args.first.now in
    let w = c.args.second.now in
    let t = kept_module (record { positive = c.m-positive.result; weights = c.args.weights; powers = c.loop-place.powers }) in
    let m = c.m-positive.ensures.value in
    let end : c.loop-place.place ≡ 2 * length d.positive = let f = c.loop-place-test.false in let a = c.loop-place.auto in omega (arith, f, a, m) in
    product_is d v w t m c.requires.weights (subst (λ n. AreProducts d v w n t.powers) end c.loop-place.invariant)
