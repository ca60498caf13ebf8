use Rattle.std.proofs.Common.{◌<◌, arith}
use Rattle.std.proofs.Math.Nat.{one-le-pow}
use Rattle.lie_field.proofs.ProductLemmas.{product-none, product_value}
use Rattle.lie_field.proofs.products.+product_of.Goals as goal

pub returns-then-count-eq0-clause-value : goal.returns-then-count-eq0-clause-value
returns-then-count-eq0-clause-value t c f d is = product-none f c.args.count c.args.a c.args.b c.if-count-eq0.true

pub returns-then-count-eq0-clause-below : goal.returns-then-count-eq0-clause-below
returns-then-count-eq0-clause-below t c = one-le-pow c.args.m.now.k c.args.m.now.p c.requires.p_pos

pub returns-clause-value : goal.returns-clause-value
returns-clause-value t c f d is =
    let above : 0 < c.args.count = let h = c.if-count-eq0.false in omega (arith, h) in
    product_value f d c.args.m.now c.args.count c.args.a c.args.b c.product_of-rest.result c.times_x.result c.multiple_of.result c.sum_of.result is above
    (c.product_of-rest.ensures.value f d is) (c.times_x.ensures.value f d is) c.multiple_of.ensures.value c.sum_of.ensures.value
