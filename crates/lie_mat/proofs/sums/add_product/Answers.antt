use Rattle.std.proofs.Common.{◌∙◌, sym, refl}
use Rattle.lie_ring.specs.Matrices.{entry}
use Rattle.lie_mat.proofs.Products.{absent, product-left, sum-right}
use Rattle.lie_mat.proofs.sums.add_product.Goals as goal

pub returns-in-None-clause-value : goal.returns-in-None-clause-value
returns-in-None-clause-value g c =
    let r = c.args.ring.now in
    let R = g.R.Ring.ring r in
    let ring = g.met.R.Ring.is_ring r in
    let same = g.met.R.Ring.one_zero r in
    let z = g.R.Ring.zero in
    let M = c.args.first.now in
    let x = entry R.zero M c.args.row c.args.mid in
    let y = c.args.y.now in
    sum-right R ring z same c.args.sum (R.mul x y) (sym (same ∙ product-left R ring z same x y (absent R ring z same M c.args.row c.args.mid (c.in-None.ensures.none.0 refl)) c.requires.y.0)) c.requires.sum.0
