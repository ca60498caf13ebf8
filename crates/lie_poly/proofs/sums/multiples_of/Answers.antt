use Rattle.std.proofs.Common.{arith}
use Rattle.std.specs.Prelude.{pos, nat_abs}
use Rattle.std.proofs.Math.Nat.{mul-le-mul_left}
use Rattle.lie_poly.specs.Terms.{term}
use Rattle.lie_poly.proofs.TermLemmas.{size-at, degree-at}
use Rattle.lie_poly.proofs.sums.multiples_of.Goals as goal

pub product_term-requires : goal.product_term-requires
product_term-requires c =
    let d = term (pos 0, pos 0) (pos 0) in
    let size = mul-le-mul_left (nat_abs c.args.x.coefficient) (size-at c.args.ys.now c.loop-y.y-index d c.loop-y-test.true) in
    let degree = degree-at c.args.ys.now c.loop-y.y-index d c.loop-y-test.true in
    record { small = omega (arith, size, c.requires.small); degree = omega (arith, degree, c.requires.degree) }
