use Rattle.std.proofs.Common.{◌<◌, length, arith}
use Rattle.lie_weight.proofs.TensorPlaces.{rows_push}
use Rattle.lie_weight.proofs.tensor.product_weights.Goals as goal

pub loop-a-preserved : goal.loop-a-preserved
loop-a-preserved c =
    let v = c.args.first.now in
    let a = c.loop-a.a in
    let inside : a < length v.weights = let t = c.loop-a-test.true in let e = c.loop-a.auto.a-end in let n = c.dim-a-end.ensures.value in omega (arith, t, e, n) in
    rows_push c.weight.result.now v.weights c.args.second.now.weights a c.loop-a.weights.items c.add_weights.new.weights.items inside c.weight.ensures.value c.loop-a.invariant c.in_ok-add_weights.ensures
