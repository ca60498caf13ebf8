use Rattle.std.proofs.Common.{◌<◌, length, arith}
use Rattle.lie_weight.proofs.DualLemmas.{opposites_push}
use Rattle.lie_weight.proofs.dual.opposites.Goals as goal

pub loop-weight-preserved : goal.loop-weight-preserved
loop-weight-preserved c =
    let k = c.loop-weight.weight-index in
    let inside : k < length c.args.weights.now = let t = c.loop-weight-test.true in let e = c.loop-weight.auto.weight-index-end in omega (arith, t, e) in
    opposites_push _ c.args.weights.now c.loop-weight.opposites.items c.push.new.self.items k c.opposite.result inside c.opposite.ensures c.loop-weight.invariant c.in_ok-push.ensures.items
