use Rattle.std.proofs.Common.{arith}
use Rattle.lie_weight.proofs.ListingTests.{heavy_more, heavy_none}
use Rattle.lie_weight.proofs.heavy.first_heavy.Goals as goal

pub loop-a-preserved : goal.loop-a-preserved
loop-a-preserved c = heavy_more c.args.weights.now c.loop-a.a c.loop-a.invariant (λ h. (let t = c.is_heavy.ensures.1 h in let f = c.if-is_heavy.false in cc))

pub returns-clause-here : goal.returns-clause-here
returns-clause-here c = heavy_none c.args.weights.now c.loop-a.a (let t = c.loop-a-test.false in let e = c.loop-a.auto.a-end in omega (arith, t, e)) c.loop-a.invariant
