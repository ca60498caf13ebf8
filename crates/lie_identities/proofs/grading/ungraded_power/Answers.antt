use Rattle.std.proofs.Common.{arith}
use Rattle.lie_identities.proofs.GradingLemmas.{powers-all}
use Rattle.lie_identities.proofs.grading.ungraded_power.Goals as goal

pub returns : goal.returns
returns c =
    let t = c.loop-k-test.false in
    let e = c.top-k-end.ensures in
    powers-all c.args.steps.now.datum.now c.args.steps.now.module.now c.args.r c.loop-k.k (omega (arith, t, e)) c.loop-k.invariant
