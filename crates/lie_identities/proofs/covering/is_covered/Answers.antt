use Rattle.std.proofs.Common.{ℕ, arith}
use Rattle.lie_identities.specs.CoverParts.{IsCoveredTimes}
use Rattle.lie_identities.proofs.CoverLemmas.{fails_more, not_covered}
use Rattle.lie_identities.proofs.covering.is_covered.Goals as goal

pub loop-times-preserved : goal.loop-times-preserved
loop-times-preserved c =
    fails_more (λ (k : ℕ). IsCoveredTimes c.args.datum.now c.args.space.now k c.args.axis) c.loop-times.times c.loop-times.invariant
    (λ h. (let t = c.is_covered_times.ensures.1 h in let f = c.if-is_covered_times.false in cc))

pub returns : goal.returns
returns c =
    (λ f. absurd (cc), λ h. absurd (not_covered c.args.datum.now c.args.space.now c.args.axis (λ k l. c.loop-times.invariant k (let t = c.loop-times-test.false in let e = c.loop-times.auto in omega (arith, l, t, e))) h))
