use Rattle.std.proofs.Common.{ℕ, arith}
use Rattle.lie_identities.specs.CoverParts.{IsCoveredTimes}
use Rattle.lie_identities.proofs.CoverLemmas.{fails_more, not_covered}
use Rattle.lie_reduce.proofs.torus_part.cover.Goals as goal

pub loop-times-preserved : goal.loop-times-preserved
loop-times-preserved c =
    fails_more (λ (k : ℕ). IsCoveredTimes c.args.datum.now c.args.space.now k c.args.axis) c.loop-times.times c.loop-times.invariant c.in_default.ensures

pub returns : goal.returns
returns c = not_covered c.args.datum.now c.args.space.now c.args.axis (λ k l. c.loop-times.invariant k (let t = c.loop-times-test.false in let e = c.loop-times.auto in omega (arith, l, t, e)))
