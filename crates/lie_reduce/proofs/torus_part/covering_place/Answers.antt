use Rattle.std.proofs.Common.{ℕ, [], get_or, sym, subst, arith}
use Rattle.lie_identities.specs.Covers.{less_axis}
use Rattle.lie_identities.specs.CoverParts.{LowersToZero}
use Rattle.lie_identities.proofs.CoverLemmas.{fails_more}
use Rattle.lie_reduce.proofs.torus_part.covering_place.Goals as goal

pub loop-a-preserved : goal.loop-a-preserved
loop-a-preserved c =
    let d = c.args.datum.now in
    fails_more (λ (a : ℕ). LowersToZero d (less_axis c.args.times (get_or c.args.space.now.weights a []) c.args.axis)) c.loop-a.a c.loop-a.invariant
    (λ h. (let t = c.lowers_to_zero.ensures.1 (subst (λ x. LowersToZero d (less_axis c.args.times x c.args.axis)) (sym c.weight.ensures.value) h) in let f = c.if-lowers_to_zero.false in cc))

pub returns : goal.returns
returns c = λ h. c.loop-a.invariant h.0 (let l = h.1 in let t = c.loop-a-test.false in let e = c.loop-a.auto.a-end in let n = c.dim-a-end.ensures.value in omega (arith, l, t, e, n)) h.2
