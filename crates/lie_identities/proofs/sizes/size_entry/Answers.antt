use Rattle.std.proofs.Common.{◌+◌, ◌*◌, ◌^◌, ◌≤◌, pos, nat_abs, ap, arith}
use Rattle.lie_ring.specs.Matrices.{entry}
use Rattle.lie_const.specs.Modules.{top}
use Rattle.lie_identities.proofs.NaturalSizes.{partial-more, partial-grows}
use Rattle.lie_identities.proofs.sizes.size_entry.Goals as goal

pub returns-in_err-sum : goal.returns-in_err-sum
returns-in_err-sum c =
    let v = c.args.steps.now.module.now in
    let r = c.args.r in
    let n = c.args.size in
    let a = c.args.row in
    let b = c.args.col in
    let k = c.loop-k.k in
    let wide : 2 ^ 126 ≤ c.loop-k.sum + n ^ (k + 1) * nat_abs (entry (pos 0) c.power.result.now a b) = c.in_err-sum.ensures in
    let same = ap (λ M. n ^ (k + 1) * nat_abs (entry (pos 0) M a b)) c.power.ensures.value in
    let more = partial-more v r n a b k in
    let before = c.loop-k.invariant.0 in
    let t = c.loop-k-test.true in
    let e = c.top-k-end.ensures in
    let grows = partial-grows v r n a b (k + 1) (top v r) (omega (arith, t, e)) in
    rw c.from_residual.ensures (omega (arith, wide, same, more, before, grows))
