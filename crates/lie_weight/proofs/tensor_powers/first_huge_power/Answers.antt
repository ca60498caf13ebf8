use Rattle.std.proofs.Common.{arith}
use Rattle.lie_weight.proofs.TensorLemmas.{small_all, first_power}
use Rattle.lie_weight.proofs.tensor_powers.first_huge_power.Goals as goal

pub returns-then-branch : goal.returns-then-branch
returns-then-branch c = first_power c.args.first.now c.args.second.now c.kept.ensures c.kept-2.ensures c.args.root c.loop-k.k c.loop-k.invariant (c.in_ok-is_huge.ensures.0 c.if-branch.true)

pub returns : goal.returns
returns c =
    let t = c.loop-k-test.false in
    let a = c.loop-k.auto in
    let p = c.top.ensures.value in
    let q = c.top-2.ensures.value in
    small_all c.args.first.now c.args.second.now c.kept.ensures c.kept-2.ensures c.args.root c.loop-k.k (omega (arith, t, a, p, q)) c.loop-k.invariant
