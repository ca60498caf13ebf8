use Rattle.std.proofs.Common.{◌≤◌, ◌-◌, length, refl, arith}
use Rattle.lie_unip.proofs.TermLemmas.{put_more}
use Rattle.lie_unip.proofs.terms.put_terms.Goals as goal

pub loop-k-preserved : goal.loop-k-preserved
loop-k-preserved g c =
    let R = g.R.Ring.ring c.args.ring.now in
    let k = c.loop-k.k in
    let within : k ≤ length c.args.terms.now = c.loop-k.auto.k in
    let above = c.loop-k-test.true in
    put_more R c.args.terms.now c.args.t.now (R.neg c.args.t.now) c.args.u.now k (k - 1) c.index-terms-k.result c.number.result c.in_ok-value.value
    c.loop-k.todo.items _ c.push.new.self.items (omega (arith, above)) (omega (arith, above, within)) c.index-terms-k.is
    refl c.number.ensures c.in_ok-value.ensures.value c.loop-k.invariant c.in_ok-push.ensures.items
