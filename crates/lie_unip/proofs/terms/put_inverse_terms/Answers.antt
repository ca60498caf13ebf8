use Rattle.std.proofs.Common.{refl}
use Rattle.lie_unip.proofs.TermLemmas.{put_inverse_more}
use Rattle.lie_unip.proofs.terms.put_inverse_terms.Goals as goal

pub loop-k-preserved : goal.loop-k-preserved
loop-k-preserved g c =
    let R = g.R.Ring.ring c.args.ring.now in
    put_inverse_more R c.args.terms.now c.args.t.now (R.neg c.args.t.now) c.args.u.now c.loop-k.k c.index-terms-k.result c.number.result c.in_ok-value.value c.in_ok-inverse.inverse
    c.loop-k.todo.items _ c.push.new.self.items c.loop-k-test.true c.index-terms-k.is
    refl c.number.ensures c.in_ok-value.ensures.value c.in_ok-inverse.ensures.value c.loop-k.invariant c.in_ok-push.ensures.items
