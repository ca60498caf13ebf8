use Rattle.std.proofs.Common.{◌-◌, get_or, ◌∙◌, arith}
use Rattle.std.proofs.lemmas.List.{length-set}
use Rattle.lie_unip.proofs.OrderedLemmas.{roots_at}
use Rattle.lie_unip.proofs.GroupLemmas.{places_more}
use Rattle.lie_unip.proofs.orders.places_of.Goals as goal

pub overflow_sub-roots : goal.overflow_sub-roots
overflow_sub-roots c = (roots_at c.args.m c.args.roots.now c.loop-p.p c.requires.within c.loop-p-test.true).0

pub index_mut-requires : goal.index_mut-requires
index_mut-requires c =
    let b = roots_at c.args.m c.args.roots.now c.loop-p.p c.requires.within c.loop-p-test.true in
    let low = b.0 in
    let high = b.1 in
    let count = c.loop-p.invariant.count in
    omega (arith, low, high, count)

pub loop-p-preserved : goal.loop-p-preserved
loop-p-preserved c =
    let p = c.loop-p.p in
    record {
      count = length-set c.loop-p.places.items (get_or c.args.roots.now p 0 - 1) p ∙ c.loop-p.invariant.count;
      placed = places_more c.args.roots.now c.loop-p.places.items c.args.m p c.requires.within c.requires.different c.loop-p-test.true c.loop-p.invariant.count c.loop-p.invariant.placed;
    }
