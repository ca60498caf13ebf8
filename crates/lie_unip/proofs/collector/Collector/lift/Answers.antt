use Rattle.std.proofs.Common.{◌≡◌, ◌≤◌, ◌+◌, ◌-◌, length, get_or, subst, arith}
use Rattle.lie_ring.specs.Rings.{Fits}
use Rattle.lie_letters.specs.PositiveTerms.{positive_terms}
use Rattle.lie_unip.specs.Splitting.{kept_at}
use Rattle.lie_unip.specs.Placing.{ZeroFrom}
use Rattle.lie_unip.proofs.PlacingLemmas.{lifted_none, lifted_more}
use Rattle.lie_unip.proofs.collector.Collector.lift.Goals as goal

pub loop-place-preserved : goal.loop-place-preserved
loop-place-preserved g c =
    let self = c.args.self.now in
    let R = g.R.Ring.ring self.ring.now in
    let ks = self.roots.items in
    let lawful = c.args.self.now.lawful in
    let k = c.loop-place.place in
    let above = c.loop-place-test.true in
    let within : k ≤ length ks = c.loop-place.invariant.within in
    record {
      from = omega (arith, above);
      within = omega (arith, within);
      lifted = lifted_more R (g.met.R.Ring.is_ring self.ring.now) self.consts.now.positive (positive_terms self.consts.now) lawful.collectable (kept_at self.kept.items) lawful.apart
          ks lawful.sorted lawful.within (get_or ks c.args.at 0) (k - 1) k c.args.a.now c.args.entries.now.items c.loop-place.entries.items c.lift_one.new.entries.items
          c.args.todo.now.items c.loop-place.todo.items c.lift_one.new.todo.items
          (subst (Fits R) lawful.zero_is lawful.zero_fits) (omega (arith, above)) (omega (arith, above, within)) c.loop-place.invariant.lifted c.in_ok-lift_one.ensures;
    }

pub loop-place-init : goal.loop-place-init
loop-place-init g c =
    let self = c.args.self.now in
    let R = g.R.Ring.ring self.ring.now in
    record {
      from = c.requires.later.1;
      within = c.requires.word.within;
      lifted = lifted_none R self.consts.now.positive (positive_terms self.consts.now) (kept_at self.kept.items) self.roots.items (get_or self.roots.items c.args.at 0) c.args.end c.args.a.now
          c.args.entries.now.items c.args.todo.now.items c.requires.word.entries c.requires.word.zeros (c.requires.todo.0.1, c.requires.todo.1.2);
    }

pub lift_one-requires-clause-word : goal.lift_one-requires-clause-word
lift_one-requires-clause-word g c =
    let R = g.R.Ring.ring c.args.self.now.ring.now in
    let k = c.loop-place.place in
    let above = c.loop-place-test.true in
    let same : k ≡ k - 1 + 1 = omega (arith, above) in
    let lifted = c.loop-place.invariant.lifted in
    record {
      entries = lifted.entries;
      within = subst (λ n. n ≤ length c.args.self.now.roots.items) same c.loop-place.invariant.within;
      zeros = subst (λ n. ZeroFrom R n c.loop-place.entries.items) same lifted.after;
    }

pub lift_one-requires-clause-todo : goal.lift_one-requires-clause-todo
lift_one-requires-clause-todo g c =
    let rest = c.loop-place.invariant.lifted.lawful in
    let letter = c.requires.todo in
    ((letter.0.0, rest.0), (letter.1.0, letter.1.1, rest.1))
