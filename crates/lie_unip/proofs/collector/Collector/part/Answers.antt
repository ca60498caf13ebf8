use Rattle.std.proofs.Common.{length, ap, sym, ◌∙◌, subst, arith}
use Rattle.std.proofs.lemmas.List.Elements.{All-push}
use Rattle.std.specs.List.{All}
use Rattle.lie_ring.specs.Rings.{Fits}
use Rattle.lie_unip.proofs.PartLemmas.{part_more, part_all, length-part}
use Rattle.lie_unip.proofs.collector.Collector.part.Goals as goal

pub loop-k-preserved : goal.loop-k-preserved
loop-k-preserved g c =
    let self = c.args.self.now in
    let R = g.R.Ring.ring self.ring.now in
    let long = c.len-k-end.ensures in
    let test = c.loop-k-test.true in
    let count = c.requires.count in
    record {
      fit = subst (All (Fits R)) (sym c.in_ok-push.ensures.items) (All-push (Fits R) c.loop-k.part.items c.in_ok-element.element c.loop-k.invariant.fit c.in_ok-element.ensures.fits);
      chosen = part_more R self.zero self.consts.now self.kept.items self.roots.items self.places.items c.args.self.now.lawful c.args.entries.now c.requires.entries c.args.first c.loop-k.k c.in_ok-element.element
          c.loop-k.part.items c.push.new.self.items (omega (arith, long, test, count)) c.in_ok-element.ensures.value c.loop-k.invariant.chosen c.in_ok-push.ensures.items;
    }

pub returns-clause-chosen : goal.returns-clause-chosen
returns-clause-chosen g c =
    let self = c.args.self.now in
    let R = g.R.Ring.ring self.ring.now in
    let long = c.len-k-end.ensures in
    let test = c.loop-k-test.false in
    let count = c.requires.count in
    part_all R self.zero self.consts.now self.kept.items self.roots.items self.places.items c.args.self.now.lawful c.args.entries.now c.requires.entries c.args.first c.loop-k.k c.loop-k.part.items
    (omega (arith, long, test, count)) c.loop-k.invariant.chosen

pub returns-clause-entries : goal.returns-clause-entries
returns-clause-entries g c =
    let self = c.args.self.now in
    let R = g.R.Ring.ring self.ring.now in
    let long = c.len-k-end.ensures in
    let test = c.loop-k-test.false in
    let count = c.requires.count in
    let all = part_all R self.zero self.consts.now self.kept.items self.roots.items self.places.items c.args.self.now.lawful c.args.entries.now c.requires.entries c.args.first c.loop-k.k c.loop-k.part.items
    (omega (arith, long, test, count)) c.loop-k.invariant.chosen in
    record {
      count = ap length all ∙ length-part R self.zero self.consts.now self.kept.items self.roots.items self.places.items c.args.self.now.lawful c.args.entries.now c.requires.entries c.args.first;
      fit = c.loop-k.invariant.fit;
    }
