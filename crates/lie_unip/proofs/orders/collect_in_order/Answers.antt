use Rattle.std.proofs.Common.{length, reverse, ap}
use Rattle.lie_unip.proofs.DatumLemmas.{table_collectable}
use Rattle.lie_unip.proofs.WordLemmas.{handed_entries, handed_word, answered_entries, answered_list}
use Rattle.lie_unip.proofs.orders.collect_in_order.Goals as goal

pub collect-requires-clause-entries : goal.collect-requires-clause-entries
collect-requires-clause-entries g c =
    let col = c.in_ok-collector.collector in
    handed_entries (g.R.Ring.ring c.args.ring.now) (g.R.Ring.ring col.ring.now) (ap g.R.Ring.ring c.in_ok-collector.ensures.ring) (length c.args.datum.now.positive) col.roots.items c.in_ok-collector.ensures.roots
    c.args.entries.items c.requires.entries

pub collect-requires-clause-todo : goal.collect-requires-clause-todo
collect-requires-clause-todo g c =
    let col = c.in_ok-collector.collector in
    handed_word (g.R.Ring.ring c.args.ring.now) (g.R.Ring.ring col.ring.now) (ap g.R.Ring.ring c.in_ok-collector.ensures.ring) (length c.args.datum.now.positive) col.roots.items c.in_ok-collector.ensures.roots
    c.args.consts.now col.consts.now (reverse c.args.todo.items) c.in_ok-collector.ensures.consts c.requires.constants.0 c.requires.todo

pub returns-clause-entries : goal.returns-clause-entries
returns-clause-entries g c =
    let col = c.in_ok-collector.collector in
    answered_entries (g.R.Ring.ring c.args.ring.now) (g.R.Ring.ring col.ring.now) (ap g.R.Ring.ring c.in_ok-collector.ensures.ring) (length c.args.datum.now.positive) col.roots.items c.in_ok-collector.ensures.roots
    c.collect.new.entries.items c.in_ok-collect.ensures.entries

pub returns-clause-collected : goal.returns-clause-collected
returns-clause-collected g c =
    let col = c.in_ok-collector.collector in
    let R = g.R.Ring.ring c.args.ring.now in
    let m = length c.args.datum.now.positive in
    let t = c.args.consts.now in
    let same = ap g.R.Ring.ring c.in_ok-collector.ensures.ring in
    let e = answered_entries R (g.R.Ring.ring col.ring.now) same m col.roots.items c.in_ok-collector.ensures.roots c.collect.new.entries.items c.in_ok-collect.ensures.entries in
    answered_list R (g.R.Ring.ring col.ring.now) same m col.roots.items c.in_ok-collector.ensures.roots (g.met.R.Ring.is_ring c.args.ring.now) t col.consts.now col.kept.items
    c.args.entries.items c.collect.new.entries.items (reverse c.args.todo.items) (table_collectable c.args.datum.now c.loaded.ensures t c.requires.constants)
    c.in_ok-collector.ensures.consts c.requires.constants.0 c.in_ok-collector.ensures.kept c.requires.entries.count e.count c.in_ok-collect.ensures.collected
