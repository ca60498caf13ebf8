use Rattle.std.proofs.Common.{◌≡◌, ◌+◌, ◌<◌, length, get_or, sym, ◌∙◌, arith}
use Rattle.std.proofs.lemmas.List.{get_or_read}
use Rattle.lie_letters.specs.PositiveTerms.{positive_terms}
use Rattle.lie_unip.proofs.RowLemmas.{walked_none, walked_on, walked_idle, walked_all, idle_fewer}
use Rattle.lie_unip.proofs.collector.Collector.first_of_row.Goals as goal

pub loop-i-init : goal.loop-i-init
loop-i-init g c =
    let ks = c.args.self.now.roots.items in
    walked_none (positive_terms c.args.self.now.consts.now) (get_or ks c.args.at 0) ks (g.R.Ring.ring c.args.self.now.ring.now) c.args.entries.now c.args.row.now (c.args.at + 1) (length ks) c.requires.row

pub loop-i-preserved : goal.loop-i-preserved
loop-i-preserved g c =
    let self = c.args.self.now in
    let R = g.R.Ring.ring self.ring.now in
    let ks = self.roots.items in
    let entries = c.args.entries.now in
    let q = get_or c.args.row.now c.loop-i.i 0 in
    let near = c.if-k-end.false in
    let within = c.requires.word.within in
    let count = c.requires.word.entries.count in
    let inside : q < length entries = omega (arith, near, within, count) in
    let read : c.index-entries-k.result ≡ get_or entries q R.zero = get_or_read entries q _ inside c.index-entries-k.is R.zero in
    walked_on (positive_terms self.consts.now) (get_or ks c.args.at 0) ks R entries c.args.row.now (c.args.at + 1) (length ks) c.loop-i.i c.loop-i-test.true
    (sym read ∙ c.same.ensures.0 c.if-not-same.false ∙ c.args.self.now.lawful.zero_is) c.loop-i.invariant

pub returns-clause-idle : goal.returns-clause-idle
returns-clause-idle g c =
    let self = c.args.self.now in
    let R = g.R.Ring.ring self.ring.now in
    let ks = self.roots.items in
    let terms = positive_terms self.consts.now in
    let r = get_or ks c.args.at 0 in
    let over = c.loop-i-test.false in
    idle_fewer R terms r ks (c.args.at + 1) (length ks) c.args.end c.args.entries.now c.requires.word.within
    (walked_all terms r ks R c.args.entries.now c.args.row.now (c.args.at + 1) (length ks) c.loop-i.i (omega (arith, over)) c.loop-i.invariant)

pub returns-then-k-end-clause-idle : goal.returns-then-k-end-clause-idle
returns-then-k-end-clause-idle g c =
    let self = c.args.self.now in
    let R = g.R.Ring.ring self.ring.now in
    let ks = self.roots.items in
    let terms = positive_terms self.consts.now in
    let r = get_or ks c.args.at 0 in
    let row = c.args.row.now in
    let over = c.if-k-end.true in
    idle_fewer R terms r ks (c.args.at + 1) (get_or row c.loop-i.i 0) c.args.end c.args.entries.now (omega (arith, over))
    (walked_idle terms r ks R c.args.entries.now row (c.args.at + 1) (length ks) c.loop-i.i c.loop-i-test.true c.loop-i.invariant)
