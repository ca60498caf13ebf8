use Rattle.std.proofs.Common.{◌≡◌, ◌-◌, ◌<◌, ◌≤◌, length, get_or, sym, ◌∙◌, arith}
use Rattle.std.proofs.lemmas.List.{get_or_read}
use Rattle.lie_unip.proofs.PlacingLemmas.{zeros_more}
use Rattle.lie_unip.proofs.collector.Collector.end_of.Goals as goal

pub loop-k-preserved : goal.loop-k-preserved
loop-k-preserved g c =
    let R = g.R.Ring.ring c.args.self.now.ring.now in
    let entries = c.args.entries.now in
    let k = c.loop-k.k in
    let above = c.loop-k-test.true in
    let high : k ≤ length entries = c.loop-k.auto.k in
    let inside : k - 1 < length entries = omega (arith, above, high) in
    let read : c.index-entries-k.result ≡ get_or entries (k - 1) R.zero = get_or_read entries (k - 1) _ inside c.index-entries-k.is R.zero in
    zeros_more R entries k (k - 1) (omega (arith, above)) (sym read ∙ c.same.ensures.0 c.if-not-same.false ∙ c.args.self.now.lawful.zero_is) c.loop-k.invariant
