use Rattle.std.proofs.Common.{◌≡◌, ◌+◌, ◌<◌, length, inl, inr, get_or, sym, ◌∙◌, arith}
use Rattle.std.proofs.lemmas.List.{get_or_read}
use Rattle.lie_letters.specs.PositiveTerms.{positive_terms}
use Rattle.lie_unip.proofs.PlacingLemmas.{idle_more}
use Rattle.lie_unip.proofs.collector.Collector.first_behind.Goals as goal
use Rattle.lie_unip.proofs.collector.Collector.first_behind.Goals.{else-not-same-via-then-not-same+else-not-commute, else-not-same-via-else-not-same}

pub loop-k-preserved : goal.loop-k-preserved
loop-k-preserved g c =
    let self = c.args.self.now in
    let R = g.R.Ring.ring self.ring.now in
    let ks = self.roots.items in
    let k = c.loop-k.k in
    let entries = c.args.entries.now in
    let r = get_or ks c.args.at 0 in
    let terms = positive_terms self.consts.now in
    let test = c.loop-k-test.true in
    let within = c.requires.word.within in
    let count = c.requires.word.entries.count in
    let inside : k < length entries = omega (arith, test, within, count) in
    let read : c.index-entries-k.result ≡ get_or entries k R.zero = get_or_read entries k _ inside c.index-entries-k.is R.zero in
    idle_more R terms r ks (c.args.at + 1) k entries c.loop-k.invariant
    (elim c.else-not-same.branch [
      | else-not-same-via-then-not-same+else-not-commute w ↦ inr (w.commute.ensures.0 w.if-not-commute.false)
      | else-not-same-via-else-not-same w ↦ inl (sym read ∙ c.same.ensures.0 w.if-not-same.false ∙ c.args.self.now.lawful.zero_is)
    ])
