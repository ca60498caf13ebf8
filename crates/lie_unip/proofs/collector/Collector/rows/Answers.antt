use Rattle.std.proofs.Common.{length, ap, ◌∙◌, sym, subst, arith}
use Rattle.std.proofs.lemmas.List.{length_push}
use Rattle.lie_letters.specs.PositiveTerms.{positive_terms}
use Rattle.lie_unip.specs.Placing.{AreRows}
use Rattle.lie_unip.proofs.RowLemmas.{rows_more}
use Rattle.lie_unip.proofs.collector.Collector.rows.Goals as goal

pub loop-at-preserved : goal.loop-at-preserved
loop-at-preserved g c =
    let self = c.args.self.now in
    let terms = positive_terms self.consts.now in
    let rows = c.loop-at.rows.items in
    let at = c.loop-at.at in
    let count = c.loop-at.invariant.count in
    let long = length_push rows c.in_ok-row.row in
    let push = c.in_ok-push.ensures.items in
    record {
      count = ap length push ∙ omega (arith, long, count);
      rows = subst (AreRows terms self.roots.items) (sym push) (rows_more terms self.roots.items rows c.in_ok-row.row at count c.loop-at.invariant.rows c.in_ok-row.ensures);
    }
