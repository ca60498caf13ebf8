use Rattle.std.proofs.Common.{◌+◌, get_or, sym, subst, arith}
use Rattle.lie_letters.specs.PositiveTerms.{positive_terms}
use Rattle.lie_unip.specs.Placing.{IsRow}
use Rattle.lie_unip.proofs.RowLemmas.{row_with, row_without}
use Rattle.lie_unip.proofs.collector.Collector.push_met.Goals as goal

pub returns-then-commute : goal.returns-then-commute
returns-then-commute g c = λ row.
    let ks = c.args.self.now.roots.items in
    let terms = positive_terms c.args.self.now.consts.now in
    row_without terms (get_or ks c.args.at 0) ks (c.args.at + 1) c.args.k c.args.places.now.items row
    (c.commute.ensures.0 c.if-commute.true)

pub returns : goal.returns
returns g c = λ row.
    let ks = c.args.self.now.roots.items in
    let terms = positive_terms c.args.self.now.consts.now in
    let later = c.requires.at in
    subst (IsRow terms (get_or ks c.args.at 0) ks (c.args.at + 1) (c.args.k + 1)) (sym c.in_ok-push.ensures.items)
    (row_with terms (get_or ks c.args.at 0) ks (c.args.at + 1) c.args.k c.args.places.now.items (omega (arith, later)) row)
