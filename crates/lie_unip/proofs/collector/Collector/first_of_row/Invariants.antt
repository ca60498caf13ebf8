use Rattle.std.proofs.Common.{◌+◌, length, get_or}
use Rattle.lie_letters.specs.PositiveTerms.{positive_terms}
use Rattle.lie_unip.proofs.RowLemmas.{IsWalked}
use Rattle.lie_unip.proofs.collector.Collector.first_of_row.Given as goal

abbrev pub invariant-loop-i : goal.invariant-loop-i
invariant-loop-i g l =
    let ks = l.self.roots.items in
    IsWalked (positive_terms l.self.consts.now) (get_or ks l.at 0) ks (g.R.Ring.ring l.self.ring.now) l.entries l.row (l.at + 1) (length ks) l.i
