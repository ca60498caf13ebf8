use Rattle.std.proofs.Common.{◌≡◌, ◌≤◌, get_or, sym, subst}
use Rattle.std.proofs.lemmas.List.{get_or_read}
use Rattle.lie_unip.proofs.OrderedLemmas.{roots_at}
use Rattle.lie_unip.proofs.collector.Collector.root.Goals as goal

pub returns-clause-low : goal.returns-clause-low
returns-clause-low g c =
    let ks = c.args.self.now.roots.items in
    let read : c.index.result.now ≡ get_or ks c.args.at 0 = get_or_read ks c.args.at _ c.requires.at c.index.ensures 0 in
    subst (λ k. 1 ≤ k) (sym read) (roots_at c.args.self.now.consts.now.positive ks c.args.at c.args.self.now.lawful.within c.requires.at).0

pub returns-clause-high : goal.returns-clause-high
returns-clause-high g c =
    let ks = c.args.self.now.roots.items in
    let m = c.args.self.now.consts.now.positive in
    let read : c.index.result.now ≡ get_or ks c.args.at 0 = get_or_read ks c.args.at _ c.requires.at c.index.ensures 0 in
    subst (λ k. k ≤ m) (sym read) (roots_at m ks c.args.at c.args.self.now.lawful.within c.requires.at).1
