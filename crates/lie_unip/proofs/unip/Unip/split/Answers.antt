use Rattle.std.proofs.Common.{◌≡◌, length, rules, sym, ap, ◌∙◌, subst}
use Rattle.lie_letters.specs.PositiveTerms.{positive_terms}
use Rattle.lie_unip.specs.Collection.{AreEntries}
use Rattle.lie_unip.specs.Splitting.{IsSplit, kept_at, kept_by}
use Rattle.lie_unip.proofs.PartLemmas.{split_renamed}
use Rattle.lie_unip.proofs.unip.Unip.split.Goals as goal

pub split-requires-clause-entries : goal.split-requires-clause-entries
split-requires-clause-entries g c =
    let col = c.in_ok-collector.collector in
    let S = g.R.Ring.ring col.ring.now in
    let m = length c.args.datum.now.positive in
    let same : c.deref.result.now ≡ c.args.self.now = search rules in
    let count = ap (λ x. x.positive) c.in_ok-collector.ensures.consts ∙ c.requires.constants.0 in
    subst (AreEntries S col.consts.now.positive) (sym same)
    (subst (λ n. AreEntries S n c.args.self.now) (sym count) (subst (λ Q. AreEntries Q m c.args.self.now) (sym (ap g.R.Ring.ring c.in_ok-collector.ensures.ring)) c.requires.entries))

pub returns-clause-split : goal.returns-clause-split
returns-clause-split g c = λ word s.
    let col = c.in_ok-collector.collector in
    let S = g.R.Ring.ring col.ring.now in
    let m = length c.args.datum.now.positive in
    let same : c.deref.result.now ≡ c.args.self.now = search rules in
    let parts = c.in_ok-parts.parts in
    split_renamed (g.R.Ring.ring c.args.ring.now) S c.args.consts.now col.consts.now m col.kept.items (kept_by c.args.datum.now word) c.args.self.now parts.0.items parts.1.items
    (ap g.R.Ring.ring c.in_ok-collector.ensures.ring) c.in_ok-collector.ensures.consts c.requires.constants.0 (c.in_ok-collector.ensures.kept word s)
    (subst (λ u. IsSplit S (positive_terms col.consts.now) col.consts.now.positive (kept_at col.kept.items) u parts.0.items parts.1.items) same c.in_ok-parts.ensures.split)
