use Rattle.std.proofs.Common.{◌≡◌, [], get_or, sym, ◌∙◌, subst}
use Rattle.std.specs.Prelude.{IsTrue, ◌↔◌}
use Rattle.lie_letters.specs.PositiveTerms.{positive_terms}
use Rattle.lie_unip.specs.Splitting.{kept_at}
use Rattle.lie_unip.specs.Placing.{terms_between}
use Rattle.lie_unip.proofs.OrderedLemmas.{different_at}
use Rattle.lie_unip.proofs.collector.Collector.commute.Goals as goal

pub have_none-requires-clause-roots : goal.have_none-requires-clause-roots
have_none-requires-clause-roots g c = (c.root-r.ensures.low, c.root-r.ensures.high, (c.root-s.ensures.low, c.root-s.ensures.high, tt))

pub have_none-requires-clause-other : goal.have_none-requires-clause-other
have_none-requires-clause-other g c =
    λ e. different_at (kept_at c.args.self.now.kept.items) c.args.self.now.roots.items c.args.at c.args.k c.args.self.now.lawful.sorted c.requires.order c.requires.within
    (sym c.root-r.ensures.value ∙ e ∙ c.root-s.ensures.value)

pub returns : goal.returns
returns g c =
    let terms = positive_terms c.args.self.now.consts.now in
    let ks = c.args.self.now.roots.items in
    subst (λ r. IsTrue c.have_none.result ↔ (terms_between terms r (get_or ks c.args.k 0) ≡ [])) c.root-r.ensures.value
    (subst (λ s. IsTrue c.have_none.result ↔ (terms_between terms c.root-r.result s ≡ [])) c.root-s.ensures.value c.have_none.ensures)
