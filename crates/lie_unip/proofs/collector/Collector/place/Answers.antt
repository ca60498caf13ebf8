use Rattle.std.proofs.Common.{ap, ◌≡◌, ◌-◌, ◌+◌, ◌∙◌, ◌<◌, sym, subst, get_or, length, arith}
use Rattle.std.proofs.lemmas.List.{get_or_read}
use Rattle.lie_letters.specs.PositiveTerms.{positive_terms}
use Rattle.lie_unip.specs.Splitting.{kept_at}
use Rattle.lie_unip.specs.Placing.{IdleBetween, AreLifted}
use Rattle.lie_unip.proofs.PlacingLemmas.{placed, placed_zero, zeros_behind}
use Rattle.lie_unip.proofs.collector.Collector.place.Goals as goal

pub returns-then-same-clause-placed : goal.returns-then-same-clause-placed
returns-then-same-clause-placed g c =
    let self = c.args.self.now in
    let lawful = c.args.self.now.lawful in
    placed_zero (g.R.Ring.ring self.ring.now) (g.met.R.Ring.is_ring self.ring.now) self.consts.now.positive (positive_terms self.consts.now) lawful.collectable (kept_at self.kept.items) lawful.apart
    self.roots.items lawful.sorted lawful.within c.args.root 0 c.args.a.now c.args.entries.now.items c.args.todo.now.items c.requires.todo.1.0 c.requires.todo.1.1
    (c.same.ensures.0 c.if-same.true ∙ lawful.zero_is) c.requires.word.entries (c.requires.todo.0.1, c.requires.todo.1.2)

pub returns-clause-placed : goal.returns-clause-placed
returns-clause-placed g c =
    let self = c.args.self.now in
    let R = g.R.Ring.ring self.ring.now in
    let m = self.consts.now.positive in
    let terms = positive_terms self.consts.now in
    let ks = self.roots.items in
    let kept = kept_at self.kept.items in
    let lawful = c.args.self.now.lawful in
    let r = c.args.root in
    let p = c.index-at.result.now in
    let low = c.requires.todo.1.0 in
    let high = c.requires.todo.1.1 in
    let count = lawful.count in
    let behind : r - 1 < length self.places.items = omega (arith, low, high, count) in
    let place : p ≡ get_or self.places.items (r - 1) 0 = get_or_read self.places.items (r - 1) _ behind c.index-at.ensures 0 in
    let known = lawful.placed r low high in
    let within : p < length ks = subst (λ n. n < length ks) (sym place) known.0 in
    let root : get_or ks p 0 ≡ r = ap (λ n. get_or ks n 0) place ∙ known.1 in
    let f = c.first_met-first.result in
    let before = c.args.entries.now.items in
    let after = c.lift.new.entries.items in
    let lifted : AreLifted R terms m kept ks r c.args.a.now f before after c.args.todo.now.items c.lift.new.todo.items =
    subst (λ q. AreLifted R terms m kept ks q c.args.a.now f before after c.args.todo.now.items c.lift.new.todo.items) root c.in_ok-lift.ensures in
    let met : IdleBetween R terms r ks (p + 1) f before =
    subst (λ q. IdleBetween R terms q ks (p + 1) f before) root (subst (λ l. IdleBetween R terms (get_or ks p 0) ks (p + 1) f l) c.deref.ensures.value c.first_met-first.ensures.idle) in
    let long = lifted.entries.count in
    let inside : p < length after = omega (arith, within, long) in
    let b : c.index.result.now ≡ get_or after p R.zero = get_or_read after p _ inside c.index.ensures R.zero in
    placed R (g.met.R.Ring.is_ring self.ring.now) m terms lawful.collectable kept lawful.apart ks lawful.sorted lawful.within r p f c.args.a.now c.index.result.now c.in_ok-sum.sum
    before after c.args.todo.now.items c.lift.new.todo.items (sym root) within c.first_met-first.ensures.after c.first_met-first.ensures.bound met lifted c.requires.todo.0.0 b
    c.in_ok-sum.ensures.value c.in_ok-sum.ensures.fits

pub returns-clause-word : goal.returns-clause-word
returns-clause-word g c = record {
  entries = (returns-clause-placed g c).entries;
  within = c.first_met-first.ensures.bound;
  zeros = zeros_behind (g.R.Ring.ring c.args.self.now.ring.now) c.lift.new.entries.items c.index-at.result.now c.first_met-first.result c.in_ok-sum.sum c.first_met-first.ensures.after c.in_ok-lift.ensures.after;
}
