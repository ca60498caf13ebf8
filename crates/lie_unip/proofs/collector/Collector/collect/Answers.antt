use Rattle.std.proofs.Common.{◌≡◌, [], ◌++◌, reverse, rules, subst, sym, ap, ◌∙◌}
use Rattle.std.proofs.lemmas.List.{append-nil}
use Rattle.lie_letters.specs.RingLetters.{RingLetter, IsRingWord}
use Rattle.lie_unip.specs.Collection.{IsCollected, elements}
use Rattle.lie_letters.specs.PositiveTerms.{positive_terms}
use Rattle.lie_unip.specs.Splitting.{kept_at, kept_first}
use Rattle.lie_unip.specs.Placing.{letters_at}
use Rattle.lie_unip.proofs.SplitLemmas.{kept_first_order}
use Rattle.lie_unip.proofs.OrderedLemmas.{letters_sorted}
use Rattle.lie_unip.proofs.PlacingLemmas.{leads_on, reverse_push}
use Rattle.lie_unip.proofs.MoveLemmas.{collected_sorted}
use Rattle.lie_unip.proofs.collector.Collector.collect.Goals as goal

pub loop-root-preserved : goal.loop-root-preserved
loop-root-preserved g c =
    let self = c.args.self.now in
    let R = g.R.Ring.ring self.ring.now in
    let m = self.consts.now.positive in
    let terms = positive_terms self.consts.now in
    let kept = kept_at self.kept.items in
    let placed = c.in_ok-end.ensures.placed in
    let ks = self.roots.items in
    let x : RingLetter g.row.R-Elem.Denot = (c.in-Some.root, c.in-Some.a) in
    record {
      word = c.in_ok-end.ensures.word;
      lawful = placed.lawful;
      leads = leads_on R terms (kept_first kept) m (letters_at ks c.args.entries.now.items ++ reverse c.args.todo.items) (letters_at ks c.loop-root.entries.items) (letters_at ks c.place.new.entries.items)
          c.pop.new.self.items c.place.new.todo.items c.loop-root.todo.items x c.in-Some.ensures.items c.loop-root.invariant.leads placed.leads;
    }

pub place-requires-clause-todo : goal.place-requires-clause-todo
place-requires-clause-todo g c =
    let self = c.args.self.now in
    subst (IsRingWord (g.R.Ring.ring self.ring.now) self.consts.now.positive)
    (ap reverse c.in-Some.ensures.items ∙ reverse_push c.pop.new.self.items (c.in-Some.root, c.in-Some.a)) c.loop-root.invariant.lawful

pub returns-clause-collected : goal.returns-clause-collected
returns-clause-collected g c =
    let self = c.args.self.now in
    let R = g.R.Ring.ring self.ring.now in
    let m = self.consts.now.positive in
    let terms = positive_terms self.consts.now in
    let kept = kept_at self.kept.items in
    let lawful = c.args.self.now.lawful in
    let last = letters_at self.roots.items c.loop-root.entries.items in
    let empty : c.loop-root.todo.items ≡ [] = search rules in
    let word : last ++ reverse c.loop-root.todo.items ≡ last = ap (λ w. last ++ reverse w) empty ∙ append-nil last in
    c.loop-root.invariant.leads (elements R m last) (subst (λ w. IsCollected R terms (kept_first kept) m w (elements R m last)) (sym word)
    (collected_sorted R (g.met.R.Ring.is_ring self.ring.now) m terms lawful.collectable (kept_first kept) (kept_first_order kept) last (letters_sorted (kept_first kept) self.roots.items c.loop-root.entries.items lawful.sorted)))
