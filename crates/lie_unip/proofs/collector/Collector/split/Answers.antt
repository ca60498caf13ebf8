use Rattle.std.proofs.Common.{◌≡◌, ◌++◌, not, length, replicate, rules, sym, ap, ◌∙◌, subst}
use Rattle.lie_letters.specs.RingLetters.{IsRingWord}
use Rattle.lie_letters.specs.PositiveTerms.{positive_terms}
use Rattle.lie_unip.specs.Collection.{IsCollected, elements}
use Rattle.lie_unip.specs.Splitting.{kept_at, kept_first, chosen}
use Rattle.lie_unip.specs.Placing.{letters_at}
use Rattle.lie_unip.proofs.WordLemmas.{word_lawful}
use Rattle.lie_unip.proofs.PartLemmas.{split_at}
use Rattle.lie_unip.proofs.collector.Collector.split.Goals as goal

pub collect-requires-clause-todo : goal.collect-requires-clause-todo
collect-requires-clause-todo g c =
    let self = c.args.self.now in
    let R = g.R.Ring.ring self.ring.now in
    let m = self.consts.now.positive in
    subst (IsRingWord R m) (sym c.in_ok-todo.ensures) (word_lawful R (g.met.R.Ring.is_ring self.ring.now) m c.args.entries.now c.requires.entries)

pub returns-clause-split : goal.returns-clause-split
returns-clause-split g c =
    let self = c.args.self.now in
    let R = g.R.Ring.ring self.ring.now in
    let t = self.consts.now in
    let m = t.positive in
    let kept = kept_at self.kept.items in
    let ks = self.roots.items in
    let start = c.in_ok-sorted.sorted.items in
    let last = c.collect.new.entries.items in
    let long : c.len.result ≡ length ks = search rules in
    let read : c.deref.result.now ≡ last = search rules in
    let read' : c.deref-2.result.now ≡ last = search rules in
    split_at R (g.met.R.Ring.is_ring self.ring.now) self.zero t self.kept.items ks self.places.items self.lawful start c.args.entries.now last c.in_ok-first.first.items c.in_ok-second.second.items
    (c.in_ok-sorted.ensures ∙ ap (λ n. replicate n R.zero) long) c.requires.entries
    (subst (λ w. IsCollected R (positive_terms t) (kept_first kept) m (letters_at ks start ++ w) (elements R m (letters_at ks last))) c.in_ok-todo.ensures c.in_ok-collect.ensures.collected)
    (c.in_ok-first.ensures.chosen ∙ ap (λ l. chosen kept R.zero 1 (elements R m (letters_at ks l))) read)
    (c.in_ok-second.ensures.chosen ∙ ap (λ l. chosen (λ r. not (kept r)) R.zero 1 (elements R m (letters_at ks l))) read')
