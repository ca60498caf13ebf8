use Rattle.std.proofs.Common.{◌≡◌, ◌++◌, length, replicate, rules, ap, sym, ◌∙◌, subst}
use Rattle.std.specs.Prelude.{nat_lt}
use Rattle.lie_ring.specs.HomLemmas.{roomy-fits}
use Rattle.lie_letters.specs.RingLetters.{full_word, inverse_word, IsRingWord}
use Rattle.lie_letters.specs.PositiveTerms.{positive_terms}
use Rattle.lie_unip.specs.Collection.{AreEntries, IsCollected}
use Rattle.lie_unip.proofs.DatumLemmas.{datum_collectable}
use Rattle.lie_unip.proofs.WordLemmas.{inverse_lawful, zero_entries, answered_from_zeros}
use Rattle.lie_unip.proofs.unip.Unip.inv.Goals as goal

pub collect_in_order-requires-clause-entries : goal.collect_in_order-requires-clause-entries
collect_in_order-requires-clause-entries g c =
    let R = g.R.Ring.ring c.args.ring.now in
    let ring = g.met.R.Ring.is_ring c.args.ring.now in
    let m = length c.args.datum.now.positive in
    let zeros : c.in_ok-entries.entries.items ≡ replicate m R.zero = c.in_ok-entries.ensures ∙ ap (λ n. replicate n R.zero) c.m.ensures.value in
    subst (AreEntries R m) (sym zeros) (zero_entries R (roomy-fits R ring c.requires.roomy R.zero ring.laws.zero_elem) m)

pub collect_in_order-requires-clause-todo : goal.collect_in_order-requires-clause-todo
collect_in_order-requires-clause-todo g c =
    let R = g.R.Ring.ring c.args.ring.now in
    let m = length c.args.datum.now.positive in
    let same : c.deref.result.now ≡ c.args.self.now = search rules in
    subst (IsRingWord R m) (sym (c.in_ok-todo.ensures ∙ ap (λ u. inverse_word R (full_word u)) same)) (inverse_lawful R (g.met.R.Ring.is_ring c.args.ring.now) m c.args.self.now c.requires.entries)

pub returns-clause-collected : goal.returns-clause-collected
returns-clause-collected g c =
    let R = g.R.Ring.ring c.args.ring.now in
    let ring = g.met.R.Ring.is_ring c.args.ring.now in
    let m = length c.args.datum.now.positive in
    let t = c.args.consts.now in
    let start = c.in_ok-entries.entries.items in
    let same : c.deref.result.now ≡ c.args.self.now = search rules in
    let word = c.in_ok-todo.ensures ∙ ap (λ u. inverse_word R (full_word u)) same in
    let zeros : start ≡ replicate m R.zero = c.in_ok-entries.ensures ∙ ap (λ n. replicate n R.zero) c.m.ensures.value in
    let collectable = datum_collectable c.args.datum.now c.loaded.ensures t c.requires.constants in
    answered_from_zeros R ring m (positive_terms t) collectable start c.in_ok-entries-2.entries.items (inverse_word R (full_word c.args.self.now)) zeros
    (inverse_lawful R ring m c.args.self.now c.requires.entries)
    (subst (λ w. IsCollected R (positive_terms t) nat_lt m (full_word start ++ w) c.in_ok-entries-2.entries.items) word c.in_ok-entries-2.ensures.collected)
