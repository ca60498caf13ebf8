use Rattle.std.proofs.Common.{◌≡◌, length, rules, ap, sym, ◌∙◌, subst}
use Rattle.lie_letters.specs.RingLetters.{full_word, IsRingWord}
use Rattle.lie_unip.proofs.WordLemmas.{word_lawful}
use Rattle.lie_unip.proofs.unip.Unip.mul.Goals as goal

pub collect_in_order-requires-clause-todo : goal.collect_in_order-requires-clause-todo
collect_in_order-requires-clause-todo g c =
    let R = g.R.Ring.ring c.args.ring.now in
    let m = length c.args.datum.now.positive in
    let same : c.deref-2.result.now ≡ c.args.b.now = search rules in
    subst (IsRingWord R m) (sym (c.in_ok-todo.ensures ∙ ap full_word same)) (word_lawful R (g.met.R.Ring.is_ring c.args.ring.now) m c.args.b.now c.requires.b)
