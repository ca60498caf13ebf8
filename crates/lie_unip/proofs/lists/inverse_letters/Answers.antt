use Rattle.std.proofs.Common.{◌+◌, ◌∷◌, ◌++◌, [], ◌∙◌, ap}
use Rattle.std.proofs.lemmas.List.{get_or_read}
use Rattle.lie_unip.proofs.WordLemmas.{inverse_more}
use Rattle.lie_unip.proofs.lists.inverse_letters.Goals as goal

pub loop-k-preserved : goal.loop-k-preserved
loop-k-preserved g c =
    let R = g.R.Ring.ring c.args.ring.now in
    let k = c.loop-k.k in
    inverse_more R c.args.entries.now k c.index-entries-k.result c.loop-k.todo.items c.push.new.self.items
    c.loop-k-test.true (get_or_read c.args.entries.now k _ c.loop-k-test.true c.index-entries-k.is R.zero) c.loop-k.invariant
    (c.in_ok-push.ensures.items ∙ ap (λ a. c.loop-k.todo.items ++ (k + 1, a) ∷ []) c.in_ok-minus.ensures.value)
