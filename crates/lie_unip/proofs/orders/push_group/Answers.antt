use Rattle.std.proofs.Common.{ap, sym, ◌∙◌, false, true}
use Rattle.std.proofs.lemmas.List.{append-nil}
use Rattle.lie_unip.proofs.GroupLemmas.{group_push}
use Rattle.lie_unip.proofs.orders.push_group.Goals as goal
use Rattle.lie_unip.proofs.orders.push_group.Goals.{then-kept-k+in_ok-push, else-kept-k}

pub loop-k-preserved : goal.loop-k-preserved
loop-k-preserved c =
    let kept = c.args.kept.now in
    let k = c.loop-k.k in
    let base = c.args.roots.now.items in
    let old = c.loop-k.roots.items in
    elim c.if-kept-k.branch [
      | then-kept-k+in_ok-push w ↦ group_push c.args.first kept k base old c.if-kept-k.roots.items true c.loop-k-test.true w.if-kept-k.true c.loop-k.invariant (ap (λ v. v.items) w.roots-is ∙ w.in_ok-push.ensures.items)
      | else-kept-k w ↦ group_push c.args.first kept k base old c.if-kept-k.roots.items false c.loop-k-test.true w.if-kept-k.false c.loop-k.invariant (ap (λ v. v.items) w.roots-is ∙ sym (append-nil old))
    ]
