use Rattle.std.proofs.Common.{◌≡◌, ℕ, ◌+◌, ◌<◌, ◌∷◌, [], map, length, take, get_or, ap, sym, subst, ◌∙◌}
use Rattle.lie_datum.specs.Numbers.{number_at}
use Rattle.lie_letters.specs.declared.letter.Letter.TheVariants.{H, N}
use Rattle.lie_letters.specs.SignedFrames.{SignedFrame}
use Rattle.lie_bruhat.proofs.ListLemmas.{AreMoved, moved_none, moved_zero, moved_letter, moved_over, place_number, read_within}
use Rattle.lie_bruhat.proofs.product.moved_letters.Goals as goal
use Rattle.lie_bruhat.proofs.product.moved_letters.Goals.{then-number-ne0+in_ok-push, else-number-ne0}

pub loop-k-init : goal.loop-k-init
loop-k-init c =
    let f = c.args.frame.now in
    let z = H c.args.h.now ∷ map N c.args.word.now in
    subst (λ v. AreMoved f z [] v) (sym c.new-letters.ensures.items)
    (moved_none f c.lawful.ensures z c.args.y.now (moved_over f c.lawful.ensures c.args.h.now c.args.word.now c.requires.long c.requires.units c.requires.word))

pub past_word-requires-clause-root : goal.past_word-requires-clause-root
past_word-requires-clause-root c =
    let f = c.args.frame.now in
    let k = c.loop-k.k in
    let inside = subst (λ v. k < length v) c.entries-entries.ensures c.loop-k-test.true in
    place_number f c.lawful.ensures k c.at.result (subst (λ n. k < n) c.requires.entries.count inside)
    (c.at.ensures ∙ ap (λ i. number_at i k) (c.m-m.ensures.value ∙ ap (λ (z : SignedFrame). length z.datum.positive) c.frame.view_is))

pub loop-k-preserved : goal.loop-k-preserved
loop-k-preserved c =
    let f = c.args.frame.now in
    let h = c.args.h.now in
    let word = c.args.word.now in
    let u = c.args.y.now in
    let k = c.loop-k.k in
    let z = H h ∷ map N word in
    let inside : k < length u = subst (λ v. k < length v) c.entries-entries.ensures c.loop-k-test.true in
    let read = λ (a : ℕ) (is : a ≡ get_or c.entries-entries.result.now k a). is ∙ ap (λ v. get_or v k a) c.entries-entries.ensures ∙ read_within u k a 0 inside in
    let tested : c.number.result ≡ get_or u k 0 = c.number.ensures ∙ read c.index-entries-k.result c.index-entries-k.is in
    elim c.if-number-ne0.branch [
      | then-number-ne0+in_ok-push w ↦
          let a = w.index-entries-k-then-number-ne0.result in
          let value = read a w.index-entries-k-then-number-ne0.is in
          let place = w.at.ensures ∙ ap (λ i. number_at i k) (c.m-m.ensures.value ∙ ap (λ (g : SignedFrame). length g.datum.positive) c.frame.view_is) in
          subst (λ x. AreMoved f z (take (k + 1) u) x.items) (sym w.letters-is)
          (subst (λ v. AreMoved f z (take (k + 1) u) v) (sym w.in_ok-push.ensures.items)
          (moved_letter f c.lawful.ensures h word u k a w.at.result w.past_word.result.r w.past_torus-x.result.r w.past_word.result.a w.past_torus-x.result.a c.loop-k.letters.items
          c.requires.zeros c.requires.entries.count inside value (λ e. w.if-number-ne0.true (tested ∙ sym value ∙ e)) place
          w.past_word.ensures.root w.past_word.ensures.image w.past_word.ensures.joined w.past_torus-x.ensures.root w.past_torus-x.ensures.below w.past_torus-x.ensures.joined c.loop-k.invariant))
      | else-number-ne0 w ↦
          subst (λ x. AreMoved f z (take (k + 1) u) x.items) (sym w.letters-is)
          (moved_zero f c.lawful.ensures z u k c.loop-k.letters.items inside (sym tested ∙ w.if-number-ne0.false) c.loop-k.invariant)
    ]
