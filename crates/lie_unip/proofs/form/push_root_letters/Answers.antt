use Rattle.std.proofs.Common.{◌+◌, ◌∷◌, ◌++◌, [], take, filter, sym, ap, ◌∙◌, append_assoc}
use Rattle.std.proofs.lemmas.List.{get_or_read}
use Rattle.lie_letters.specs.Spelled.{root_letters}
use Rattle.lie_unip.specs.Forms.{is_nonzero, nonzero_letters}
use Rattle.lie_unip.proofs.FormLemmas.{letters_more}
use Rattle.lie_unip.proofs.form.push_root_letters.Goals as goal

pub loop-k-preserved : goal.loop-k-preserved
loop-k-preserved c =
    let u = c.args.entries.now in
    let k = c.loop-k.k in
    let a = c.index-entries-k.result in
    let last = root_letters (filter is_nonzero ((k + 1, a) ∷ [])) in
    c.in_ok-push_root_letter.ensures ∙ ap (λ w. w ++ last) c.loop-k.invariant ∙ append_assoc c.args.word.now (root_letters (nonzero_letters (take k u))) last
    ∙ ap (λ w. c.args.word.now ++ w) (sym (letters_more u k a c.loop-k-test.true (get_or_read u k a c.loop-k-test.true c.index-entries-k.is 0)))
