use Rattle.std.proofs.Common.{rules, ◌≡◌, ◌≤◌, ◌∷◌, [], ◌++◌, take, length, ap, sym, ◌∙◌, append_assoc}
use Rattle.std.proofs.lemmas.List.{take_all}
use Rattle.lie_script.specs.FormTexts.{indices_text}
use Rattle.lie_script.proofs.FormTextLemmas.{spaced, spaced_indices}
use Rattle.lie_script.proofs.form_texts.put_indices.Goals as goal

pub returns : goal.returns
returns c =
    let p = c.args.word.now in
    let old = c.args.out.now.items in
    let past : length p ≤ c.indices.i-index = search rules in
    let all : take c.indices.i-index p ≡ p = take_all c.indices.i-index p past in
    c.indices.invariant ∙ ap (λ z. old ++ spaced z) all ∙ ap (λ z. old ++ z) (spaced_indices p (sym c.if-is_empty.ensures)) ∙ sym (append_assoc old (32 ∷ []) (indices_text p))
