use Rattle.std.proofs.Common.{rules, arith, ◌≡◌, ◌≤◌, ◌∷◌, [], ◌++◌, take, length, ap, sym, ◌∙◌, append_assoc}
use Rattle.std.proofs.lemmas.List.{take_all}
use Rattle.lie_script.specs.FormTexts.{entries_text}
use Rattle.lie_script.proofs.FormTextLemmas.{spaced, spaced_entries}
use Rattle.lie_script.proofs.form_texts.put_entries.Goals as goal

pub returns : goal.returns
returns c =
    let t = c.args.torus.now in
    let old = c.args.out.now.items in
    let entries = c.entries-entries.result.now in
    let same : entries ≡ t = c.entries-entries.ensures.entries in
    let past : length entries ≤ c.entries.e-index = search rules in
    let all : take c.entries.e-index entries ≡ t = take_all c.entries.e-index entries past ∙ same in
    c.entries.invariant ∙ ap (λ z. old ++ spaced z) all ∙ ap (λ z. old ++ z) (spaced_entries t (omega (arith, c.entries-entries.ensures.one_or_more)))
    ∙ sym (append_assoc old (32 ∷ []) (entries_text t))
