use Rattle.std.proofs.Common.{rules, ◌≡◌, ◌≤◌, ◌++◌, length, take, ap, ◌∙◌}
use Rattle.lie_script.specs.Lines.{kept_limit}
use Rattle.lie_script.proofs.LinesLemmas.{kept}
use Rattle.lie_script.proofs.lines.Lines.keep.Goals as goal

pub returns : goal.returns
returns c =
    let count = c.self.inside.count in
    let size = c.self.inside.buffer.len in
    let buffer = c.deref_mut.result.now in
    let fits : count ≤ length buffer = search rules in
    let within : count ≤ kept_limit = search rules in
    let room : kept_limit ≤ size = search rules in
    let copied : c.copy_from_slice.new.self ≡ take c.min-count.result c.args.bytes.now = search rules in
    kept kept_limit count c.min-count.result size buffer c.copy_from_slice.new.self _ _ c.args.bytes.now fits within room c.min-count.ensures copied
    ∙ ap (λ z. take kept_limit (take count z ++ c.args.bytes.now)) c.deref_mut.ensures.value
    ∙ ap (λ z. take kept_limit (z ++ c.args.bytes.now)) c.self.view_is
