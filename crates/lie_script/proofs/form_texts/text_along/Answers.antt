use Rattle.std.proofs.Common.{◌∙◌}
use Rattle.lie_script.proofs.FormTextLemmas.{parts_written}
use Rattle.lie_script.proofs.form_texts.text_along.Goals as goal

pub returns : goal.returns
returns c =
    parts_written c.args.f.now c.args.word.now c.entries.result.now c.h.result.now c.entries-2.result.now c.new-text.result.items c.put_letters.new.out.items c.extend_from_slice.new.self.items
    c.put_entries.new.out.items c.extend_from_slice-2.new.self.items c.put_indices.new.out.items c.extend_from_slice-3.new.self.items c.put_letters-2.new.out.items
    (c.entries.ensures ∙ c.u.ensures) c.h.ensures (c.entries-2.ensures ∙ c.v.ensures) c.new-text.ensures.items c.in_ok-put_letters.ensures c.in_ok-extend_from_slice.ensures.items c.in_ok-put_entries.ensures
    c.in_ok-extend_from_slice-2.ensures.items c.in_ok-put_indices.ensures c.in_ok-extend_from_slice-3.ensures.items c.in_ok-put_letters-2.ensures
