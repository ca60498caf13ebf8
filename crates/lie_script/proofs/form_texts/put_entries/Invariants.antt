use Rattle.std.proofs.Common.{◌≡◌, ◌++◌, take}
use Rattle.lie_script.proofs.FormTextLemmas.{spaced}
use Rattle.lie_script.proofs.form_texts.put_entries.Given as goal

abbrev pub invariant-entries : goal.invariant-entries
invariant-entries l = l.out.items ≡ l.fn.out.items ++ spaced (take l.e-index l.entries)
