use Rattle.std.proofs.Common.{◌≡◌, ◌++◌, take}
use Rattle.lie_script.proofs.FormTextLemmas.{spaced}
use Rattle.lie_script.proofs.form_texts.put_indices.Given as goal

abbrev pub invariant-indices : goal.invariant-indices
invariant-indices l = l.out.items ≡ l.fn.out.items ++ spaced (take l.i-index l.word)
