use Rattle.std.proofs.Common.{◌≡◌, ℕ, ◌<◌, false, get_or}
use Rattle.lie_script.specs.Letters.{is_semicolon}
use Rattle.lie_script.specs.LineFields.{span}
use Rattle.lie_script.specs.declared.fields.LineField.{LineField}
use Rattle.lie_script.proofs.letters.semicolon_at.Given as goal

abbrev pub invariant-loop-i : goal.invariant-loop-i
invariant-loop-i l = (k : ℕ) (d : LineField) → k < l.i → is_semicolon (span (get_or l.fields k d)) ≡ false
