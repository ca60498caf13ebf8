use Rattle.lie_script.proofs.FormTextLemmas.{AreWritten}
use Rattle.lie_script.proofs.form_texts.put_letters.Given as goal

abbrev pub invariant-letters : goal.invariant-letters
invariant-letters l = AreWritten l.entries l.k l.fn.out.items l.out.items l.first
