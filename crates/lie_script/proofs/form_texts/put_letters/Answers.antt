use Rattle.std.proofs.Common.{sym, subst, ◌∙◌}
use Rattle.std.proofs.lemmas.List.{get_or_read}
use Rattle.lie_script.proofs.FormTextLemmas.{AreWritten, letters_more, letters_still, letters_end, letters_none}
use Rattle.lie_script.proofs.form_texts.put_letters.Goals as goal
use Rattle.lie_script.proofs.form_texts.put_letters.Goals.{then-number-ne0+in_ok-put_next, else-number-ne0}

pub letters-preserved : goal.letters-preserved
letters-preserved c =
    let u = c.args.entries.now in
    let k = c.letters.k in
    let a = c.index-entries-k.result in
    let is = get_or_read u k a c.letters-test.true c.index-entries-k.is 0 in
    elim c.if-number-ne0.branch [
      | then-number-ne0+in_ok-put_next w ↦
          rw (w.out-is, w.first-is)
          (letters_more u k a c.args.out.now.items c.letters.out.items w.put_next.new.out.items c.letters.first c.letters-test.true is (λ e. w.if-number-ne0.true (c.number.ensures ∙ e)) c.letters.invariant w.in_ok-put_next.ensures)
      | else-number-ne0 w ↦
          rw (w.out-is, w.first-is)
          (letters_still u k a c.args.out.now.items c.letters.out.items c.letters.first c.letters-test.true is (sym c.number.ensures ∙ w.if-number-ne0.false) c.letters.invariant)
    ]

pub returns-in_ok-push : goal.returns-in_ok-push
returns-in_ok-push c =
    let none = subst (AreWritten c.args.entries.now c.letters.k c.args.out.now.items c.letters.out.items) c.if-first.true c.letters.invariant in
    letters_none c.args.entries.now c.letters.k c.args.out.now.items c.letters.out.items c.push.new.self.items c.letters-test.false none c.in_ok-push.ensures.items

pub returns-else-first : goal.returns-else-first
returns-else-first c =
    let some = subst (AreWritten c.args.entries.now c.letters.k c.args.out.now.items c.letters.out.items) c.if-first.false c.letters.invariant in
    letters_end c.args.entries.now c.letters.k c.args.out.now.items c.letters.out.items c.letters-test.false some
