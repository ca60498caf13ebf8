use Rattle.std.proofs.Common.{◌∙◌, sym, ap}
use Rattle.std.proofs.lemmas.Result.{err_from_is_err_and}
use Rattle.lie_script.specs.Letters.{letter, letters, is_letter}
use Rattle.lie_script.specs.LineFields.{span}
use Rattle.lie_script.proofs.Loops.{with_front, goes-on, fails, ends, begins-kept, skipped, none-kept}
use Rattle.lie_script.proofs.letters.letters.Goals as goal
use Rattle.lie_script.proofs.letters.letters.Goals.{then-is_letter+in_ok-letter+in_ok-push, else-is_letter}
use Rattle.lie_script.specs.Checks.{each}

pub returns-in_err-letter : goal.returns-in_err-letter
unfolding letters
returns-in_err-letter c =
    let full = sym c.is_letter.ensures ∙ c.if-is_letter.true in
    let begins = begins-kept (letter c.args.sizes.now) is_letter span c.args.fields.now c.letters.spelled-index _ c.letters-test.true full in
    let p = err_from_is_err_and c.from_residual.result c.from_residual.ensures.1 in
    rw (p.1, p.2) (fails _ _ _ _ _ _ begins c.in_err-letter.ensures c.letters.invariant)

pub letters-preserved : goal.letters-preserved
unfolding letters
letters-preserved c =
    elim c.if-is_letter.branch [
      | then-is_letter+in_ok-letter+in_ok-push w ↦
          let full = sym c.is_letter.ensures ∙ w.if-is_letter.true in
          let begins = begins-kept (letter c.args.sizes.now) is_letter span c.args.fields.now c.letters.spelled-index _ c.letters-test.true full in
          rw (w.word-is, w.in_ok-push.ensures.pushed) (goes-on _ _ _ _ _ _ begins w.in_ok-letter.ensures c.letters.invariant)
      | else-is_letter w ↦
          let left_out = sym c.is_letter.ensures ∙ w.if-is_letter.false in
          let same = skipped is_letter span c.args.fields.now c.letters.spelled-index _ c.letters-test.true left_out in
          rw w.word-is (ap (λ left. with_front c.letters.word (each (letter c.args.sizes.now) left)) (sym same) ∙ c.letters.invariant)
    ]

pub returns : goal.returns
unfolding letters
returns c = ends _ _ _ (none-kept (letter c.args.sizes.now) is_letter span c.args.fields.now c.letters.spelled-index c.letters-test.false) c.letters.invariant
