use Rattle.std.proofs.Common.{◌∙◌, ap, sym, subst}
use Rattle.lie_letters.specs.SignedFrames.{unsigned}
use Rattle.lie_letters.specs.Spelled.{IsWordOver}
use Rattle.lie_audit.specs.WordMatrix.{word_matrix}
use Rattle.lie_reduce.specs.Reduction.{Peels}
use Rattle.lie_reduce.proofs.ReversedWords.{list-over}
use Rattle.lie_reduce.proofs.form_parts.positive_word.Goals as goal

pub returns-in_ok-root_word-in-Some : goal.returns-in_ok-root_word-in-Some
returns-in_ok-root_word-in-Some c =
    let f = c.args.frame.now in
    let v = c.args.audited.now.module in
    let list = subst (Peels f v c.args.u.now) c.in-Some.is c.in_ok-list.ensures in
    let word = c.in_ok-root_word-in-Some.ensures in (
      subst (IsWordOver (unsigned f)) (sym word) (list-over f c.in-Some.list list.entries),
      ap (word_matrix f.field v) word ∙ list.matrix,
    )
