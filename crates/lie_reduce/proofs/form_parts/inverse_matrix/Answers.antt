use Rattle.std.proofs.Common.{◌≡◌, sym, subst}
use Rattle.lie_letters.specs.Spelled.{reversed}
use Rattle.lie_audit.specs.WordMatrix.{IsWordFor}
use Rattle.lie_reduce.proofs.ReversedWords.{reversed-over, over-for}
use Rattle.lie_reduce.proofs.form_parts.inverse_matrix.Goals as goal

pub word_matrix-requires-clause-word : goal.word_matrix-requires-clause-word
word_matrix-requires-clause-word c =
    let f = c.args.frame.now in
    let back = subst (λ z. c.in_ok-back.back ≡ reversed z.field c.args.turn.now) c.frame.view_is c.in_ok-back.ensures in
    subst (λ z. IsWordFor z.field z.datum c.in_ok-back.back) (sym c.frame.view_is)
    (subst (IsWordFor f.field f.datum) (sym back) (over-for f (reversed f.field c.args.turn.now) (reversed-over f c.lawful.ensures c.args.turn.now c.requires.turn)))
