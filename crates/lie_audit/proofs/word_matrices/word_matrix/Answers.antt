use Rattle.std.proofs.Common.{◌∙◌, take, sym, subst}
use Rattle.lie_audit.specs.WordMatrix.{IsWordFor}
use Rattle.lie_audit.proofs.WordMatrixLemmas.{letter-for, word-square-of, letter-square-of, word-next}
use Rattle.lie_audit.proofs.word_matrices.word_matrix.Goals as goal

pub letter_matrix-requires-clause-letter : goal.letter_matrix-requires-clause-letter
letter_matrix-requires-clause-letter c =
    let f = c.args.field.now in
    let d = c.args.datum.now in
    let w = c.letters-letters.result.now in
    letter-for f d w c.loop-letter.letter-index c.letter-item.result (subst (IsWordFor f d) (sym c.letters-letters.ensures) c.requires.word) c.loop-letter-test.true c.letter-item.is

pub mul-requires-clause-shape : goal.mul-requires-clause-shape
mul-requires-clause-shape c =
    let f = c.args.field.now in
    let v = c.args.space.now in
    (word-square-of f v c.loop-letter.matrix (take c.loop-letter.letter-index c.letters-letters.result.now) c.loop-letter.invariant).width
    ∙ sym (letter-square-of f v c.in_ok-factor.factor c.letter-item.result c.in_ok-factor.ensures).height

pub mul-requires-clause-elem : goal.mul-requires-clause-elem
mul-requires-clause-elem c = (word-square-of c.args.field.now c.args.space.now c.loop-letter.matrix (take c.loop-letter.letter-index c.letters-letters.result.now) c.loop-letter.invariant).elem

pub mul-requires-clause-b_elem : goal.mul-requires-clause-b_elem
mul-requires-clause-b_elem c = (letter-square-of c.args.field.now c.args.space.now c.in_ok-factor.factor c.letter-item.result c.in_ok-factor.ensures).elem

pub loop-letter-preserved : goal.loop-letter-preserved
loop-letter-preserved c =
    c.in_ok-matrix-2.ensures.value
    ∙ word-next c.args.field.now c.args.space.now c.letters-letters.result.now c.loop-letter.letter-index c.letter-item.result c.loop-letter.matrix c.in_ok-factor.factor c.loop-letter-test.true c.letter-item.is c.loop-letter.invariant c.in_ok-factor.ensures

pub returns-clause-elem : goal.returns-clause-elem
returns-clause-elem c = (word-square-of c.args.field.now c.args.space.now c.loop-letter.matrix (take c.loop-letter.letter-index c.letters-letters.result.now) c.loop-letter.invariant).elem
