use Rattle.std.proofs.Common.{◌≡◌, take}
use Rattle.lie_audit.specs.WordMatrix.{word_matrix}
use Rattle.lie_audit.proofs.word_matrices.word_matrix.Given as goal

abbrev pub invariant-loop-letter : goal.invariant-loop-letter
invariant-loop-letter l = l.matrix ≡ word_matrix l.field l.space (take l.letter-index l.letters)
