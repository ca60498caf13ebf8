use Rattle.lie_audit.proofs.WordMatrixLemmas.{joined-words}
use Rattle.lie_audit.proofs.laws.joined_words_multiply.Goals as goal

pub returns : goal.returns
returns c = joined-words
