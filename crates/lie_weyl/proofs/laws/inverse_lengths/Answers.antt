use Rattle.lie_weyl.proofs.Words.{is_word}
use Rattle.lie_weyl.proofs.LengthLemmas.{length_reverse}
use Rattle.lie_weyl.proofs.laws.inverse_lengths.Goals as goal

pub returns : goal.returns
returns c = λ d loaded w l. length_reverse d loaded w (is_word d.base w l)
