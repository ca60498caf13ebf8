use Rattle.lie_weyl.proofs.Words.{is_word}
use Rattle.lie_weyl.proofs.Linearity.{moved_same}
use Rattle.lie_weyl.proofs.laws.images_determine_action.Goals as goal

pub returns : goal.returns
returns c = λ d loaded w v l m. moved_same d loaded w v (is_word d.base w l) (is_word d.base v m)
