use Rattle.lie_group.proofs.OneFrame.{one_frame}
use Rattle.lie_group.proofs.laws.one_frame.Goals as goal

pub returns : goal.returns
returns c = one_frame
