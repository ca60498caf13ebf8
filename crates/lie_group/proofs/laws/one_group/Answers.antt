use Rattle.lie_group.proofs.OneGroup.{one_group}
use Rattle.lie_group.proofs.laws.one_group.Goals as goal

pub returns : goal.returns
returns c = one_group
