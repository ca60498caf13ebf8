use Rattle.lie_reduce.proofs.OneForm.{covering_modules_are_faithful}
use Rattle.lie_reduce.proofs.laws.covering_modules_are_faithful.Goals as goal

pub returns : goal.returns
returns c = covering_modules_are_faithful
