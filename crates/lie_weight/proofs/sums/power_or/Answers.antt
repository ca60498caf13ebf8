use Rattle.std.proofs.Common.{subst, sym}
use Rattle.lie_const.specs.Modules.{dimension}
use Rattle.lie_weight.specs.Kept.{IsSquare}
use Rattle.lie_weight.proofs.FactorLemmas.{zero_square}
use Rattle.lie_weight.proofs.sums.power_or.Goals as goal

pub returns-else-k-top-clause-square : goal.returns-else-k-top-clause-square
returns-else-k-top-clause-square c = subst (IsSquare (dimension c.args.space.now)) (sym c.requires.none) (zero_square (dimension c.args.space.now))
