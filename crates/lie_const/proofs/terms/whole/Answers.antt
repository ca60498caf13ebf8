use Rattle.lie_const.proofs.Kept.{not_whole}
use Rattle.lie_const.proofs.terms.whole.Goals as goal

pub returns-else-above-below-eq0 : goal.returns-else-above-below-eq0
returns-else-above-below-eq0 c = not_whole c.args.above c.args.below c.ranges.above c.ranges.below c.requires.below c.if-above-below-eq0.false
