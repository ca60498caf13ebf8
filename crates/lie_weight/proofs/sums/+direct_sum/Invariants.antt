use Rattle.std.proofs.Common.{length}
use Rattle.lie_weight.proofs.sums.+direct_sum.Given as goal

abbrev pub decreases-direct_sum : goal.decreases-direct_sum
decreases-direct_sum l = length l.others.now
