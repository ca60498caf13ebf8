use Rattle.std.proofs.Common.{length}
use Rattle.lie_poly.proofs.sums.+product_of.Given as goal

abbrev pub decreases-product_of : goal.decreases-product_of
decreases-product_of l = length l.xs.now
