use Rattle.std.proofs.Common.{◌≡◌, take}
use Rattle.lie_poly.specs.Terms.{times}
use Rattle.lie_poly.proofs.sums.multiples_of.Given as goal

abbrev pub invariant-loop-y : goal.invariant-loop-y
invariant-loop-y l = l.multiples.items ≡ times l.x (take l.y-index l.ys)
