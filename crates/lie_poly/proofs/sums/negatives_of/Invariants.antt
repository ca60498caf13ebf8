use Rattle.std.proofs.Common.{◌≡◌, take, map}
use Rattle.lie_poly.proofs.ProductLemmas.{negative_term}
use Rattle.lie_poly.proofs.sums.negatives_of.Given as goal

abbrev pub invariant-loop-x : goal.invariant-loop-x
invariant-loop-x l = l.negatives.items ≡ map negative_term (take l.x-index l.terms)
