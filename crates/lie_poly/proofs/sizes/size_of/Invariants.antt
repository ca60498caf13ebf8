use Rattle.std.proofs.Common.{◌≡◌, ◌+◌, drop}
use Rattle.lie_poly.specs.Terms.{size_of}
use Rattle.lie_poly.proofs.sizes.size_of.Given as goal

abbrev pub invariant-loop-x : goal.invariant-loop-x
invariant-loop-x l = l.size + size_of (drop l.x-index l.terms) ≡ size_of l.terms
