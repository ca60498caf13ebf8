use Rattle.std.proofs.Common.{◌≡◌, ◌++◌, map, take}
use Rattle.lie_identities.specs.Sides.{term_factor}
use Rattle.lie_identities.proofs.sides.Side.times_terms.Given as goal

abbrev pub invariant-loop-term : goal.invariant-loop-term
invariant-loop-term l = l.side.factors.items ≡ l.fn.self.factors.items ++ map term_factor (take l.term-index l.terms)
