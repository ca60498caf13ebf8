use Rattle.lie_poly.specs.Polynomials.{polynomial, same_polynomial}
use Rattle.std.proofs.Common.{[]}
use Rattle.lie_poly.proofs.laurent.LaurentRing.zero.Goals as goal

pub returns-clause-value : goal.returns-clause-value
returns-clause-value c = same_polynomial _ (polynomial []) c.new.ensures.items
