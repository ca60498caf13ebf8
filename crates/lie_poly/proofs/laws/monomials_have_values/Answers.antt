use Rattle.lie_poly.specs.EvaluationLaws.{evaluation-monomial}
use Rattle.lie_poly.proofs.laws.monomials_have_values.Goals as goal

pub returns : goal.returns
returns c = evaluation-monomial
