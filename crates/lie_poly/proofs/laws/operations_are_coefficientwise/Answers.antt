use Rattle.lie_poly.specs.CoefficientLaws.{coefficientwise}
use Rattle.lie_poly.proofs.laws.operations_are_coefficientwise.Goals as goal

pub returns : goal.returns
returns c = coefficientwise
