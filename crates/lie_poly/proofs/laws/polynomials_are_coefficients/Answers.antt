use Rattle.lie_poly.specs.CoefficientLaws.{coefficients_determine}
use Rattle.lie_poly.proofs.laws.polynomials_are_coefficients.Goals as goal

pub returns : goal.returns
returns c = coefficients_determine
