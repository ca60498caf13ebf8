use Rattle.lie_poly.specs.EvaluationLaws.{evaluation_hom}
use Rattle.lie_poly.proofs.laws.evaluation_is_homomorphism.Goals as goal

pub returns : goal.returns
returns c = evaluation_hom
