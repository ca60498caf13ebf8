use Rattle.lie_weight.specs.OrbitModules.{step_matrix}
use Rattle.lie_weight.proofs.steps.step_matrix.Goals as goal

pub returns-clause-value : goal.returns-clause-value
unfolding step_matrix
returns-clause-value c = c.built.ensures.value
