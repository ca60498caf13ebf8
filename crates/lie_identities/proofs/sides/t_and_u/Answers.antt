use Rattle.std.proofs.Common.{ap₂, ◌∙◌}
use Rattle.lie_poly.specs.Polynomials.{plus}
use Rattle.lie_identities.proofs.sides.t_and_u.Goals as goal

pub returns-in-Ok : goal.returns-in-Ok
returns-in-Ok c = c.in-Ok.ensures.value ∙ ap₂ plus c.in_ok-t.ensures c.in_ok-u.ensures
