use Rattle.lie_identities.proofs.WeightBounds.{adjoint_is_light}
use Rattle.lie_session.proofs.group.LoadedGroup.name_adjoint.Goals as goal

pub name_module-requires-clause-light : goal.name_module-requires-clause-light
name_module-requires-clause-light c = adjoint_is_light c.frame.inside.datum _ c.in_ok-space.space c.loaded.ensures c.in_ok-space.ensures
