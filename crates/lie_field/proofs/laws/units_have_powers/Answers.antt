use Rattle.lie_field.proofs.UnitLemmas.{power_laws}
use Rattle.lie_field.proofs.laws.units_have_powers.Goals as goal

pub returns : goal.returns
returns c f = power_laws f
