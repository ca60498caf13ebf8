use Rattle.lie_datum.proofs.ReflectionLaws.{reflection_law_holds}
use Rattle.lie_datum.proofs.laws.reflection_law.Goals as goal

pub returns : goal.returns
returns c = reflection_law_holds
