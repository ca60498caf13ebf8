use Rattle.lie_datum.proofs.ReflectionLaws.{simple_reflection_law_holds}
use Rattle.lie_datum.proofs.laws.simple_reflection_law.Goals as goal

pub returns : goal.returns
returns c = simple_reflection_law_holds
