use Rattle.lie_session.proofs.NamedLemmas.{distinct_named}
use Rattle.lie_session.proofs.modules.Modules.new.Goals as goal

pub invariant_of-result : goal.invariant_of-result
invariant_of-result c = (distinct_named c.new.result.entries c.new.ensures.unique, tt)
