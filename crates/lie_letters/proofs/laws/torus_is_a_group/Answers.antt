use Rattle.lie_letters.proofs.EntriesLemmas.{torus_group}
use Rattle.lie_letters.proofs.laws.torus_is_a_group.Goals as goal

pub returns : goal.returns
returns c = torus_group
