use Rattle.lie_weight.specs.Completion.{given_powers}
use Rattle.lie_weight.proofs.DraftLemmas.{AreFirst}
use Rattle.lie_weight.proofs.sources.given_powers.Given as goal

abbrev pub invariant-loop-k : goal.invariant-loop-k
invariant-loop-k l = AreFirst l.size (given_powers l.size l.entries l.root) l.k l.list.items
