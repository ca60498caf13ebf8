use Rattle.std.proofs.Common.{◌≡◌, ◌++◌, reverse, drop, map}
use Rattle.lie_letters.specs.RingLetters.{term_word}
use Rattle.lie_letters.specs.PositiveTerms.{positive_term}
use Rattle.lie_unip.proofs.terms.put_terms.Given as goal

abbrev pub invariant-loop-k : goal.invariant-loop-k
invariant-loop-k g l = reverse l.todo.items ≡ drop l.k (term_word (g.R.Ring.ring l.ring) (map positive_term l.terms) l.t l.u) ++ reverse l.initial.todo.items
