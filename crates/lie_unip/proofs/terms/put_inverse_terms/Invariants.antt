use Rattle.std.proofs.Common.{◌≡◌, ◌++◌, reverse, take, map}
use Rattle.lie_letters.specs.RingLetters.{term_word, inverse_word}
use Rattle.lie_letters.specs.PositiveTerms.{positive_term}
use Rattle.lie_unip.proofs.terms.put_inverse_terms.Given as goal

abbrev pub invariant-loop-k : goal.invariant-loop-k
invariant-loop-k g l =
    let R = g.R.Ring.ring l.ring in
    reverse l.todo.items ≡ inverse_word R (take l.k (term_word R (map positive_term l.terms) l.t l.u)) ++ reverse l.initial.todo.items
