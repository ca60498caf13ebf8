use Rattle.std.proofs.Common.{◌≡◌, ◌≤◌, ℕ, ◌+◌, List, ◌++◌, Option, length}
use Rattle.lie_session.specs.Steps.{Progress}
use Rattle.lie_session.proofs.talk.Talk.hear.Given as goal

abbrev pub invariant-lines : goal.invariant-lines
invariant-lines g l =
    (fed : List ℕ) × (l.piece ≡ fed ++ l.rest)
    × ((seen : List ℕ) (old : Option (List ℕ)) → Progress l.mode seen l.fn.self old (g.K.Sink.written l.fn.sink) → Progress l.mode (seen ++ fed) l.self old (g.K.Sink.written l.sink))
    × (g.K.Sink.faults l.sink ≡ g.K.Sink.faults l.fn.sink) × (l.self.number + length l.rest ≤ l.fn.self.number + length l.piece)

abbrev pub decreases-lines : goal.decreases-lines
decreases-lines g l = length l.rest
