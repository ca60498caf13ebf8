use Rattle.std.proofs.Common.{◌≡◌, ◌≤◌, ℕ, List, length}
use Rattle.lie_session.specs.Runs.{Gave}
use Rattle.lie_session.specs.Steps.{Progress}
use Rattle.lie_session.proofs.program.run_in.Given as goal

abbrev pub invariant-loop-turn : goal.invariant-loop-turn
invariant-loop-turn g l =
    (seen : List ℕ) × Gave (g.S.Source.left l.fn.source) seen (g.S.Source.left l.source) × (length seen ≡ l.taken) × (l.taken ≤ 16777216) × (l._turn ≤ l.taken)
    × (l.talk.number ≤ l.taken) × Progress l.mode seen l.talk (g.K.Sink.written l.fn.sink) (g.K.Sink.written l.sink) × (g.S.Source.faults l.source ≡ g.S.Source.faults l.fn.source)
    × (g.K.Sink.faults l.sink ≡ g.K.Sink.faults l.fn.sink)
