use Rattle.std.proofs.Common.{◌≡◌}
use Rattle.lie_weight.specs.Completion.{IsFilled, source_powers}
use Rattle.lie_weight.proofs.filled.filled.Given as goal

abbrev pub invariant-loop-i : goal.invariant-loop-i
invariant-loop-i l = IsFilled l.datum (source_powers l.datum l.fn.weights.items l.source) l.i l.space × (l.space.weights ≡ l.fn.weights.items)
