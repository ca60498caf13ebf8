use Rattle.std.proofs.Common.{ℕ, ◌<◌}
use Rattle.lie_weight.specs.Tables.{IsBadEntry}
use Rattle.lie_weight.proofs.table.first_bad.Given as goal

abbrev pub invariant-loop-n : goal.invariant-loop-n
invariant-loop-n l = (m : ℕ) → m < l.n → ¬ IsBadEntry l.datum l.weights l.entries m
