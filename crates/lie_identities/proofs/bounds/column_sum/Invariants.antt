use Rattle.std.proofs.Common.{◌≡◌, ◌+◌, take}
use Rattle.lie_identities.specs.Sizes.{steps_total}
use Rattle.lie_identities.proofs.bounds.column_sum.Given as goal

abbrev pub invariant-loop-step : goal.invariant-loop-step
invariant-loop-step l = l.sum ≡ 1 + steps_total l.size (take l.step-index l.column)
