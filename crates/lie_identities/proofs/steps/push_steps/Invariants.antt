use Rattle.std.proofs.Common.{◌≡◌, ◌≤◌, ◌-◌, ◌++◌}
use Rattle.std.specs.List.{flat_map, range_with_len}
use Rattle.lie_const.specs.Modules.{dimension}
use Rattle.lie_identities.specs.StepLists.{step_at}
use Rattle.lie_identities.proofs.steps.push_steps.Given as goal

abbrev pub invariant-loop-row : goal.invariant-loop-row
invariant-loop-row l = record {
  low : l.from ≤ dimension l.«module»;
  list : l.steps.items ≡ l.fn.steps.items ++ flat_map (step_at l.«module» l.fn.r l.col l.power) (range_with_len 0 l.from);
}

abbrev pub decreases-loop-row : goal.decreases-loop-row
decreases-loop-row l = dimension l.«module» - l.from
