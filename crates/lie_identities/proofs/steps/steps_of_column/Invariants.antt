use Rattle.std.proofs.Common.{◌≡◌}
use Rattle.std.specs.List.{flat_map, range_with_len}
use Rattle.lie_identities.specs.StepLists.{steps_in, HasSmallColumn}
use Rattle.lie_identities.proofs.steps.steps_of_column.Given as goal

abbrev pub invariant-loop-k : goal.invariant-loop-k
invariant-loop-k l = record {
  list : l.steps.items ≡ flat_map (steps_in l.«module» l.r l.col) (range_with_len 1 l.k);
  small : HasSmallColumn l.«module» l.r l.k l.col;
}
