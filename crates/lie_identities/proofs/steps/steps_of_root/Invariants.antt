use Rattle.std.proofs.Common.{◌≡◌, map}
use Rattle.std.specs.List.{range_with_len}
use Rattle.lie_identities.specs.StepLists.{steps_of, HasSmallColumns}
use Rattle.lie_identities.proofs.steps.steps_of_root.Given as goal

abbrev pub invariant-loop-col : goal.invariant-loop-col
invariant-loop-col l = record {
  lists : map (λ s. s.items) l.columns.items ≡ map (steps_of l.«module» l.r) (range_with_len 0 l.col);
  small : HasSmallColumns l.«module» l.r l.col;
}
