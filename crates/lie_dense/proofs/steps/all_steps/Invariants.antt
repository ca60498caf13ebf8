use Rattle.std.proofs.Common.{◌≡◌, ℕ, ◌<◌, length, slice_index_or}
use Rattle.lie_dense.specs.Steps.{step}
use Rattle.lie_dense.proofs.steps.all_steps.Given as goal

abbrev pub invariant-loop-place : goal.invariant-loop-place
invariant-loop-place l = record {
  count : length l.steps.items ≡ l.place;
  each : (k : ℕ) → k < l.place → slice_index_or l.steps.items k 0 ≡ step l.field k;
}
