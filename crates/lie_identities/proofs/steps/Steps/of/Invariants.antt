use Rattle.std.proofs.Common.{◌≡◌, ℕ, ◌<◌, ◌≤◌, map, length}
use Rattle.std.specs.List.{range_with_len}
use Rattle.lie_datum.specs.Numbers.{number_at}
use Rattle.lie_const.specs.Modules.{dimension, top}
use Rattle.lie_identities.specs.StepLists.{root_steps, HasSmallColumns}
use Rattle.lie_identities.proofs.steps.Steps.of.Given as goal

abbrev pub invariant-loop-place : goal.invariant-loop-place
invariant-loop-place l = record {
  lists : map (λ c. map (λ s. s.items) c.items) l.lists.items ≡ map (λ h. root_steps l.«module» (number_at (length l.datum.positive) h)) (range_with_len 0 l.place);
  few : (h : ℕ) → h < l.place → top l.«module» (number_at (length l.datum.positive) h) ≤ 16384;
  small : (h : ℕ) → h < l.place → HasSmallColumns l.«module» (number_at (length l.datum.positive) h) (dimension l.«module»);
}
