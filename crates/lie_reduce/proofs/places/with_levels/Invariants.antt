use Rattle.std.proofs.Common.{◌≡◌, ℕ, ◌<◌, length}
use Rattle.std.specs.Prelude.{slice_index_or}
use Rattle.std.specs.List.{All}
use Rattle.lie_reduce.specs.declared.places.Placed.{Placed}
use Rattle.lie_reduce.specs.Places.{IsPlaced}
use Rattle.lie_reduce.proofs.places.with_levels.Given as goal

abbrev pub invariant-loop-place : goal.invariant-loop-place
invariant-loop-place l = record {
  count : length l.list.items ≡ l.place;
  each : All (IsPlaced l.datum l.space) l.list.items;
  numbers : (a : ℕ) (z : Placed) → a < l.place → (slice_index_or l.list.items a z).place ≡ a;
}
