use Rattle.std.proofs.Common.{◌≡◌, take, map}
use Rattle.lie_reduce.specs.Places.{placed_number}
use Rattle.lie_reduce.proofs.places.without_levels.Given as goal

abbrev pub invariant-loop-p : goal.invariant-loop-p
invariant-loop-p l = l.places.items ≡ map placed_number (take l.p-index l.list)
