use Rattle.std.proofs.Common.{◌≡◌, map, take}
use Rattle.std.specs.List.{All}
use Rattle.lie_orbit.specs.Levels.{leveled_weight, IsLeveled}
use Rattle.lie_orbit.proofs.levels.with_levels.Given as goal

abbrev pub invariant-loop-weight : goal.invariant-loop-weight
invariant-loop-weight l = (map leveled_weight l.list.items ≡ take l.weight-index l.orbit) × All (IsLeveled l.datum) l.list.items
