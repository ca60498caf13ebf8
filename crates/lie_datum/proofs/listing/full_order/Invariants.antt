use Rattle.std.proofs.Common.{◌≡◌, take, map, ◌++◌}
use Rattle.lie_datum.specs.RootDatum.{opposite}
use Rattle.lie_datum.proofs.listing.full_order.Given as goal

abbrev pub invariant-loop-r : goal.invariant-loop-r
invariant-loop-r l = l.all.items ≡ l.positive ++ map opposite (take l.r-index l.positive)
