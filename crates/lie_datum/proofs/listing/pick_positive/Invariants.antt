use Rattle.std.proofs.Common.{take, map}
use Rattle.std.specs.List.{All}
use Rattle.lie_datum.specs.RootDatum.{IsPositive}
use Rattle.lie_datum.specs.Listing.{IsPicked, IsRanked, ranked_root}
use Rattle.lie_datum.proofs.listing.pick_positive.Given as goal

abbrev pub invariant-loop-r : goal.invariant-loop-r
invariant-loop-r l = IsPicked IsPositive (take l.r-index l.roots) (map ranked_root l.list.items) × All IsRanked l.list.items
