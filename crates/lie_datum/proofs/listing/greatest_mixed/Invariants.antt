use Rattle.std.proofs.Common.{take}
use Rattle.lie_datum.specs.Listing.{IsGreatestMixedOf}
use Rattle.lie_datum.proofs.listing.greatest_mixed.Given as goal

abbrev pub invariant-loop-r : goal.invariant-loop-r
invariant-loop-r l = IsGreatestMixedOf (take l.r-index l.roots) l.greatest
