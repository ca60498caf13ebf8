use Rattle.std.proofs.Common.{◌≡◌, take, map}
use Rattle.lie_datum.specs.Listing.{ranked_root}
use Rattle.lie_datum.proofs.listing.without_heights.Given as goal

abbrev pub invariant-loop-x : goal.invariant-loop-x
invariant-loop-x l = l.roots.items ≡ map ranked_root (take l.x-index l.list)
