use Rattle.std.proofs.Common.{◌≡◌, take, map}
use Rattle.std.specs.List.{All}
use Rattle.lie_datum.specs.RootDatum.{covector, IsWithin}
use Rattle.lie_datum.proofs.tables.covectors.Given as goal

abbrev pub invariant-loop-r : goal.invariant-loop-r
invariant-loop-r l = (l.list.items ≡ map (covector l.base) (take l.r-index l.roots)) × All (IsWithin 80000) l.list.items
