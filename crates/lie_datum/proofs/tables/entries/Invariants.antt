use Rattle.std.proofs.Common.{◌≡◌, take, map}
use Rattle.std.specs.List.{All}
use Rattle.lie_datum.specs.Entries.{as_root, HasEntry}
use Rattle.lie_datum.proofs.tables.entries.Given as goal

abbrev pub invariant-loop-r : goal.invariant-loop-r
invariant-loop-r l = (map as_root l.list.items ≡ take l.r-index l.roots) × All (HasEntry l.base l.covectors.items) l.list.items
