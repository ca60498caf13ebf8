use Rattle.std.proofs.Common.{◌≡◌, take, map}
use Rattle.lie_datum.specs.RootDatum.{vector}
use Rattle.lie_datum.proofs.tables.vectors.Given as goal

abbrev pub invariant-loop-r : goal.invariant-loop-r
invariant-loop-r l = l.list.items ≡ map (vector l.base) (take l.r-index l.roots)
