use Rattle.std.proofs.Common.{◌≡◌, take, map, ◌++◌, ◌+◌, Some}
use Rattle.std.specs.Ordering.{int_eq}
use Rattle.std.specs.List.{range_with_len}
use Rattle.indexmap.specs.IndexMap.{get}
use lib.Pointwise.{pointwise}
use Rattle.lie_datum.specs.RootDatum.{reflected}
use Rattle.lie_datum.specs.Grids.{grid}
use Rattle.lie_datum.proofs.tables.images.Given as goal

abbrev pub invariant-loop-i : goal.invariant-loop-i
invariant-loop-i l = map Some l.list.items ≡ grid (λ i r. get (pointwise int_eq) l.names (reflected l.base i r).coeffs) (range_with_len 1 l.i) l.roots

abbrev pub invariant-loop-r : goal.invariant-loop-r
invariant-loop-r l =
    map Some l.list.items
    ≡ grid (λ i r. get (pointwise int_eq) l.names (reflected l.base i r).coeffs) (range_with_len 1 l.i) l.roots ++ map (λ r. get (pointwise int_eq) l.names (reflected l.base (l.i + 1) r).coeffs) (take l.r-index l.roots)
