use Rattle.std.proofs.Common.{◌≡◌, take, map, get_or, ◌++◌, []}
use Rattle.std.specs.Ordering.{int_eq}
use Rattle.indexmap.specs.IndexMap.{get}
use lib.Pointwise.{pointwise}
use Rattle.lie_datum.specs.Vectors.{plus}
use Rattle.lie_datum.specs.Grids.{grid}
use Rattle.lie_datum.proofs.tables.sums.Given as goal

abbrev pub invariant-loop-r : goal.invariant-loop-r
invariant-loop-r l = l.list.items ≡ grid (λ r s. get (pointwise int_eq) l.names (plus r.coeffs s.coeffs)) (take l.r-index l.roots) l.roots

abbrev pub invariant-loop-s : goal.invariant-loop-s
invariant-loop-s l =
    l.list.items
    ≡ grid (λ r s. get (pointwise int_eq) l.names (plus r.coeffs s.coeffs)) (take l.r-index l.roots) l.roots ++ map (λ s. get (pointwise int_eq) l.names (plus (get_or l.roots l.r-index (record { coeffs = []; co_coeffs = [] })).coeffs s.coeffs)) (take l.s-index l.roots)
