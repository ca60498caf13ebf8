use Rattle.std.proofs.Common.{take}
use Rattle.std.specs.Ordering.{int_eq}
use Rattle.indexmap.specs.IndexMap.{get}
use lib.Pointwise.{pointwise}
use Rattle.lie_datum.specs.Vectors.{Vector}
use Rattle.lie_datum.specs.Grids.{IsIndexed}
use Rattle.lie_datum.proofs.tables.numbers.Given as goal

abbrev pub invariant-loop-k : goal.invariant-loop-k
invariant-loop-k l = (v : Vector) → IsIndexed l.positive (take l.k l.vectors) v (get (pointwise int_eq) l.names v)
