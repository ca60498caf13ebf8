use Rattle.std.proofs.Common.{◌-◌}
use Rattle.lie_ring.specs.Matrices.{EachElem}
use Rattle.lie_field.specs.FieldRing.{field_ring}
use Rattle.lie_dense.specs.Flat.{place}
use Rattle.lie_reduce.specs.Elimination.{AreApart}
use Rattle.lie_reduce.proofs.elimination.eliminate.Given as goal

abbrev pub invariant-loop-done : goal.invariant-loop-done
invariant-loop-done l = record {
  apart : AreApart l.field l.n (l.n - l.done) (place l.n l.initial.entries) (place l.n l.entries);
  elem : EachElem (field_ring l.field) l.entries;
}
