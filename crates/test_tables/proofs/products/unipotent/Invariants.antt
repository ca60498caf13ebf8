use Rattle.std.proofs.Common.{length}
use Rattle.lie_field.specs.FieldRing.{field_ring}
use Rattle.lie_unip.specs.Collection.{AreEntries}
use Rattle.test_tables.proofs.products.unipotent.Given as goal

abbrev pub invariant-loop-k : goal.invariant-loop-k
invariant-loop-k l = AreEntries (field_ring l.field) (length l.datum.positive) l.u
