use Rattle.std.proofs.Common.{length}
use Rattle.lie_field.specs.FieldRing.{field_ring}
use Rattle.lie_unip.specs.Collection.{AreEntries}
use Rattle.test_tables.proofs.products.collected.Given as goal

abbrev pub invariant-loop-letter : goal.invariant-loop-letter
invariant-loop-letter l = AreEntries (field_ring l.field) (length l.datum.positive) l.u
