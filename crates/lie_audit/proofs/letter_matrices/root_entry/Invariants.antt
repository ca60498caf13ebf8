use Rattle.std.proofs.Common.{◌≡◌, ◌<◌, suc}
use Rattle.lie_ring.specs.Powers.{power}
use Rattle.lie_field.specs.Quotient.{order}
use Rattle.lie_field.specs.FieldRing.{field_ring}
use Rattle.lie_audit.proofs.RootEntries.{partial}
use Rattle.lie_audit.proofs.letter_matrices.root_entry.Given as goal

abbrev pub invariant-loop-k : goal.invariant-loop-k
invariant-loop-k l = record {
  sum_is : l.sum ≡ partial l.field l.space l.r l.a l.row l.col l.k;
  sum_below : l.sum < order l.field.given;
  power_is : l.power ≡ power (field_ring l.field) l.a (suc l.k);
  power_below : l.power < order l.field.given;
}
