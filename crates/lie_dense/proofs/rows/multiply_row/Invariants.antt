use Rattle.std.proofs.Common.{◌≡◌, ℕ, ◌+◌, ◌*◌, ◌<◌, slice_index_or}
use Rattle.lie_ring.specs.Rings.{sum_below}
use Rattle.lie_ring.specs.Matrices.{EachElem}
use Rattle.lie_field.specs.Quotient.{mul}
use Rattle.lie_field.specs.FieldRing.{field_ring}
use Rattle.lie_dense.proofs.rows.multiply_row.Given as goal

abbrev pub invariant-loop-k : goal.invariant-loop-k
invariant-loop-k l = record {
  sums : (j : ℕ) → j < l.n → slice_index_or l.answer j 0 ≡ sum_below (field_ring l.field) l.k (λ k. mul l.field.given (slice_index_or l.row k 0) (slice_index_or l.b (k * l.n + j) 0));
  elem : EachElem (field_ring l.field) l.answer;
}
