use Rattle.std.proofs.Common.{◌≡◌, ℕ, ◌<◌, ◌≤◌, slice_index_or}
use Rattle.lie_ring.specs.Matrices.{EachElem}
use Rattle.lie_field.specs.Quotient.{add, mul}
use Rattle.lie_field.specs.FieldRing.{field_ring}
use Rattle.lie_dense.proofs.steps.add_by_steps.Given as goal

abbrev pub invariant-loop-j : goal.invariant-loop-j
invariant-loop-j l = record {
  sums : (k : ℕ) → k < l.j → slice_index_or l.row k 0 ≡ add l.field.given (slice_index_or l.initial.row k 0) (mul l.field.given l.a (slice_index_or l.other k 0));
  rest : (k : ℕ) → l.j ≤ k → slice_index_or l.row k 0 ≡ slice_index_or l.initial.row k 0;
  elem : EachElem (field_ring l.field) l.row;
}
