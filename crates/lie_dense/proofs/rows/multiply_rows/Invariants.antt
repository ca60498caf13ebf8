use Rattle.std.proofs.Common.{◌≡◌, ℕ, ◌+◌, ◌*◌, ◌<◌, ◌≤◌, slice_index_or}
use Rattle.lie_ring.specs.Rings.{sum_below}
use Rattle.lie_ring.specs.Matrices.{EachElem}
use Rattle.lie_field.specs.Quotient.{mul}
use Rattle.lie_field.specs.FieldRing.{field_ring}
use Rattle.lie_dense.proofs.rows.multiply_rows.Given as goal

abbrev pub invariant-loop-i : goal.invariant-loop-i
invariant-loop-i l = record {
  products : (r j : ℕ) → r < l.i → j < l.n → slice_index_or l.answer (r * l.n + j) 0 ≡ sum_below (field_ring l.field) l.n (λ k. mul l.field.given (slice_index_or l.a (r * l.n + k) 0) (slice_index_or l.b (k * l.n + j) 0));
  zeros : (x : ℕ) → l.i * l.n ≤ x → x < l.n * l.n → slice_index_or l.answer x 0 ≡ 0;
  elem : EachElem (field_ring l.field) l.answer;
}
