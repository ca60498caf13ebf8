use Rattle.std.proofs.Common.{◌≡◌, ◌≢◌, ℕ, suc, ◌<◌, ◌≤◌, pos}
use Rattle.lie_ring.specs.Matrices.{zero_matrix}
use Rattle.lie_weight.specs.Completion.{matrix_at}
use Rattle.lie_weight.proofs.powers.kept_count.Given as goal

abbrev pub invariant-loop-k : goal.invariant-loop-k
invariant-loop-k l = record {
  within : l.count ≤ l.k;
  rest : (j : ℕ) → l.count ≤ j → j < l.k → matrix_at l.size l.list j ≡ zero_matrix (pos 0) l.size l.size;
  last : (j : ℕ) → l.count ≡ suc j → matrix_at l.size l.list j ≢ zero_matrix (pos 0) l.size l.size;
}
