use Rattle.std.proofs.Common.{◌≡◌, map}
use Rattle.std.specs.List.{range_with_len}
use Rattle.lie_const.specs.Adjoint.{basis_vector, basis_weight}
use Rattle.lie_weight.proofs.adjoint.weights.Given as goal

abbrev pub invariant-loop-place : goal.invariant-loop-place
invariant-loop-place l = l.weights.items ≡ map (λ a. basis_weight l.datum (basis_vector l.datum a)) (range_with_len 0 l.place)
