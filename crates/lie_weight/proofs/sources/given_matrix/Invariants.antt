use Rattle.std.proofs.Common.{◌≡◌, ◌-◌, drop}
use Rattle.lie_ring.specs.Integers.{integers}
use Rattle.lie_ring.specs.Matrices.{AllFit}
use Rattle.lie_weight.specs.Tables.{given_matrix}
use Rattle.lie_weight.proofs.sources.given_matrix.Given as goal

abbrev pub invariant-loop-past : goal.invariant-loop-past
invariant-loop-past l = (l.matrix ≡ given_matrix l.size (drop (l.count - l.past) l.entries) l.root l.power) × AllFit integers l.matrix
