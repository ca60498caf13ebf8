use Rattle.std.proofs.Common.{suc, ◌*◌}
use Rattle.lie_const.specs.Modules.{dimension}
use Rattle.lie_weight.specs.Tensors.{tensor_power}
use Rattle.lie_weight.proofs.DraftLemmas.{AreFirst}
use Rattle.lie_weight.proofs.tensor_powers.product_powers.Given as goal

abbrev pub invariant-loop-k : goal.invariant-loop-k
invariant-loop-k l = AreFirst (dimension l.first * dimension l.second) (λ j. tensor_power l.first l.second l.root (suc j)) l.k l.list.items
