use Rattle.std.proofs.Common.{◌≡◌, ◌<◌, ◌^◌, nat_abs}
use Rattle.lie_weight.specs.TensorParts.{tensor_sum}
use Rattle.lie_weight.proofs.tensor_powers.ProductRule.sum.Given as goal

abbrev pub invariant-loop-i : goal.invariant-loop-i
invariant-loop-i l = (l.sum ≡ tensor_sum l.self.sizes l.self.first.now l.self.second.now l.self.root l.self.power l.row l.col l.i) × (nat_abs l.sum < 2 ^ 126)
