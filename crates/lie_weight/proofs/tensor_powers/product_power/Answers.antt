use Rattle.std.proofs.Common.{◌∙◌}
use Rattle.lie_weight.proofs.TensorLemmas.{power-table, product_square}
use Rattle.lie_weight.proofs.tensor_powers.product_power.Goals as goal

pub returns-in-Ok-clause-value : goal.returns-in-Ok-clause-value
returns-in-Ok-clause-value c = c.in-Ok.ensures.value ∙ power-table c.args.first.now c.args.second.now c.args.root c.args.power

pub returns-in-Ok-clause-square : goal.returns-in-Ok-clause-square
returns-in-Ok-clause-square c = product_square c.args.first.now c.args.second.now c.args.root c.args.power c.in-Ok.matrix c.in-Ok.ensures.value c.in-Ok.ensures.fit
