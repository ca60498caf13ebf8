use Rattle.test_audits.proofs.ModuleLemmas.{tensor_shape, tensor_light}
use Rattle.test_audits.proofs.tables.product.Goals as goal

pub returns : goal.returns
returns c = record {
  shape = tensor_shape c.args.datum.now c.args.a.now c.args.b.now c.tensor.result c.tensor.ensures;
  light = tensor_light c.args.datum.now c.args.a.now c.args.b.now c.tensor.result c.tensor.ensures;
}
