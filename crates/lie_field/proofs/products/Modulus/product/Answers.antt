use Rattle.lie_field.proofs.ProductLemmas.{product_is}
use Rattle.lie_field.proofs.products.Modulus.product.Goals as goal

pub returns-clause-value : goal.returns-clause-value
returns-clause-value c f d is = product_is f d c.args.self.now c.args.a c.args.b c.product_of.result is (c.product_of.ensures.value f d is)
