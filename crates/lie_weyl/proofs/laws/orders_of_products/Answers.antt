use Rattle.lie_weyl.proofs.OrderLemmas.{order_of_product}
use Rattle.lie_weyl.proofs.laws.orders_of_products.Goals as goal

pub returns : goal.returns
returns c = order_of_product
