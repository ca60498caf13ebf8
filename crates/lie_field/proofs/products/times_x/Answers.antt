use Rattle.lie_field.proofs.ProductLemmas.{times_x_value}
use Rattle.lie_field.proofs.products.times_x.Goals as goal

pub returns-clause-value : goal.returns-clause-value
returns-clause-value c f d is =
    times_x_value f d c.args.m.now c.args.a c.multiple_of.result c.sum_of.result is c.requires.a_below c.multiple_of.ensures.value c.sum_of.ensures.value
