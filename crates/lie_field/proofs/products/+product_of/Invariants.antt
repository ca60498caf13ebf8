use Rattle.lie_field.proofs.products.+product_of.Given as goal

abbrev pub decreases-product_of : goal.decreases-product_of
decreases-product_of l = l.count
