use Rattle.lie_field.proofs.digits.+sum_of.Given as goal

abbrev pub decreases-sum_of : goal.decreases-sum_of
decreases-sum_of l = l.k
