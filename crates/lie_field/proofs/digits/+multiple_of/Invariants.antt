use Rattle.lie_field.proofs.digits.+multiple_of.Given as goal

abbrev pub decreases-multiple_of : goal.decreases-multiple_of
decreases-multiple_of l = l.k
