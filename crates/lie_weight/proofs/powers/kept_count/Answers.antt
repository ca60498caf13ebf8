use Rattle.lie_weight.proofs.powers.kept_count.Goals as goal

pub same-requires-clause-b_fit : goal.same-requires-clause-b_fit
same-requires-clause-b_fit c = c.in_ok-zero.ensures.fit (record {})
