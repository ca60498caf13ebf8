use Rattle.test_modules.proofs.matrices.zero.Goals as goal

pub returns : goal.returns
returns c = c.in_ok-zero.ensures.fit _
