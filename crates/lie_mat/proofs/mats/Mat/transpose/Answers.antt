use Rattle.lie_mat.proofs.mats.Mat.transpose.Goals as goal

pub returns-clause-value : goal.returns-clause-value
returns-clause-value g c = rw (c.cols.ensures.cols, c.rows.ensures.rows) at c.build.ensures.value
