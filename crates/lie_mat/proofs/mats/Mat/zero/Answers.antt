use Rattle.std.proofs.Common.{sym, subst}
use Rattle.lie_ring.specs.Matrices.{AllFit}
use Rattle.lie_mat.specs.PartLemmas.{zeros-fit}
use Rattle.lie_mat.proofs.mats.Mat.zero.Goals as goal

pub returns-in-Ok-clause-fit : goal.returns-in-Ok-clause-fit
returns-in-Ok-clause-fit g c = λ r. subst (AllFit (g.R.Ring.ring r)) (sym c.in-Ok.ensures) (zeros-fit (g.R.Ring.ring r) (g.met.R.Ring.is_ring r) g.R.Ring.zero (sym (g.met.R.Ring.one_zero r)) c.args.rows c.args.cols)
