use Rattle.lie_ring.proofs.MatrixAlgebraLemmas.{matrix_laws-of}
use Rattle.lie_ring.proofs.laws.matrix_laws.Goals as goal

pub returns : goal.returns
returns g c = matrix_laws-of _ (g.met.R.Ring.is_ring c.args.ring.now)
