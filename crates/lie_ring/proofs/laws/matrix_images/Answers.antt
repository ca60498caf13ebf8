use Rattle.lie_ring.proofs.MatrixAlgebraLemmas.{matrix_images-of}
use Rattle.lie_ring.proofs.laws.matrix_images.Goals as goal

pub returns : goal.returns
returns g c = matrix_images-of _ _ _ (g.met.H.Src.Ring.is_ring _) (g.met.H.Hom.is_hom c.args.hom.now)
