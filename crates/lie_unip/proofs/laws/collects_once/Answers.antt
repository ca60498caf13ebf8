use Rattle.std.proofs.Common.{length}
use Rattle.lie_letters.specs.PositiveTerms.{positive_terms}
use Rattle.lie_unip.proofs.DatumLemmas.{datum_collectable}
use Rattle.lie_unip.proofs.CarriedLemmas.{IsCollected-once}
use Rattle.lie_unip.proofs.FullWordLemmas.{IsCollected-exists}
use Rattle.lie_unip.proofs.laws.collects_once.Goals as goal

pub returns : goal.returns
returns g c = λ r d t loaded loads. record {
  exists = λ before order w l. IsCollected-exists (g.R.Ring.ring r) (g.met.R.Ring.is_ring r) (length d.positive) (positive_terms t) (datum_collectable d loaded t loads) before order w l.1;
  once = λ before w u v. IsCollected-once (g.R.Ring.ring r) (positive_terms t) before (length d.positive) w u v;
}
