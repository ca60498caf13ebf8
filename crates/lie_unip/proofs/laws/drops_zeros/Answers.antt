use Rattle.std.proofs.Common.{length}
use Rattle.lie_letters.specs.PositiveTerms.{positive_terms}
use Rattle.lie_unip.proofs.DatumLemmas.{datum_collectable}
use Rattle.lie_unip.proofs.ZeroLemmas.{IsCollected-dropped}
use Rattle.lie_unip.proofs.FullWordLemmas.{IsCollected-added}
use Rattle.lie_unip.proofs.laws.drops_zeros.Goals as goal

pub returns : goal.returns
returns g c = λ r d t loaded loads.
    let R = g.R.Ring.ring r in
    let ring = g.met.R.Ring.is_ring r in
    let collectable = datum_collectable d loaded t loads in
    record {
      without = λ before order w v u e l. IsCollected-dropped R ring (length d.positive) (positive_terms t) collectable before order w v u e l.0 l.1;
      with = IsCollected-added R ring (length d.positive) (positive_terms t) collectable;
    }
