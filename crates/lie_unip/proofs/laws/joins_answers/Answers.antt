use Rattle.std.proofs.Common.{length}
use Rattle.lie_letters.specs.PositiveTerms.{positive_terms}
use Rattle.lie_unip.proofs.DatumLemmas.{datum_collectable}
use Rattle.lie_unip.proofs.JoinedLemmas.{collected_joined, split_joined}
use Rattle.lie_unip.proofs.WordLemmas.{word_lawful}
use Rattle.lie_unip.proofs.laws.joins_answers.Goals as goal

pub returns : goal.returns
returns g c = λ r d t loaded loads.
    let R = g.R.Ring.ring r in
    let ring = g.met.R.Ring.is_ring r in
    let m = length d.positive in
    let collectable = datum_collectable d loaded t loads in
    record {
      collected = λ w u l. collected_joined R ring m (positive_terms t) collectable w u l.0 l.1;
      split = λ kept u v w e s. let l = word_lawful R ring m u e in split_joined R ring m (positive_terms t) collectable kept u v w l.0 l.1 s;
    }
