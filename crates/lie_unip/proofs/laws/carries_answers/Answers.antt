use Rattle.lie_letters.specs.PositiveTerms.{positive_terms}
use Rattle.lie_unip.proofs.CarriedLemmas.{answers_carried}
use Rattle.lie_unip.proofs.laws.carries_answers.Goals as goal

pub returns : goal.returns
returns g c = λ h t.
    answers_carried _ _ _ (g.met.H.Src.Ring.is_ring (g.H.Hom.source h)) (g.met.H.Dst.Ring.is_ring (g.H.Hom.target h)) (g.met.H.Hom.is_hom h) (positive_terms t)
