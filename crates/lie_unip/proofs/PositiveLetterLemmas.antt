-- Letters at positive roots are letters over the ring.
use Rattle.std.proofs.Common.{ℤ, List, [], ◌∷◌, length}
use Rattle.std.specs.List.{AllByRecursion}
use Rattle.lie_ring.specs.Rings.{RingOn, Fits}
use Rattle.lie_datum.specs.RootList.{RootDatum}
use Rattle.lie_letters.specs.RingLetters.{IsRingWord}
use Rattle.lie_unip.specs.PositiveLetters.{ArePositiveLetters, by_place}
use Rattle.lie_unip.proofs.DatumLemmas.{number_within}

module _ {A : Type 0} (R : RingOn A) (d : RootDatum) where
  -- by their places they are a word of letters over the ring
  pub lawful_letters : (w : List (ℤ × A)) → ArePositiveLetters R d w → IsRingWord R (length d.positive) (by_place w)
  lawful_letters [] h = (tt, tt)
  lawful_letters (x ∷ w) h =
      let rest = lawful_letters w h.1 in
      let l = number_within d x.0 h.0.0 in
      ((h.0.2.0, rest.0), (l.0, l.1, rest.1))

  -- their elements fit
  pub fitting_letters : (w : List (ℤ × A)) → ArePositiveLetters R d w → AllByRecursion (λ x. Fits R x.1) w
  fitting_letters [] h = tt
  fitting_letters (x ∷ w) h = (h.0.2, fitting_letters w h.1)
