-- Words without some letters whose element is 0.
use Rattle.std.specs.Prelude.{ℕ, List, [], ◌∷◌}
use Rattle.lie_ring.specs.Rings.{RingOn}
use Rattle.lie_letters.specs.RingLetters.{RingLetter}

-- the second word is the first without some letters whose element is 0
pub data Dropped {A : Type 0} (R : RingOn A) : List (RingLetter A) → List (RingLetter A) → Type 0 where
  nothing : Dropped R [] []
  kept : {w v : List (RingLetter A)} (x : RingLetter A) → Dropped R w v → Dropped R (x ∷ w) (x ∷ v)
  dropped : {w v : List (RingLetter A)} (r : ℕ) → Dropped R w v → Dropped R ((r, R.zero) ∷ w) v
