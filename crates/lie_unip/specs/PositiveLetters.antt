-- Letters at positive roots, by signed numbers.
use Rattle.std.specs.Prelude.{ℤ, pos, ◌<ℤ◌, nat_abs, List, map}
use Rattle.std.specs.List.{AllByRecursion}
use Rattle.lie_datum.specs.RootList.{RootDatum, IsNumber}
use Rattle.lie_ring.specs.Rings.{RingOn, Fits}
use Rattle.lie_letters.specs.RingLetters.{RingLetter}

-- each letter is at a positive root, and has an element that fits
abbrev pub ArePositiveLetters : {A : Type 0} → RingOn A → RootDatum → List (ℤ × A) → Type 0
ArePositiveLetters R d w = AllByRecursion (λ x. IsNumber d x.0 × (pos 0 <ℤ x.0) × Fits R x.1) w

-- the letters by the places of their roots, counted from 1
abbrev pub by_place : {A : Type 0} → List (ℤ × A) → List (RingLetter A)
by_place w = map (λ x. (nat_abs x.0, x.1)) w
