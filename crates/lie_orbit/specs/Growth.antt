-- The growth of the orbit of a minuscule weight.
-- For proofs: no public clause cites it.
use Rattle.std.specs.Prelude.{◌≡◌, ℕ, ◌≤◌, ◌<◌, ◌*◌, ◌^◌, List, [], ◌++◌, length, slice_index_or}
use Rattle.std.specs.List.{Contains}
use Rattle.lie_datum.specs.Vectors.{Vector}
use Rattle.lie_datum.specs.RootDatum.{IsSimpleIndex, IsWithin}
use Rattle.lie_datum.specs.RootList.{RootDatum}
use Rattle.lie_orbit.specs.Weights.{IsMinuscule}
use Rattle.lie_orbit.specs.Orbits.{IsReached, reflected_weight, AreDistinct, IsNear}

-- the weight that the growth began with
abbrev pub first_weight : List Vector → Vector
first_weight ws = slice_index_or ws 0 []

-- different members of the orbit of the first, which is minuscule; each coordinate is at most 100 above that of an earlier one
pub record IsGrowing (d : RootDatum) (ws : List Vector) : Type 0 where
  pub some : 1 ≤ length ws
  pub minuscule : IsMinuscule d (first_weight ws)
  pub small : IsWithin (2 * 10 ^ 32) (first_weight ws)
  pub reached : (x : Vector) → Contains ws x → IsReached d (first_weight ws) x
  pub near : (k : ℕ) (z : Vector) → k < length ws → IsNear (first_weight ws) (100 * k) (slice_index_or ws k z)
  pub distinct : AreDistinct ws
  pub short : length ws ≤ 1025

-- the image under s_i of the weight at k is in the list
abbrev pub HasImage : RootDatum → List Vector → ℕ → ℕ → Type 0
HasImage d ws k i = (z : Vector) → Contains ws (reflected_weight d i (slice_index_or ws k z))

-- the images under all simple reflections of the weight at k are in the list
abbrev pub HasImages : RootDatum → List Vector → ℕ → Type 0
HasImages d ws k = (i : ℕ) → IsSimpleIndex d.base i → HasImage d ws k i

-- ys is xs with more at the end
abbrev pub StartsWith : List Vector → List Vector → Type 0
StartsWith ys xs = (zs : List Vector) × (ys ≡ xs ++ zs)

-- the list holds the images of all its members
abbrev pub HasAllImages : RootDatum → List Vector → Type 0
HasAllImages d ws = (k : ℕ) → k < length ws → HasImages d ws k

-- the list holds the images of all its members, or has 1,025 members
abbrev pub IsGrown : RootDatum → List Vector → Type 0
IsGrown d ws = length ws < 1025 → HasAllImages d ws
