-- What follows from the definitions of lowering, of orbits and of roots alone.
-- Source: Humphreys, Introduction to Lie Algebras and Representation Theory, 9.4 (sums of roots).
use Rattle.std.specs.Prelude.{◌≡◌, ℕ, ◌<◌, pos, List, [], ◌∷◌, length}
use Rattle.std.specs.List.{Contains}
use Rattle.lie_datum.specs.Vectors.{Vector, plus, entry}
use Rattle.lie_datum.specs.declared.root_pair.Root.{Root}
use Rattle.lie_datum.specs.RootDatum.{Base, vector, IsRoot}
use Rattle.lie_datum.specs.RootList.{RootDatum, IsLoaded}
use Rattle.lie_orbit.specs.Weights.{IsMinuscule}
use Rattle.lie_orbit.specs.Lowering.{Lowers}
use Rattle.lie_orbit.specs.Orbits.{IsOrbit, IsOrbitSize}

-- a weight lowers to one weight
abbrev pub LowersOneWay : Type 0
LowersOneWay = (d : RootDatum) (x y z : Vector) → Lowers d x y → Lowers d x z → y ≡ z

-- the sum of the vectors of these roots
abbrev pub root_sum : Base → List Root → Vector
root_sum b [] = []
root_sum b (r ∷ rs) = plus (vector b r) (root_sum b rs)

-- all entries are 0
abbrev pub IsZero : Vector → Type 0
IsZero x = (k : ℕ) → entry x k ≡ pos 0

-- a sum of roots that is minuscule is 0
abbrev pub SmallSumsVanish : Type 0
SmallSumsVanish = (d : RootDatum) (rs : List Root) → IsLoaded d → ((r : Root) → Contains rs r → IsRoot d.base r) → IsMinuscule d (root_sum d.base rs) → IsZero (root_sum d.base rs)

-- the orbit of a weight is one list
abbrev pub OrbitsAreOneList : Type 0
OrbitsAreOneList = (d : RootDatum) (w : Vector) (xs ys : List Vector) → IsOrbit d w xs → IsOrbit d w ys → xs ≡ ys

-- a list of an orbit, of less than 1,025 members, has as many as the orbit has
abbrev pub OrbitsHaveOneSize : Type 0
OrbitsHaveOneSize = (d : RootDatum) (w : Vector) (ws : List Vector) (n : ℕ) → IsOrbit d w ws → length ws < 1025 → IsOrbitSize d w n → n ≡ length ws
