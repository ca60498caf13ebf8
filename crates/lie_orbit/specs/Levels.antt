-- The levels of weights, by which the members of an orbit are sorted.
-- For proofs: no public clause cites it.
use Rattle.std.specs.Prelude.{◌≡◌, ℤ}
use Rattle.lie_datum.specs.Vectors.{Vector, pairing}
use Rattle.lie_datum.specs.RootList.{RootDatum}
use Rattle.lie_datum.specs.Laws.{positive_coroots}
use Rattle.lie_orbit.specs.declared.levels.Leveled.{Leveled}

-- the pairing with the sum of the positive coroots
abbrev pub level : RootDatum → Vector → ℤ
level d x = pairing x (positive_coroots d)

-- the weight without its level
abbrev pub leveled_weight : Leveled → Vector
leveled_weight p = p.weight.0

-- the level that is kept is that of the weight
abbrev pub IsLeveled : RootDatum → Leveled → Type 0
IsLeveled d p = p.level.0 ≡ level d p.weight.0
