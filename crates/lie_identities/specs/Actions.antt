-- The factors of a side with the powers of their polynomials, which the columns are multiplied with.
-- For proofs: no public clause cites it.
-- Own: the powers f, f^2, .. are made once for a side.
--
--   the factor that an action stands for       factor_of x
--   it has the powers that a module needs       HasPowersFor v x
use Rattle.std.specs.Prelude.{ℕ, ◌+◌, ◌*◌, ◌^◌, ◌<◌, ◌≤◌, List, map}
use Rattle.std.specs.List.{All}
use Rattle.std.specs.Global.{Vec}
use Rattle.lie_ring.specs.Rings.{Fits}
use Rattle.lie_ring.specs.Powers.{power}
use Rattle.lie_datum.specs.RootList.{RootDatum, IsNumber}
use Rattle.lie_const.specs.Modules.{Module, top}
use Rattle.lie_poly.specs.Polynomials.{Polynomial, laurent, size, degree}
use Rattle.lie_identities.specs.AuditRelations.{Factor, RootElement, CorootElement}
use Rattle.lie_identities.specs.Columns.{IsNarrowSide}
use Rattle.lie_identities.specs.Moves.{base_of, HasPowers}

-- the factor whose polynomial is the first of the powers
abbrev pub factor_of : Factor (Vec Polynomial) → Factor Polynomial
factor_of (RootElement r ps) = RootElement r (base_of ps.items)
factor_of (CorootElement i) = CorootElement i

-- there is a power for each matrix that is kept for the root
abbrev pub HasPowersFor : Module → Factor (Vec Polynomial) → Type 0
HasPowersFor v (RootElement r ps) = HasPowers (top v r) ps.items
HasPowersFor v (CorootElement i) = Unit {0}

-- f, f^2, .. up to f^n can be made, and no product is too wide
pub record HasNarrowPowers (f : Polynomial) (n : ℕ) : Type 0 where
  pub fits : Fits laurent f
  pub sizes : (k : ℕ) → 1 ≤ k → k < n → size (power laurent f k) * size f < 2 ^ 126
  pub degrees : (k : ℕ) → 1 ≤ k → k < n → degree (power laurent f k) + degree f < 2 ^ 30

-- so can those of a factor
abbrev pub IsNarrowFactor : RootDatum → Module → Factor Polynomial → Type 0
IsNarrowFactor d v (RootElement r f) = IsNumber d r × HasNarrowPowers f (top v r)
IsNarrowFactor d v (CorootElement i) = Unit {0}

-- the factors of a side that is not large, with their powers
pub record AreActions (d : RootDatum) (v : Module) (xs : List (Factor (Vec Polynomial))) : Type 0 where
  pub narrow : IsNarrowSide d v (map factor_of xs)
  pub powers : All (HasPowersFor v) xs
