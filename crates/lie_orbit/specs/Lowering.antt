-- Lowering of a weight: while a root pairs with a weight to 2 or more, the first such root is taken away,
-- half as often as it pairs.
-- Source: Humphreys, Introduction to Lie Algebras and Representation Theory, 13 (exercises: each class of weights modulo the roots has a member that pairs with all coroots to -1, 0 or 1).
-- Own: which root is taken away first, and how often.
--
--   floor(m / 2)     IsHalf m c                  c is that number
--   x - c r          less_root d x c r
--   x lowers to y    Lowers d x y                no root pairs with y to 2 or more, and the steps lead from x to it
use Rattle.std.specs.Prelude.{◌<◌, ℤ, pos, neg_ℤ, ◌+ℤ◌, ◌*ℤ◌, ◌≤ℤ◌, length}
use Rattle.lie_datum.specs.Vectors.{Vector, plus, times}
use Rattle.lie_datum.specs.RootDatum.{vector}
use Rattle.lie_datum.specs.RootList.{RootDatum, root_of, IsNumber}
use Rattle.lie_datum.specs.Numbers.{place}
use Rattle.lie_orbit.specs.Weights.{coroot_pairing}

-- c is the greatest number that is not above m / 2
abbrev pub IsHalf : ℤ → ℤ → Type 0
IsHalf m c = ((pos 2 *ℤ c) ≤ℤ m) × (m ≤ℤ (pos 2 *ℤ c +ℤ pos 1))

-- r pairs with x to 2 or more
abbrev pub IsHighRoot : RootDatum → Vector → ℤ → Type 0
IsHighRoot d x r = pos 2 ≤ℤ coroot_pairing d x r

-- no root does
abbrev pub IsLow : RootDatum → Vector → Type 0
IsLow d x = (r : ℤ) → IsNumber d r → ¬ IsHighRoot d x r

-- r is the first root in the full order that does
pub record IsFirstHigh (d : RootDatum) (x : Vector) (r : ℤ) : Type 0 where
  pub number : IsNumber d r
  pub high : IsHighRoot d x r
  pub before : (s : ℤ) → IsNumber d s → place (length d.positive) s < place (length d.positive) r → ¬ IsHighRoot d x s

-- x - c r
abbrev pub less_root : RootDatum → Vector → ℤ → ℤ → Vector
less_root d x c r = plus x (times (neg_ℤ c) (vector d.base (root_of d r)))

-- x lowers to y
pub data Lowers (d : RootDatum) : Vector → Vector → Type 0 where
  low : (x : Vector) → IsLow d x → Lowers d x x
  step : (x y : Vector) (r c : ℤ) → IsFirstHigh d x r → IsHalf (coroot_pairing d x r) c → Lowers d (less_root d x c r) y → Lowers d x y
