-- How a weight pairs with the coroots, and minuscule weights.
-- Source: Bourbaki, Groupes et algèbres de Lie, VIII, 7, 3 (minuscule weights); 0 is minuscule here.
-- Own: where the first root with a large pairing stands.
--
--   <x, r^>                    coroot_pairing d x r          r is a signed number
--   <x, r^> > 1 or < -1        HasLargePairing d x r
--   x is minuscule             IsMinuscule d x               no root has a large pairing with it
use Rattle.std.specs.Prelude.{◌<◌, ◌≤◌, ℤ, length, unsigned_abs}
use Rattle.lie_datum.specs.Vectors.{Vector, pairing}
use Rattle.lie_datum.specs.RootDatum.{covector}
use Rattle.lie_datum.specs.RootList.{RootDatum, root_of, IsNumber}
use Rattle.lie_datum.specs.Numbers.{place}

-- the pairing of a weight with the coroot of r
abbrev pub coroot_pairing : RootDatum → Vector → ℤ → ℤ
coroot_pairing d x r = pairing x (covector d.base (root_of d r))

-- x pairs with each coroot to -1, 0 or 1
abbrev pub IsMinuscule : RootDatum → Vector → Type 0
IsMinuscule d x = (r : ℤ) → IsNumber d r → unsigned_abs (coroot_pairing d x r) ≤ 1

-- x pairs with the coroot of r to more than 1, or to less than -1
abbrev pub HasLargePairing : RootDatum → Vector → ℤ → Type 0
HasLargePairing d x r = 1 < unsigned_abs (coroot_pairing d x r)

-- r is the first root in the full order whose coroot does
pub record IsFirstLargePairing (d : RootDatum) (x : Vector) (r : ℤ) : Type 0 where
  pub number : IsNumber d r
  pub large : HasLargePairing d x r
  pub before : (s : ℤ) → IsNumber d s → place (length d.positive) s < place (length d.positive) r → ¬ HasLargePairing d x s
