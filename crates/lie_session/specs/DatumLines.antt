-- The lines of a datum: `datum d l`, then l simple roots and l simple coroots.
-- Own.
use Rattle.std.specs.Prelude.{ℕ, ◌-◌, Bool, nat_eq, nat_lt, if◌then◌else◌, ℤ, pos, List, [], ◌∷◌, ◌++◌, length, replicate}
use Rattle.lie_datum.specs.RootDatum.{Base}
use Rattle.lie_datum.specs.Vectors.{Vector}
use Rattle.lie_script.specs.declared.sizes.Wants.{Wants}
use Rattle.lie_script.specs.declared.sizes.Wants.TheVariants as wants

-- the lines that were read so far
pub record DatumLines : Type 0 where
  pub dim : ℕ
  pub rank : ℕ
  pub roots : List Vector
  pub coroots : List Vector

-- the line `datum d l` alone
abbrev pub opened : ℕ → ℕ → DatumLines
opened d l = record { dim = d; rank = l; roots = []; coroots = [] }

-- a vector with zeros past the dimension
abbrev pub padded : List ℤ → Vector
padded v = v ++ replicate (8 - length v) (pos 0)

-- one simple root more
abbrev pub with_root : DatumLines → List ℤ → DatumLines
with_root lines v = record lines { roots = lines.roots ++ padded v ∷ [] }

-- one simple coroot more
abbrev pub with_coroot : DatumLines → List ℤ → DatumLines
with_coroot lines v = record lines { coroots = lines.coroots ++ padded v ∷ [] }

-- no line is missing
abbrev pub is_whole : DatumLines → Bool
is_whole lines = nat_eq (length lines.coroots) lines.rank

-- what is awaited: the simple roots, then the simple coroots
abbrev pub datum_wants : DatumLines → Wants
datum_wants lines = if nat_lt (length lines.roots) lines.rank then wants.Root else wants.Coroot

-- the simple roots and coroots of the lines
abbrev pub base_of : DatumLines → Base
base_of lines = record { dim = lines.dim; roots = lines.roots; coroots = lines.coroots }
