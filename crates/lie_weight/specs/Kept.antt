-- How a module is kept.
-- Own: the bounds.
use Rattle.std.specs.Prelude.{◌≡◌, ℕ, ◌-◌, ◌*◌, ◌≤◌, ℤ, pos, List, map, length}
use Rattle.std.specs.List.{All}
use Rattle.lie_ring.specs.Integers.{integers}
use Rattle.lie_ring.specs.Matrices.{Matrix, AllFit, IsShaped}
use Rattle.lie_datum.specs.RootDatum.{IsWithin}
use Rattle.lie_const.specs.Modules.{Module, dimension}
use Rattle.lie_weight.specs.declared.modules.Module.TheInside.{Inside}

-- what the fields of a `Module` stand for
abbrev pub kept_module : Inside → Module
kept_module a = record { positive = a.positive; weights = a.weights.items; powers = map (λ v. v.items) a.powers.items }

-- a square matrix of size n, with entries that calls may be handed
pub record IsSquare (n : ℕ) (M : Matrix ℤ) : Type 0 where
  pub height : M.height ≡ n
  pub width : M.width ≡ n
  pub shaped : IsShaped (pos 0) M
  pub fit : AllFit integers M

-- square matrices of size n, at most 16 (n - 1) of them
pub record ArePowers (n : ℕ) (Ms : List (Matrix ℤ)) : Type 0 where
  pub few : length Ms ≤ 16 * (n - 1)
  pub squares : All (IsSquare n) Ms

-- what holds of the fields: a list of matrices for each root, at most 120 positive roots, at most 1,024 basis vectors, and weights within 1,000,000
pub record IsKeptModule (v : Module) : Type 0 where
  pub small : v.positive ≤ 120
  pub narrow : dimension v ≤ 1024
  pub light : All (IsWithin 1000000) v.weights
  pub roots : length v.powers ≡ 2 * v.positive
  pub powers : All (ArePowers (dimension v)) v.powers
