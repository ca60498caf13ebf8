-- The first entry of a module that is not graded, among those of a column, of a divided power and of a root.
-- For proofs: no public clause cites it.
-- Own: the order: by the power k, then the column, then the row.
use Rattle.std.specs.Prelude.{◌≡◌, ◌⊎◌, ℕ, ◌<◌, ℤ}
use Rattle.lie_datum.specs.RootList.{RootDatum}
use Rattle.lie_const.specs.Modules.{Module}
use Rattle.lie_identities.specs.Audit.{IsUngraded, IsEntryBefore}

-- all entries of E_r^(k) in a column are graded
abbrev pub IsGradedColumn : RootDatum → Module → ℤ → ℕ → ℕ → Type 0
IsGradedColumn d v r k b = (a : ℕ) → ¬ IsUngraded d v r k a b

-- the first in a column that is not stands in row a
pub record IsFirstInColumn (d : RootDatum) (v : Module) (r : ℤ) (k b a : ℕ) : Type 0 where
  pub here : IsUngraded d v r k a b
  pub earlier : (i : ℕ) → i < a → ¬ IsUngraded d v r k i b

-- all entries of E_r^(k) are graded
abbrev pub IsGradedPower : RootDatum → Module → ℤ → ℕ → Type 0
IsGradedPower d v r k = (a b : ℕ) → ¬ IsUngraded d v r k a b

-- the first that is not stands in row a and column b
pub record IsFirstInPower (d : RootDatum) (v : Module) (r : ℤ) (k a b : ℕ) : Type 0 where
  pub here : IsUngraded d v r k a b
  pub earlier : (i j : ℕ) → IsEntryBefore i j a b → ¬ IsUngraded d v r k i j

-- all divided powers of r are graded
abbrev pub IsGradedRoot : RootDatum → Module → ℤ → Type 0
IsGradedRoot d v r = (k a b : ℕ) → ¬ IsUngraded d v r k a b

-- the first entry that is not is one of E_r^(k), in row a and column b
pub record IsFirstAtRoot (d : RootDatum) (v : Module) (r : ℤ) (k a b : ℕ) : Type 0 where
  pub here : IsUngraded d v r k a b
  pub earlier : (l i j : ℕ) → (l < k) ⊎ ((l ≡ k) × IsEntryBefore i j a b) → ¬ IsUngraded d v r l i j
