-- The entries of a column that are not zero, which are those that a matrix keeps, one after the other.
-- Own: a column is read from above, and rows count from 0.
--
--   M_k = 0 in a column, a <= k < b     AreZeros z M col a b
--   the next entry that is not zero     IsNextKept z M col from row e       e in row `row`, the first from row `from` on
use Rattle.std.specs.Prelude.{◌≡◌, ◌≢◌, ℕ, ◌<◌, ◌≤◌}
use Rattle.lie_ring.specs.Matrices.{Matrix, entry}

-- the entries of a column in the rows from a on below b are zero
abbrev pub AreZeros : {A : Type 0} → A → Matrix A → ℕ → ℕ → ℕ → Type 0
AreZeros z M col a b = (k : ℕ) → a ≤ k → k < b → entry z M k col ≡ z

-- from a row on, the first entry of a column that is not zero is e, in this row
pub record IsNextKept {A : Type 0} (z : A) (M : Matrix A) (col from row : ℕ) (e : A) : Type 0 where
  pub after : from ≤ row
  pub within : row < M.height
  pub here : e ≡ entry z M row col
  pub nonzero : e ≢ z
  pub before : AreZeros z M col from row
