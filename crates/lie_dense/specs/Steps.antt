-- The table of the sums x + a y of the elements of a small field.
-- For proofs: no public clause cites it.
-- Own: the order of the entries: a runs last, then x, then y.
use Rattle.std.specs.Prelude.{◌≡◌, ℕ, ◌*◌, ◌/◌, ◌%◌, ◌<◌, ◌≤◌, ◌⊎◌, List, length, slice_index_or}
use Rattle.lie_field.specs.FiniteField.{FiniteField}
use Rattle.lie_field.specs.Quotient.{order, add, mul}

-- the sum in the place k = (a q + x) q + y
abbrev pub step : FiniteField → ℕ → ℕ
step f k = add f.given (k / order f.given % order f.given) (mul f.given (k / order f.given / order f.given) (k % order f.given))

-- the list has all sums
pub record HasSteps (f : FiniteField) (steps : List ℕ) : Type 0 where
  pub few : order f.given ≤ 16
  pub count : length steps ≡ order f.given * order f.given * order f.given
  pub each : (k : ℕ) → k < length steps → slice_index_or steps k 0 ≡ step f k

-- the list has all sums, or is empty
abbrev pub AreSteps : FiniteField → List ℕ → Type 0
AreSteps f steps = (length steps ≡ 0) ⊎ HasSteps f steps
