-- The entries of the divided powers of a module, by root and column, as lists.
-- For proofs: no public clause cites it.
-- Own: the lists, by rising power, then row.
--
--   the entry n of E_r^(k) in row a           step k a n
--   those of E_r^(k) in column b              steps_in v r b k
--   those of E_r^(1), E_r^(2), ..             steps_of v r b
use Rattle.std.specs.Prelude.{◌≡◌, ℕ, suc, ◌*◌, ◌^◌, ◌<◌, ◌≤◌, ℤ, pos, nat_abs, List, [], ◌∷◌, cond, map}
use Rattle.std.specs.List.{flat_map, range_with_len}
use Rattle.std.specs.Ordering.{int_eq}
use Rattle.lie_ring.specs.Matrices.{entry}
use Rattle.lie_datum.specs.Numbers.{number_at}
use Rattle.lie_const.specs.Modules.{Module, dimension, top, divided_power}
use Rattle.lie_identities.specs.declared.steps.Step.{Step}

-- the entry n of a power k in a row a
abbrev pub step : ℕ → ℕ → ℤ → Step
step k a n = record { power = k; row = a; value = n }

-- the entry of E_r^(k) in row a and column b, unless it is 0
abbrev pub step_at : Module → ℤ → ℕ → ℕ → ℕ → List Step
step_at v r b k a = cond (int_eq (entry (pos 0) (divided_power v r k) a b) (pos 0)) [] (step k a (entry (pos 0) (divided_power v r k) a b) ∷ [])

-- those of E_r^(k), by rising row
abbrev pub steps_in : Module → ℤ → ℕ → ℕ → List Step
steps_in v r b k = flat_map (step_at v r b k) (range_with_len 0 (dimension v))

-- those of E_r^(1), E_r^(2), ..
abbrev pub steps_of : Module → ℤ → ℕ → List Step
steps_of v r b = flat_map (steps_in v r b) (range_with_len 1 (top v r))

-- those of a root, by column
abbrev pub root_steps : Module → ℤ → List (List Step)
root_steps v r = map (steps_of v r) (range_with_len 0 (dimension v))

-- those of all roots, by the place in the full order
abbrev pub all_steps : Module → List (List (List Step))
all_steps v = map (λ h. root_steps v (number_at v.positive h)) (range_with_len 0 (2 * v.positive))

-- an entry of E_r^(k) in the column b
pub record IsStepOf (v : Module) (r : ℤ) (b : ℕ) (s : Step) : Type 0 where
  pub first : 1 ≤ s.power
  pub last : s.power ≤ top v r
  pub row : s.row < dimension v
  pub value : s.value ≡ entry (pos 0) (divided_power v r s.power) s.row b

-- the entries of the first n divided powers in a column may be handed to a call
abbrev pub HasSmallColumn : Module → ℤ → ℕ → ℕ → Type 0
HasSmallColumn v r n b = (k a : ℕ) → k < n → a < dimension v → nat_abs (entry (pos 0) (divided_power v r (suc k)) a b) < 2 ^ 126

-- those of all that are kept, in the first n columns
abbrev pub HasSmallColumns : Module → ℤ → ℕ → Type 0
HasSmallColumns v r n = (b : ℕ) → b < n → HasSmallColumn v r (top v r) b

-- those of all roots
abbrev pub HasSmallEntries : Module → Type 0
HasSmallEntries v = (r : ℤ) → HasSmallColumns v r (dimension v)

-- at most 16,384 matrices are kept for a root
abbrev pub HasFewPowers : Module → Type 0
HasFewPowers v = (r : ℤ) → top v r ≤ 16384
