-- Cover lines: combinations of the weights of a module that are the unit vector of an axis.
-- Own: at most one line is kept for an axis, the last one that was given, with whole numbers within 1,000,000.
--
--   the line c of axis j     line_of lines j ≡ Some c          axes count from 1
--   c is one for axis j      IsCombination v j c               the sum of c_a wt_a is e_j
--   what a new line does     AddsCover v lines j c result new
use Rattle.std.specs.Prelude.{◌≡◌, ◌≢◌, ℕ, ◌-◌, ◌<◌, ◌≤◌, ℤ, List, length, slice_index_or, slice_set, replicate, map, Option, None, Some, option_map, Result, Ok, Err, ⊤}
use Rattle.std.specs.Global.{Vec}
use Rattle.lie_datum.specs.Vectors.{combination, unit, entry}
use Rattle.lie_datum.specs.RootDatum.{IsWithin}
use Rattle.lie_datum.specs.RootList.{RootDatum}
use Rattle.lie_const.specs.Modules.{Module, dimension}
use Rattle.lie_identities.specs.declared.cover_lines.CoverSum.{CoverSum}

-- a line or none for each of 8 axes
abbrev pub CoverLines : Type 0
CoverLines = List (Option (List ℤ))

-- no axis has a line
abbrev pub no_lines : CoverLines
no_lines = replicate 8 None

-- the line of the axis j
abbrev pub line_of : CoverLines → ℕ → Option (List ℤ)
line_of lines j = slice_index_or lines (j - 1) None

-- the same lines, but c for the axis j
abbrev pub with_line : CoverLines → ℕ → List ℤ → CoverLines
with_line lines j c = slice_set lines (j - 1) (Some c)

-- the lines that an array has, entry by entry
abbrev pub lines_of : List (Option (Vec ℤ)) → CoverLines
lines_of kept = map (option_map (λ c. c.items)) kept

-- the coordinate k, counted from 0, of the sum of c_a wt_a
abbrev pub combination_entry : Module → List ℤ → ℕ → ℤ
combination_entry v c k = entry (combination c v.weights) k

-- a small whole number for each weight, and the sum of c_a wt_a is e_j
pub record IsCombination (v : Module) (j : ℕ) (c : List ℤ) : Type 0 where
  pub count : length c ≡ dimension v
  pub small : IsWithin 1000000 c
  pub sum : (k : ℕ) → k < 8 → combination_entry v c k ≡ entry (unit 8 j) k

-- the axis has a line
abbrev pub HasCoverLine : CoverLines → ℕ → Type 0
HasCoverLine lines j = (c : List ℤ) × (line_of lines j ≡ Some c)

-- the line of each axis of the datum is a combination for it
pub record AreCoverLines (d : RootDatum) (v : Module) (lines : CoverLines) : Type 0 where
  pub count : length lines ≡ 8
  pub each : (j : ℕ) (c : List ℤ) → 1 ≤ j → j ≤ d.base.dim → line_of lines j ≡ Some c → IsCombination v j c

-- coordinate i, counted from 1, is the first at which the sum of c_a wt_a is not that of e_j, and value is what it has there
pub record IsFirstDifferentCoordinate (v : Module) (j : ℕ) (c : List ℤ) (i : ℕ) (value : ℤ) : Type 0 where
  pub first : 1 ≤ i
  pub last : i ≤ 8
  pub here : value ≡ combination_entry v c (i - 1)
  pub different : value ≢ entry (unit 8 j) (i - 1)
  pub before : (k : ℕ) → k < i - 1 → combination_entry v c k ≡ entry (unit 8 j) k

-- what `add_cover` answers, and the lines after it: the line is kept in place of an earlier one; or the sum is not e_j, and nothing changes
abbrev pub AddsCover : Module → CoverLines → ℕ → List ℤ → Result ⊤ CoverSum → CoverLines → Type 0
AddsCover v lines j c (Ok u) new = IsCombination v j c × (new ≡ with_line lines j c)
AddsCover v lines j c (Err e) new = IsFirstDifferentCoordinate v j c e.axis e.value × (new ≡ lines)
