-- The lines of a block: the rows of a matrix, and the weights and entries of a table.
-- Own.
--
--   rows          `reduce` with the name of a module, and the `row` lines behind it that were read
--   a table       `module .. table` with a new name, and the `weight` and `entry` lines behind it that were read
use Rattle.std.specs.Prelude.{ℕ, ℤ, Bool, ◌&&◌, List, [], ◌∷◌, ◌++◌, if◌then◌else◌, length, map, nat_abs, nat_eq, nat_lt}
use Rattle.lie_datum.specs.Vectors.{Vector}
use Rattle.lie_script.specs.declared.sizes.Wants.{Wants}
use Rattle.lie_script.specs.declared.sizes.Wants.TheVariants as wants
use Rattle.lie_weight.specs.declared.entry.Entry.{Entry}
use Rattle.lie_session.specs.DatumLines.{padded}

-- the name of the module, and the rows that were read
pub record Rows : Type 0 where
  pub name : List ℕ
  pub rows : List (List ℕ)

-- no rows yet
abbrev pub begun : List ℕ → Rows
begun name = record { name = name; rows = [] }

-- one row more
abbrev pub with_row : Rows → List ℤ → Rows
with_row b row = record b { rows = b.rows ++ map nat_abs row ∷ [] }

-- the name that the module gets; how many weights and entries there are; and those that were read
pub record TableLines : Type 0 where
  pub name : List ℕ
  pub width : ℕ
  pub count : ℕ
  pub weights : List Vector
  pub entries : List Entry

-- the line `module name table n e` alone
abbrev pub opened_table : List ℕ → ℕ → ℕ → TableLines
opened_table name n e = record { name = name; width = n; count = e; weights = []; entries = [] }

-- one weight more
abbrev pub with_weight : TableLines → List ℤ → TableLines
with_weight t v = record t { weights = t.weights ++ padded v ∷ [] }

-- one entry more
abbrev pub with_entry : TableLines → Entry → TableLines
with_entry t e = record t { entries = t.entries ++ e ∷ [] }

-- no line is missing
abbrev pub is_whole_table : TableLines → Bool
is_whole_table t = nat_eq (length t.weights) t.width && nat_eq (length t.entries) t.count

-- what is awaited: the weights, then the entries
abbrev pub table_wants : TableLines → Wants
table_wants t = if nat_lt (length t.weights) t.width then wants.Weight else wants.Entry
