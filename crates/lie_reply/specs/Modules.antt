-- The replies to `module`, `cover` and `matrix`.
-- Own.
use Rattle.std.specs.Prelude.{ℕ, List, ◌++◌, map, codes, decimal}
use Rattle.std.specs.List.{join_with_byte, flat_map, range_with_len}
use Rattle.lie_ring.specs.Matrices.{Matrix, entry}

-- the reply to `module`: the name, and the dimension
abbrev pub module_text : List ℕ → ℕ → List ℕ
module_text name dimension = codes "module " ++ name ++ codes " " ++ decimal dimension ++ codes "\n"

-- the reply to `cover`: the name, and the coordinate
abbrev pub covered_text : List ℕ → ℕ → List ℕ
covered_text name axis = codes "covered " ++ name ++ codes " " ++ decimal axis ++ codes "\n"

-- the text of an entry
abbrev pub entry_text : Matrix ℕ → ℕ → ℕ → List ℕ
entry_text M i j = decimal (entry 0 M i j)

-- the line of a row: its elements, with one space between
abbrev pub row_text : Matrix ℕ → ℕ → List ℕ
row_text M i = join_with_byte 32 (map (entry_text M i) (range_with_len 0 M.width)) ++ codes "\n"

-- the reply to `matrix`: a line for each row
abbrev pub matrix_text : Matrix ℕ → List ℕ
matrix_text M = flat_map (row_text M) (range_with_len 0 M.height)
