-- A line as fields with their columns.
-- Own.
--
--   a blank       a space or a tab
--   a field       a maximal run of bytes that aren't blank
--   its column    the place of its first byte, counted from 1
--   plain bytes   the printable characters of ASCII and the tab
use Rattle.std.specs.Prelude.{ℕ, ◌+◌, ◌-◌, Bool, false, nat_lt, length, take, slice_index, ◌&&◌, ◌||◌, nat_eq, nat_le, if◌then◌else◌, List, [], ◌∷◌, Option, Some, None}
use Rattle.std.specs.List.{position_or_len}

-- a field: the column of its first byte, and its bytes
pub record Span : Type 0 where
  pub column : ℕ
  pub bytes : List ℕ

-- space or tab
abbrev pub is_blank : ℕ → Bool
is_blank b = nat_eq b 32 || nat_eq b 9

-- a byte at a column before the fields at its right: it joins the one that starts at the next column
abbrev pub joins : ℕ → ℕ → List Span → List Span
joins column b [] = record { column = column; bytes = b ∷ [] } ∷ []
joins column b (field ∷ fields) =
    if nat_eq field.column (column + 1) then record { column = column; bytes = b ∷ field.bytes } ∷ fields
    else record { column = column; bytes = b ∷ [] } ∷ field ∷ fields

-- the fields of bytes whose first stands in the column
abbrev pub fields_from : ℕ → List ℕ → List Span
fields_from column [] = []
fields_from column (b ∷ bytes) =
    if is_blank b then fields_from (column + 1) bytes else joins column b (fields_from (column + 1) bytes)

-- the fields of a line
unfoldable pub fields_of : List ℕ → List Span
fields_of line = fields_from 1 line

-- a printable character, or a tab
abbrev pub is_plain : ℕ → Bool
is_plain b = (nat_le 32 b && nat_le b 126) || nat_eq b 9

-- the column of the first byte that isn't plain, of bytes whose first stands in the column
abbrev pub foreign_from : ℕ → List ℕ → Option ℕ
foreign_from column [] = None
foreign_from column (b ∷ bytes) = if is_plain b then foreign_from (column + 1) bytes else Some column

-- the first byte is c
abbrev pub begins_with : ℕ → List ℕ → Bool
begins_with c [] = false
begins_with c (b ∷ bytes) = nat_eq b c

-- the bytes behind c, where c is the first
abbrev pub behind_first : ℕ → List ℕ → Option (List ℕ)
behind_first c [] = None
behind_first c (b ∷ bytes) = if nat_eq b c then Some bytes else None

-- the place of the first c, counted from 0, or the length where there is none
abbrev pub place_of : ℕ → List ℕ → ℕ
place_of c bytes = position_or_len (λ b. nat_eq b c) bytes

-- the bytes before c, where c is the last
abbrev pub before_last : ℕ → List ℕ → Option (List ℕ)
before_last c bytes =
    if nat_lt 0 (length bytes) && nat_eq (slice_index bytes (length bytes - 1)) c then Some (take (length bytes - 1) bytes) else None
