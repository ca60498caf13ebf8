-- What a field says, apart from where it lies in memory.
-- For proofs: no public clause cites it.
-- Own.
use Rattle.std.specs.Prelude.{ℕ, List, [], map, Option, Some, None}
use Rattle.std.specs.Borrow.{Bor}
use Rattle.std.specs.List.{slice_split}
use Rattle.lie_script.specs.Fields.{Span}
use Rattle.lie_script.specs.Letters.{is_comma}
use Rattle.lie_script.specs.declared.fields.LineField.{LineField}

-- a field as its column and bytes
abbrev pub span : LineField → Span
span field = record { column = field.column; bytes = field.bytes.now }

-- fields as their columns and bytes
abbrev pub spans : List LineField → List Span
spans fields = map span fields

-- the bytes that are found
abbrev pub bytes_of : Option (Bor (List ℕ)) → Option (List ℕ)
bytes_of None = None
bytes_of (Some bytes) = Some bytes.now

-- the pieces between commas of what is left, if anything is
abbrev pub pieces_of : Option (List ℕ) → List (List ℕ)
pieces_of None = []
pieces_of (Some bytes) = slice_split is_comma bytes

-- the fields on both sides
abbrev pub sides_of : Option (Bor (List LineField) × Bor (List LineField)) → Option (List Span × List Span)
sides_of None = None
sides_of (Some sides) = Some (spans sides.0.now, spans sides.1.now)
