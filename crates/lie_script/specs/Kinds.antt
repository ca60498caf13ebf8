-- The kinds of lines, each with its own checks in the order in which they are made.
-- Own.
--
--   field p k c_0 .. c_(k-1) g    a field: the numbers are checked before their count
--   datum d l                     d coordinates and l simple roots
--   root v_1 .. v_d               a simple root
--   coroot v_1 .. v_d             a simple coroot
--   collect w, form w             a word of one or more fields
--   load                          no fields
--   roots                         no fields
--   constant r s                  signed numbers of two roots, neither equal nor opposite
--   weyl i_1 .. i_n               indices of simple roots, at most 4,096; a lone `-` stands for none
--   weight v_1 .. v_d             a weight of a table, each coordinate within 1,000
--   entry i k row col value       an entry of the k-th divided power of E_i, or of E_-i where i is negative: k in 1 .. 16, the places
--                                 in 1 .. n, n being the number of weights of the table, and a value within 100 that isn't 0
--   row e_1 .. e_n                a row of a matrix: the numbers of n elements of the field, n being the dimension of the module
use Rattle.std.specs.Prelude.{ℕ, ◌+◌, ◌&&◌, not, nat_eq, nat_le, ℤ, pos, negsuc, nat_abs, List, [], ◌∷◌, length, take, get_or, codes, bytes_eq, Bool, false, if◌then◌else◌, Result, Ok}
use Rattle.lie_letters.specs.declared.letter.Letter.{Letter}
use Rattle.lie_script.specs.Fields.{Span}
use Rattle.lie_script.specs.Checks.{◌>>=◌, unless, miscounted}
use Rattle.lie_script.specs.Numbers.{number, numbers, natural}
use Rattle.lie_script.specs.Letters.{word}
use Rattle.lie_script.specs.declared.allowed.Allowed.{Allowed}
use Rattle.lie_script.specs.declared.allowed.Allowed.TheVariants.{Within, NonzeroWithin, SimpleOf, SignedSimpleOf, RootOf, ElementOf}
use Rattle.lie_script.specs.declared.faults.FaultName.TheVariants as fault
use Rattle.lie_script.specs.declared.faults.Fault.{Fault}
use Rattle.lie_script.specs.declared.faults.Fault.TheVariants.{Bare, At}
use Rattle.lie_script.specs.declared.line.Line.{Line}
use Rattle.lie_script.specs.declared.line.Line.TheVariants as line
use Rattle.lie_script.specs.declared.sizes.Sizes.{Sizes}

-- p and k, and as many coefficients as k says before g
unfoldable pub field_of : List Span → List ℤ → Result Line Fault
field_of fields (p ∷ k ∷ more) = do
  counted ← unless (nat_eq (length more) (nat_abs k + 1)) (At fault.Fields (length fields))
  Ok (line.Field (nat_abs p) (nat_abs k) (take (nat_abs k) more) (nat_abs (get_or more (nat_abs k) (pos 0))))
field_of fields _ = miscounted (length fields)

-- `field p k c_0 .. c_(k-1) g`: here the numbers come before the count
unfoldable pub field_line : List Span → Result Line Fault
field_line fields = do
  all ← numbers (Within (pos 0) (pos 1000000)) fields
  field_of fields all

-- `datum d l`
abbrev pub datum_line : List Span → Result Line Fault
datum_line (d ∷ l ∷ []) = do
  d ← natural 0 1000000 d
  l ← natural 0 1000000 l
  sized ← unless (nat_le 1 d && nat_le d 8 && nat_le l d) (Bare fault.Size)
  Ok (line.Datum d l)
datum_line fields = miscounted (length fields)

-- as many numbers as the count says
unfoldable pub vector : ℕ → Allowed → List Span → Result (List ℤ) Fault
vector count allowed fields = do
  counted ← unless (nat_eq (length fields) count) (At fault.Fields (length fields))
  numbers allowed fields

-- every number of at most 18 digits
abbrev pub eighteen_digits : Allowed
eighteen_digits = Within (negsuc 999999999999999998) (pos 999999999999999999)

-- `root v_1 .. v_d`
unfoldable pub root_line : Sizes → List Span → Result Line Fault
root_line sizes fields = do
  v ← vector sizes.d eighteen_digits fields
  Ok (line.Root v)

-- `coroot v_1 .. v_d`
unfoldable pub coroot_line : Sizes → List Span → Result Line Fault
coroot_line sizes fields = do
  v ← vector sizes.d eighteen_digits fields
  Ok (line.Coroot v)

-- a line without fields
unfoldable pub bare_line : Line → List Span → Result Line Fault
bare_line said fields = do
  counted ← unless (nat_eq (length fields) 0) (At fault.Fields (length fields))
  Ok said

-- one or more fields, which are a word
unfoldable pub word_line : Sizes → List Span → Result (List Letter) Fault
word_line sizes fields = do
  some ← unless (nat_le 1 (length fields)) (At fault.Fields (length fields))
  word sizes fields

-- `constant r s`: s is neither r nor -r
abbrev pub constant_line : Sizes → List Span → Result Line Fault
constant_line sizes (r ∷ s ∷ []) = do
  r ← number (RootOf sizes.m) r
  s ← number (RootOf sizes.m) s
  apart ← unless (not (nat_eq (nat_abs r) (nat_abs s))) (Bare fault.Opposite)
  Ok (line.Constant r s)
constant_line sizes fields = miscounted (length fields)

-- the only field is `-`
abbrev pub is_dash : List Span → Bool
is_dash (field ∷ []) = bytes_eq field.bytes (codes "-")
is_dash _ = false

-- each field is an index of a simple root
abbrev pub weyl_of : Sizes → List Span → Result Line Fault
weyl_of sizes fields = do
  indices ← numbers (SimpleOf sizes.l) fields
  Ok (line.Weyl indices)

-- `weyl i_1 .. i_n`, or `weyl -` without indices; the fields are counted first, and a lone `-` is looked for before numbers
unfoldable pub weyl_line : Sizes → List Span → Result Line Fault
weyl_line sizes fields = do
  some ← unless (nat_le 1 (length fields)) (At fault.Fields (length fields))
  few ← unless (nat_le (length fields) 4096) (At fault.Letters (length fields))
  if is_dash fields then Ok (line.Weyl []) else weyl_of sizes fields

-- `weight v_1 .. v_d`
unfoldable pub weight_line : Sizes → List Span → Result Line Fault
weight_line sizes fields = do
  v ← vector sizes.d (Within (negsuc 999) (pos 1000)) fields
  Ok (line.Weight v)

-- `entry i k row col value`
abbrev pub entry_line : Sizes → List Span → Result Line Fault
entry_line sizes (i ∷ k ∷ row ∷ col ∷ value ∷ []) = do
  i ← number (SignedSimpleOf sizes.l) i
  k ← natural 1 16 k
  row ← natural 1 sizes.dim row
  col ← natural 1 sizes.dim col
  value ← number (NonzeroWithin (negsuc 99) (pos 100)) value
  Ok (line.Entry i k row col value)
entry_line sizes fields = miscounted (length fields)

-- `row e_1 .. e_n`: an element for each column
unfoldable pub row_line : Sizes → List Span → Result Line Fault
row_line sizes fields = do
  row ← vector sizes.dim (ElementOf sizes.q) fields
  Ok (line.Row row)
