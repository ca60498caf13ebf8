-- Letters and words.
-- Own.
--
--   x r ( a )         a root element: r is the signed number of a root, and a an element
--   h( a , .. , a )   a torus element: d elements that aren't 0, by their numbers
--   n i , n i '       the Weyl representative of a simple root, and its inverse
--   1                 as a field of a word: no letter
--   w ; v             two words: `;` is a field of its own
use Rattle.std.specs.Prelude.{ℕ, ◌+◌, ℤ, Bool, not, ◌&&◌, nat_eq, nat_lt, nat_le, if◌then◌else◌, List, [], ◌∷◌, length, take, drop, filter, codes, bytes_eq, Option, Some, None, Result, Ok, Err}
use Rattle.std.specs.List.{slice_split}
use Rattle.lie_letters.specs.declared.letter.Letter.{Letter}
use Rattle.lie_letters.specs.declared.letter.Letter.TheVariants.{X, H, N, Ninv}
use Rattle.lie_script.specs.Fields.{Span, behind_first, place_of, before_last}
use Rattle.lie_script.specs.Checks.{◌>>=◌, unless, found, each}
use Rattle.lie_script.specs.Numbers.{unsigned, signed, number_of}
use Rattle.lie_script.specs.declared.faults.FaultName.TheVariants as fault
use Rattle.lie_script.specs.declared.faults.Fault.{Fault}
use Rattle.lie_script.specs.declared.faults.Fault.TheVariants.{At}
use Rattle.lie_script.specs.declared.sizes.Sizes.{Sizes}

-- a comma, which parts the elements of a torus letter
abbrev pub is_comma : ℕ → Bool
is_comma b = nat_eq b 44

-- a number inside a letter
unfoldable pub spelled : ℕ → List ℕ → Result ℕ Fault
spelled column bytes = found (number_of bytes) (At fault.Letter column)

-- numbers with commas between
unfoldable pub spelled_list : ℕ → List ℕ → Result (List ℕ) Fault
spelled_list column bytes = each (spelled column) (slice_split is_comma bytes)

-- an element
abbrev pub element : ℕ → ℕ → ℕ → Result ℕ Fault
element q column a = do
  below ← unless (nat_lt a q) (At fault.Value column)
  Ok a

-- an element that isn't 0
unfoldable pub unit : ℕ → ℕ → ℕ → Result ℕ Fault
unit q column a = do
  below ← unless (nat_lt a q) (At fault.Value column)
  nonzero ← unless (not (nat_eq a 0)) (At fault.Torus column)
  Ok a

-- elements that aren't 0, from left to right
unfoldable pub units : ℕ → ℕ → List ℕ → Result (List ℕ) Fault
units q column numbers = each (unit q column) numbers

-- `h` was read: d elements in parentheses
unfoldable pub torus_letter : Sizes → ℕ → List ℕ → Result Letter Fault
torus_letter sizes column bytes = do
  opened ← found (behind_first 40 bytes) (At fault.Letter column)
  inner ← found (before_last 41 opened) (At fault.Letter column)
  numbers ← spelled_list column inner
  sized ← unless (nat_eq (length numbers) sizes.d) (At fault.Torus column)
  t ← units sizes.q column numbers
  Ok (H t)

-- the number k with the sign of these bytes
abbrev pub root : ℕ → ℕ → List ℕ → ℕ → Result ℤ Fault
root m column number k = do
  named ← unless (nat_le 1 k && nat_le k m) (At fault.Root column)
  Ok (signed number k)

-- a root element by the bytes of its number and those between the parentheses
abbrev pub root_element : Sizes → ℕ → List ℕ → List ℕ → Result Letter Fault
root_element sizes column number inner = do
  k ← spelled column (unsigned number)
  a ← spelled column inner
  r ← root sizes.m column number k
  a ← element sizes.q column a
  Ok (X r a)

-- `x` was read: a number, and an element in parentheses
unfoldable pub root_letter : Sizes → ℕ → List ℕ → Result Letter Fault
root_letter sizes column bytes = do
  opened ← unless (nat_lt (place_of 40 bytes) (length bytes)) (At fault.Letter column)
  inner ← found (before_last 41 (drop (place_of 40 bytes + 1) bytes)) (At fault.Letter column)
  root_element sizes column (take (place_of 40 bytes) bytes) inner

-- the index of a simple root
abbrev pub simple : ℕ → ℕ → List ℕ → Result ℕ Fault
simple l column digits = do
  i ← spelled column digits
  named ← unless (nat_le 1 i && nat_le i l) (At fault.Simple column)
  Ok i

-- an index, and the bytes before `'` where that is the last byte
abbrev pub weyl_by : Sizes → ℕ → List ℕ → Option (List ℕ) → Result Letter Fault
weyl_by sizes column bytes None = do
  i ← simple sizes.l column bytes
  Ok (N i)
weyl_by sizes column bytes (Some digits) = do
  i ← simple sizes.l column digits
  Ok (Ninv i)

-- `n` was read: an index, and `'` for the inverse
unfoldable pub weyl_letter : Sizes → ℕ → List ℕ → Result Letter Fault
weyl_letter sizes column bytes = weyl_by sizes column bytes (before_last 39 bytes)

-- the kind of a letter is told by its first byte
abbrev pub letter_from : Sizes → ℕ → List ℕ → Result Letter Fault
letter_from sizes column [] = Err (At fault.Letter column)
letter_from sizes column (b ∷ bytes) =
    if nat_eq b 104 then torus_letter sizes column bytes
    else if nat_eq b 120 then root_letter sizes column bytes
    else if nat_eq b 110 then weyl_letter sizes column bytes
    else Err (At fault.Letter column)

-- a letter
unfoldable pub letter : Sizes → Span → Result Letter Fault
letter sizes field = letter_from sizes field.column field.bytes

-- the field `1` is no letter
abbrev pub is_letter : Span → Bool
is_letter field = not (bytes_eq field.bytes (codes "1"))

-- at most 4,096 letters
unfoldable pub few_letters : List Span → Result (Unit {0}) Fault
few_letters fields = unless (nat_le (length (filter is_letter fields)) 4096) (At fault.Letters (length (filter is_letter fields)))

-- letters from left to right
unfoldable pub letters : Sizes → List Span → Result (List Letter) Fault
letters sizes fields = each (letter sizes) (filter is_letter fields)

-- a word, whose letters are counted first
unfoldable pub word : Sizes → List Span → Result (List Letter) Fault
word sizes fields = do
  few ← few_letters fields
  letters sizes fields

-- the field that parts two words
abbrev pub is_semicolon : Span → Bool
is_semicolon field = bytes_eq field.bytes (codes ";")

-- exactly one `;`, with fields on each side
abbrev pub two_sides : List (List Span) → Option (List Span × List Span)
two_sides ((a ∷ w) ∷ (b ∷ v) ∷ []) = Some (a ∷ w, b ∷ v)
two_sides _ = None

-- two words with a `;` between, whose letters are counted first
unfoldable pub two_words : Sizes → List Span → Result (List Letter × List Letter) Fault
two_words sizes fields = do
  sides ← found (two_sides (slice_split is_semicolon fields)) (At fault.Fields (length fields))
  few_first ← few_letters sides.0
  few_second ← few_letters sides.1
  w ← letters sizes sides.0
  v ← letters sizes sides.1
  Ok (w, v)
