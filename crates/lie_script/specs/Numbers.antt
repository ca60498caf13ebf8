-- Numbers in fields, and the checks on them.
-- Own.
--
--   a number    an optional `-`, then one or more digits; leading zeros are allowed
--   its range   where it has more than 18 digits, it is out of every range
use Rattle.std.specs.Prelude.{ℕ, Bool, not, ◌&&◌, nat_eq, nat_lt, nat_le, if◌then◌else◌, ℤ, pos, neg_ℤ, nat_abs, int_le, int_lt, List, [], ◌∷◌, length, Option, Some, None, Result, Ok}
use Rattle.std.specs.List.{list_all}
use Rattle.std.specs.Char.{is_ascii_digit}
use Rattle.std.specs.Str.Parse.{digits_value}
use Rattle.lie_script.specs.Fields.{Span, begins_with}
use Rattle.lie_script.specs.Checks.{◌>>=◌, unless, each}
use Rattle.lie_script.specs.declared.allowed.Allowed.{Allowed}
use Rattle.lie_script.specs.declared.allowed.Allowed.TheVariants.{Within, NonzeroWithin, SimpleOf, SignedSimpleOf, RootOf, ElementOf}
use Rattle.lie_script.specs.declared.faults.FaultName.{FaultName}
use Rattle.lie_script.specs.declared.faults.FaultName.TheVariants.{Number, Range, Root, Simple, Value}
use Rattle.lie_script.specs.declared.faults.Fault.{Fault}
use Rattle.lie_script.specs.declared.faults.Fault.TheVariants.{At}

-- the bytes after a sign
abbrev pub unsigned : List ℕ → List ℕ
unsigned [] = []
unsigned (b ∷ bytes) = if nat_eq b 45 then bytes else b ∷ bytes

-- one or more digits
abbrev pub are_digits : List ℕ → Bool
are_digits bytes = nat_lt 0 (length bytes) && list_all is_ascii_digit bytes

-- at most 18 digits
abbrev pub is_short : List ℕ → Bool
is_short digits = nat_le (length digits) 18

-- the number that 1 to 18 digits spell
unfoldable pub number_of : List ℕ → Option ℕ
number_of bytes = if are_digits bytes && is_short bytes then Some (digits_value 10 bytes) else None

-- the number with the sign of the bytes
abbrev pub signed : List ℕ → ℕ → ℤ
signed bytes n = if begins_with 45 bytes then neg_ℤ (pos n) else pos n

-- the number of a field
unfoldable pub integer : Span → Result ℤ Fault
integer field = do
  spelled ← unless (are_digits (unsigned field.bytes)) (At Number field.column)
  short ← unless (is_short (unsigned field.bytes)) (At Range field.column)
  Ok (signed field.bytes (digits_value 10 (unsigned field.bytes)))

-- from low to high
abbrev pub is_within : ℤ → ℤ → ℤ → Bool
is_within low high n = int_le low n && int_le n high

-- the number of an element of a field of q elements: from 0, and below q
abbrev pub is_element : ℕ → ℤ → Bool
is_element q n = int_le (pos 0) n && int_lt n (pos q)

-- the numbers that are allowed
abbrev pub allows : Allowed → ℤ → Bool
allows (Within low high) n = is_within low high n
allows (NonzeroWithin low high) n = is_within low high n && not (nat_eq (nat_abs n) 0)
allows (SimpleOf l) n = is_within (pos 1) (pos l) n
allows (SignedSimpleOf l) n = nat_le 1 (nat_abs n) && nat_le (nat_abs n) l
allows (RootOf m) n = nat_le 1 (nat_abs n) && nat_le (nat_abs n) m
allows (ElementOf q) n = is_element q n

-- the fault of the others
abbrev pub fault_of : Allowed → FaultName
fault_of (Within low high) = Range
fault_of (NonzeroWithin low high) = Range
fault_of (SimpleOf l) = Simple
fault_of (SignedSimpleOf l) = Simple
fault_of (RootOf m) = Root
fault_of (ElementOf q) = Value

-- an allowed number
unfoldable pub number : Allowed → Span → Result ℤ Fault
number allowed field = do
  n ← integer field
  passes ← unless (allows allowed n) (At (fault_of allowed) field.column)
  Ok n

-- allowed numbers, from left to right
unfoldable pub numbers : Allowed → List Span → Result (List ℤ) Fault
numbers allowed fields = each (number allowed) fields

-- a number from low to high that isn't negative
unfoldable pub natural : ℕ → ℕ → Span → Result ℕ Fault
natural low high field = do
  n ← number (Within (pos low) (pos high)) field
  Ok (nat_abs n)
