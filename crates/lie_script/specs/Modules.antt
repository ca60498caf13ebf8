-- The lines that name modules.
-- Own.
--
--   module name adjoint               the adjoint module
--   module name orbit v_1 .. v_d      the module of the orbit of a weight
--   module name sum a b               the direct sum of the modules a and b
--   module name tensor a b            their tensor product
--   module name dual a                the dual of the module a
--   module name table n e             the module of n weights and e entries, which follow
--   cover name j c_1 .. c_n           numbers for the weights of a module, whose combination is to be the unit vector e_j
--   matrix name w                     a word on a module
--   reduce name                       a matrix on a module, whose rows follow
--   a name                            1 to 16 bytes: a lower-case letter, then lower-case letters, digits and `_`
use Rattle.std.specs.Prelude.{ℕ, ◌+◌, pos, negsuc, Bool, false, not, ◌&&◌, ◌||◌, nat_eq, nat_lt, nat_le, List, [], ◌∷◌, length, codes, bytes_eq, is_some, Option, Result, Ok}
use Rattle.std.specs.Char.{is_ascii_digit}
use Rattle.std.specs.List.{list_all}
use Rattle.std.specs.Map.{lookup}
use Rattle.lie_script.specs.Fields.{Span}
use Rattle.lie_script.specs.Checks.{◌>>=◌, unless, found, miscounted}
use Rattle.lie_script.specs.Letters.{word}
use Rattle.lie_script.specs.Names.{Listed, dimension_of}
use Rattle.lie_script.specs.Numbers.{numbers, natural}
use Rattle.lie_script.specs.declared.allowed.Allowed.TheVariants.{Within}
use Rattle.lie_script.specs.declared.faults.FaultName.TheVariants as fault
use Rattle.lie_script.specs.declared.faults.Fault.{Fault}
use Rattle.lie_script.specs.declared.faults.Fault.TheVariants.{Bare, At}
use Rattle.lie_script.specs.declared.line.Line.{Line}
use Rattle.lie_script.specs.declared.line.Line.TheVariants as line
use Rattle.lie_script.specs.declared.module_kind.ModuleKind.{ModuleKind}
use Rattle.lie_script.specs.declared.module_kind.ModuleKind.TheVariants.{Adjoint, Orbit, Sum, Tensor, Dual, Table}
use Rattle.lie_script.specs.declared.sizes.Sizes.{Sizes}

-- a lower-case letter
abbrev pub is_lower : ℕ → Bool
is_lower b = nat_le 97 b && nat_le b 122

-- a lower-case letter, a digit or `_`
abbrev pub is_name_byte : ℕ → Bool
is_name_byte b = is_lower b || is_ascii_digit b || nat_eq b 95

-- a name
abbrev pub is_name : List ℕ → Bool
is_name [] = false
is_name (b ∷ bytes) = is_lower b && list_all is_name_byte bytes && nat_le (length bytes) 15

-- the kinds by their words
abbrev pub kind_of : List ℕ → Option ModuleKind
kind_of bytes =
    lookup (λ word. bytes_eq bytes word)
    ((codes "adjoint", Adjoint) ∷ (codes "orbit", Orbit) ∷ (codes "sum", Sum) ∷ (codes "tensor", Tensor) ∷ (codes "dual", Dual) ∷ (codes "table", Table) ∷ [])

-- a module has the name
unfoldable pub known : Listed → Span → Result (Unit {0}) Fault
known listed name = unless (is_some (dimension_of listed name.bytes)) (At fault.Unknown name.column)

-- the names of two modules, from left to right; the fields before them, a name and a kind, are counted too
unfoldable pub two_modules : Listed → List Span → Result (List ℕ × List ℕ) Fault
two_modules listed (a ∷ b ∷ []) = do
  a_there ← known listed a
  b_there ← known listed b
  Ok (a.bytes, b.bytes)
two_modules listed fields = miscounted (length fields + 2)

-- no module has the name, and one more may be there
unfoldable pub new_name : Listed → Span → Result (Unit {0}) Fault
new_name listed name = do
  free ← unless (not (is_some (dimension_of listed name.bytes))) (At fault.Taken name.column)
  unless (nat_lt (length listed) 16) (Bare fault.Full)

-- the fields behind a kind
unfoldable pub kind_line : Sizes → Listed → Span → ModuleKind → List Span → Result Line Fault
kind_line sizes listed name Adjoint fields = do
  counted ← unless (nat_eq (length fields) 0) (At fault.Fields (length fields + 2))
  new ← new_name listed name
  Ok (line.Adjoint name.bytes)
kind_line sizes listed name Orbit fields = do
  counted ← unless (nat_eq (length fields) sizes.d) (At fault.Fields (length fields + 2))
  v ← numbers (Within (negsuc 99) (pos 100)) fields
  new ← new_name listed name
  Ok (line.Orbit name.bytes v)
kind_line sizes listed name Sum fields = do
  pair ← two_modules listed fields
  new ← new_name listed name
  Ok (line.Sum name.bytes pair.0 pair.1)
kind_line sizes listed name Tensor fields = do
  pair ← two_modules listed fields
  new ← new_name listed name
  Ok (line.Tensor name.bytes pair.0 pair.1)
kind_line sizes listed name Dual (a ∷ []) = do
  a_there ← known listed a
  new ← new_name listed name
  Ok (line.Dual name.bytes a.bytes)
kind_line sizes listed name Dual fields = miscounted (length fields + 2)
kind_line sizes listed name Table (n ∷ e ∷ []) = do
  n ← natural 1 300 n
  e ← natural 0 20000 e
  new ← new_name listed name
  Ok (line.Table name.bytes n e)
kind_line sizes listed name Table fields = miscounted (length fields + 2)

-- `module`: a name and a kind, then the fields of the kind
unfoldable pub module_line : Sizes → Listed → List Span → Result Line Fault
module_line sizes listed (name ∷ kind ∷ fields) = do
  spelled ← unless (is_name name.bytes) (At fault.Name name.column)
  k ← found (kind_of kind.bytes) (At fault.Kind kind.column)
  kind_line sizes listed name k fields
module_line sizes listed fields = miscounted (length fields)

-- `cover`: the name of a module, a coordinate, and a number for each weight; the coordinate is read before the fields are counted
unfoldable pub cover_line : Sizes → Listed → List Span → Result Line Fault
cover_line sizes listed (name ∷ axis ∷ fields) = do
  dimension ← found (dimension_of listed name.bytes) (At fault.Unknown name.column)
  j ← natural 1 sizes.d axis
  counted ← unless (nat_eq (length fields) dimension) (At fault.Fields (length fields + 2))
  c ← numbers (Within (negsuc 999999) (pos 1000000)) fields
  Ok (line.Cover name.bytes j c)
cover_line sizes listed fields = miscounted (length fields)

-- `matrix`: the name of a module, then a word
unfoldable pub matrix_line : Sizes → Listed → List Span → Result Line Fault
matrix_line sizes listed (name ∷ first ∷ fields) = do
  there ← known listed name
  w ← word sizes (first ∷ fields)
  Ok (line.Matrix name.bytes w)
matrix_line sizes listed fields = miscounted (length fields)

-- `reduce`: the name of a module
unfoldable pub reduce_line : Listed → List Span → Result Line Fault
reduce_line listed (name ∷ []) = do
  there ← known listed name
  Ok (line.Reduce name.bytes)
reduce_line listed fields = miscounted (length fields)
