-- What a line says, or its first failing check.
-- Own. The checks come in this order:
--
--   long        the line has more than 65,536 bytes
--               a line with blanks alone, or with `#` as its first byte that is none, says nothing and ends here
--   byte        a byte isn't plain
--   command     the first field is no word of the language
--   unloaded    the word is a command, and no group is loaded
--   order       the word isn't awaited
--               the checks of the line's own kind
use Rattle.std.specs.Prelude.{ℕ, Bool, true, false, not, ◌||◌, nat_le, if◌then◌else◌, List, [], ◌∷◌, length, codes, bytes_eq, Option, Result, Ok}
use Rattle.std.specs.Map.{lookup}
use Rattle.lie_script.specs.Fields.{Span, fields_of, foreign_from, begins_with}
use Rattle.lie_script.specs.Checks.{◌>>=◌, unless, found, none_at}
use Rattle.lie_script.specs.Kinds.{field_line, datum_line, root_line, coroot_line, bare_line, word_line, constant_line, weyl_line, weight_line, entry_line, row_line}
use Rattle.lie_script.specs.Letters.{two_words}
use Rattle.lie_script.specs.Modules.{module_line, cover_line, matrix_line, reduce_line}
use Rattle.lie_script.specs.Names.{Listed}
use Rattle.lie_script.specs.declared.faults.FaultName.TheVariants as fault
use Rattle.lie_script.specs.declared.faults.Fault.{Fault}
use Rattle.lie_script.specs.declared.faults.Fault.TheVariants.{Bare, At}
use Rattle.lie_script.specs.declared.keyword.Keyword.{Keyword}
use Rattle.lie_script.specs.declared.keyword.Keyword.TheVariants as keyword
use Rattle.lie_script.specs.declared.line.Line.{Line}
use Rattle.lie_script.specs.declared.line.Line.TheVariants as line
use Rattle.lie_script.specs.declared.sizes.Sizes.{Sizes}
use Rattle.lie_script.specs.declared.sizes.Wants.{Wants}
use Rattle.lie_script.specs.declared.sizes.Wants.TheVariants as wants

-- the first words of lines
abbrev pub keywords : List (List ℕ × Keyword)
keywords =
    (codes "field", keyword.Field) ∷ (codes "datum", keyword.Datum) ∷ (codes "root", keyword.Root)
    ∷ (codes "coroot", keyword.Coroot) ∷ (codes "collect", keyword.Collect) ∷ (codes "load", keyword.Load)
    ∷ (codes "form", keyword.Form) ∷ (codes "same", keyword.Same) ∷ (codes "mul", keyword.Mul) ∷ (codes "inv", keyword.Inv) ∷ (codes "roots", keyword.Roots) ∷ (codes "constant", keyword.Constant) ∷ (codes "weyl", keyword.Weyl)
    ∷ (codes "module", keyword.Module) ∷ (codes "weight", keyword.Weight) ∷ (codes "entry", keyword.Entry) ∷ (codes "cover", keyword.Cover) ∷ (codes "matrix", keyword.Matrix) ∷ (codes "reduce", keyword.Reduce) ∷ (codes "row", keyword.Row) ∷ []

-- the word that the bytes spell
unfoldable pub keyword_of : List ℕ → Option Keyword
keyword_of bytes = lookup (λ word. bytes_eq bytes word) keywords

-- the commands of a loaded group
abbrev pub is_command : Keyword → Bool
is_command keyword.Field = false
is_command keyword.Datum = false
is_command keyword.Root = false
is_command keyword.Coroot = false
is_command keyword.Collect = false
is_command keyword.Load = false
is_command keyword.Weight = false
is_command keyword.Entry = false
is_command keyword.Row = false
is_command _ = true

-- whether a word is awaited
abbrev pub begins : Keyword → Wants → Bool
begins keyword.Field wants.Field = true
begins keyword.Datum wants.Datum = true
begins keyword.Root wants.Root = true
begins keyword.Coroot wants.Coroot = true
begins keyword.Collect wants.Load = true
begins keyword.Load wants.Load = true
begins word wants.Command = is_command word
begins keyword.Weight wants.Weight = true
begins keyword.Entry wants.Entry = true
begins keyword.Row wants.Row = true
begins _ _ = false

-- the words whose lines are read with the field and the datum
abbrev pub takes_both : Keyword → Bool
takes_both keyword.Collect = true
takes_both keyword.Entry = true
takes_both word = is_command word

-- the reader of each word
unfoldable pub own_line : Sizes → Listed → Keyword → List Span → Result Line Fault
own_line sizes listed keyword.Field fields = field_line fields
own_line sizes listed keyword.Datum fields = datum_line fields
own_line sizes listed keyword.Root fields = root_line sizes fields
own_line sizes listed keyword.Coroot fields = coroot_line sizes fields
own_line sizes listed keyword.Collect fields = do
  w ← word_line sizes fields
  Ok (line.Collect w)
own_line sizes listed keyword.Load fields = bare_line line.Load fields
own_line sizes listed keyword.Form fields = do
  w ← word_line sizes fields
  Ok (line.Form w)
own_line sizes listed keyword.Same fields = do
  words ← two_words sizes fields
  Ok (line.Same words.0 words.1)
own_line sizes listed keyword.Mul fields = do
  words ← two_words sizes fields
  Ok (line.Mul words.0 words.1)
own_line sizes listed keyword.Inv fields = do
  w ← word_line sizes fields
  Ok (line.Inv w)
own_line sizes listed keyword.Roots fields = bare_line line.Roots fields
own_line sizes listed keyword.Constant fields = constant_line sizes fields
own_line sizes listed keyword.Weyl fields = weyl_line sizes fields
own_line sizes listed keyword.Module fields = module_line sizes listed fields
own_line sizes listed keyword.Weight fields = weight_line sizes fields
own_line sizes listed keyword.Entry fields = entry_line sizes fields
own_line sizes listed keyword.Cover fields = cover_line sizes listed fields
own_line sizes listed keyword.Matrix fields = matrix_line sizes listed fields
own_line sizes listed keyword.Reduce fields = reduce_line listed fields
own_line sizes listed keyword.Row fields = row_line sizes fields

-- a line with a first field: its bytes, its word, whether a group is loaded, whether the word is awaited, its own checks
unfoldable pub spoken : Wants → Sizes → Listed → List ℕ → Span → List Span → Result Line Fault
spoken awaited sizes listed bytes first fields = do
  plain ← none_at (foreign_from 1 bytes) fault.Byte
  word ← found (keyword_of first.bytes) (At fault.Command first.column)
  loaded ← unless (not (is_command word) || sizes.loaded) (Bare fault.Unloaded)
  due ← unless (begins word awaited) (Bare fault.Order)
  own_line sizes listed word fields

-- a line is silent if it has no field, or the first begins with `#`
abbrev pub said : Wants → Sizes → Listed → List ℕ → List Span → Result Line Fault
said awaited sizes listed bytes [] = Ok line.Silent
said awaited sizes listed bytes (first ∷ fields) =
    if begins_with 35 first.bytes then Ok line.Silent else spoken awaited sizes listed bytes first fields

-- what a line says, or its first failing check
unfoldable pub reads : Wants → Sizes → Listed → List ℕ → Result Line Fault
reads awaited sizes listed bytes = do
  short ← unless (nat_le (length bytes) 65536) (Bare fault.Long)
  said awaited sizes listed bytes (fields_of bytes)
