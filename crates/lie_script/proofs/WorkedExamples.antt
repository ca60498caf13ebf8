-- The definition of reading at work on lines of the language.
use Rattle.std.specs.Prelude.{◌≡◌, refl, ℕ, true, false, pos, negsuc, List, [], ◌∷◌, ◌++◌, map, codes, Ok, Err, Result}
use Rattle.lie_letters.specs.declared.letter.Letter.TheVariants.{X, H, N, Ninv}
use Rattle.lie_script.specs.Fields.{fields_of}
use Rattle.lie_script.specs.Numbers.{number_of, integer, number, numbers, natural}
use Rattle.lie_script.specs.Letters.{spelled, unit, spelled_list, units, torus_letter, letter, few_letters, root_letter, weyl_letter, letters, word, two_words}
use Rattle.lie_script.specs.Kinds.{field_of, field_line, vector, root_line, coroot_line, bare_line, word_line, weyl_line, weight_line, row_line}
use Rattle.lie_script.specs.Modules.{known, two_modules, new_name, kind_line, module_line, cover_line, matrix_line, reduce_line}
use Rattle.lie_script.specs.Names.{Listed}
use Rattle.lie_script.specs.Reading.{keyword_of, own_line, spoken, reads}
use Rattle.lie_script.specs.declared.faults.FaultName.TheVariants as fault
use Rattle.lie_script.specs.declared.faults.Fault.{Fault}
use Rattle.lie_script.specs.declared.faults.Fault.TheVariants.{Bare, At}
use Rattle.lie_script.specs.declared.line.Line.{Line}
use Rattle.lie_script.specs.declared.line.Line.TheVariants as line
use Rattle.lie_script.specs.declared.sizes.Sizes.{Sizes}
use Rattle.lie_script.specs.declared.sizes.Wants.{Wants}
use Rattle.lie_script.specs.declared.sizes.Wants.TheVariants as wants

-- lines, each with what it says
abbrev Table : Type 0
Table = List (List ℕ × Result Line Fault)

-- each line of the table is read so
abbrev IsRead : Wants → Sizes → Listed → Table → Type 0
IsRead awaited sizes listed table = map (λ row. reads awaited sizes listed row.0) table ≡ map (λ row. row.1) table

abbrev no_sizes : Sizes
no_sizes = record { d = 0; l = 0; m = 0; q = 0; dim = 0; loaded = false }

-- where the field is awaited
abbrev first_lines : Table
first_lines =
    (codes "field 3 2 2 2 3", Ok (line.Field 3 2 (pos 2 ∷ pos 2 ∷ []) 3)) ∷
    (codes "field 0005 1 0 2", Ok (line.Field 5 1 (pos 0 ∷ []) 2)) ∷
    (codes "field 5 1 x", Err (At fault.Number 11)) ∷
    (codes "field 1 1000001", Err (At fault.Range 9)) ∷
    (codes "field 3 2 2 3", Err (At fault.Fields 4)) ∷
    (codes "field 3 0 2", Ok (line.Field 3 0 [] 2)) ∷
    (codes "field 5 - 0 2", Err (At fault.Number 9)) ∷
    (32 ∷ 9 ∷ [], Ok line.Silent) ∷
    (9 ∷ 35 ∷ 128 ∷ [], Ok line.Silent) ∷
    (codes "roots", Err (Bare fault.Unloaded)) ∷
    (codes "reduce nat", Err (Bare fault.Unloaded)) ∷
    (codes "root 1", Err (Bare fault.Order)) ∷
    (codes "row 1", Err (Bare fault.Order)) ∷
    (codes "weight 1", Err (Bare fault.Order)) ∷
    (codes "entry 1 1 1 1 1", Err (Bare fault.Order)) ∷
    (codes "cover nat 1 1", Err (Bare fault.Unloaded)) ∷
    (codes "collect 1", Err (Bare fault.Order)) ∷
    []

first_lines_read : IsRead wants.Field no_sizes [] first_lines
unfolding reads fields_of spoken keyword_of own_line field_of field_line vector root_line coroot_line bare_line word_line weyl_line word letters few_letters letter torus_letter spelled unit spelled_list units number_of integer number numbers natural
first_lines_read = refl

-- where a root of rank 1 is awaited
abbrev root_lines : Table
root_lines =
    (codes "root 101", Ok (line.Root (pos 101 ∷ []))) ∷
    (codes "root -000000000000000007", Ok (line.Root (negsuc 6 ∷ []))) ∷
    (codes "root 1234567890123456789", Err (At fault.Range 6)) ∷
    (codes "root +1", Err (At fault.Number 6)) ∷
    (codes "coroot 1", Err (Bare fault.Order)) ∷
    (codes "root 1 0", Err (At fault.Fields 2)) ∷
    []

root_lines_read : IsRead wants.Root (record no_sizes { d = 1; l = 1; q = 5 }) [] root_lines
unfolding reads fields_of spoken keyword_of own_line field_of field_line vector root_line coroot_line bare_line word_line weyl_line word letters few_letters letter torus_letter spelled unit spelled_list units number_of integer number numbers natural
root_lines_read = refl

-- where `load` is awaited, with two coordinates, one simple root, and the field of five
abbrev last_lines : Table
last_lines =
    (codes "load", Ok line.Load) ∷
    (codes "load 1", Err (At fault.Fields 1)) ∷
    (codes "collect n1 1 x-1(4)", Ok (line.Collect (N 1 ∷ X (negsuc 0) 4 ∷ []))) ∷
    (codes "collect 1", Ok (line.Collect [])) ∷
    (codes "collect", Err (At fault.Fields 0)) ∷
    (codes "collect n2", Err (At fault.Simple 9)) ∷
    (codes "collect h(1)", Err (At fault.Torus 9)) ∷
    (codes "form 1", Err (Bare fault.Unloaded)) ∷
    (codes "coroot 1 0", Err (Bare fault.Order)) ∷
    []

last_lines_read : IsRead wants.Load (record { d = 2; l = 1; m = 1; q = 5; dim = 0; loaded = false }) [] last_lines
unfolding reads fields_of spoken keyword_of own_line bare_line word_line word letters few_letters letter torus_letter root_letter weyl_letter spelled unit spelled_list units number_of
last_lines_read = refl

-- commands over the field of five, with two coordinates
abbrev commands : Table
commands =
    (codes "form h(2,3)  1 h(4,1)", Ok (line.Form (H (2 ∷ 3 ∷ []) ∷ H (4 ∷ 1 ∷ []) ∷ []))) ∷
    (codes "form 1", Ok (line.Form [])) ∷
    (codes "form h(0,1)", Err (At fault.Torus 6)) ∷
    (codes "form 1 h(9,0)", Err (At fault.Value 8)) ∷
    (codes "form h(0,9)", Err (At fault.Torus 6)) ∷
    (codes "form h(2)", Err (At fault.Torus 6)) ∷
    (codes "form h(1,1) h(2,)", Err (At fault.Letter 13)) ∷
    (codes "form y1", Err (At fault.Letter 6)) ∷
    (codes "form n1 x-1(4) n1'", Ok (line.Form (N 1 ∷ X (negsuc 0) 4 ∷ Ninv 1 ∷ []))) ∷
    (codes "form n2", Err (At fault.Simple 6)) ∷
    (codes "form n-1", Err (At fault.Letter 6)) ∷
    (codes "form 01", Err (At fault.Letter 6)) ∷
    (codes "form h(1,0000000000000000001)", Err (At fault.Letter 6)) ∷
    (codes "form", Err (At fault.Fields 0)) ∷
    (codes " fomr 1", Err (At fault.Command 2)) ∷
    (codes "form " ++ 128 ∷ [], Err (At fault.Byte 6)) ∷
    (codes "mul n1 ; 1", Ok (line.Mul (N 1 ∷ []) [])) ∷
    (codes "mul 1 n1 ; n1' h(1,2)", Ok (line.Mul (N 1 ∷ []) (Ninv 1 ∷ H (1 ∷ 2 ∷ []) ∷ []))) ∷
    (codes "same 1 ; n1", Ok (line.Same [] (N 1 ∷ []))) ∷
    (codes "same n1", Err (At fault.Fields 1)) ∷
    (codes "mul n1 n1", Err (At fault.Fields 2)) ∷
    (codes "mul ; n1", Err (At fault.Fields 2)) ∷
    (codes "mul n1 ;", Err (At fault.Fields 2)) ∷
    (codes "mul n1 ; n1 ; n1", Err (At fault.Fields 5)) ∷
    (codes "mul n1 ; n2", Err (At fault.Simple 10)) ∷
    (codes "mul n1; n1", Err (At fault.Fields 2)) ∷
    (codes "inv x1(4) n1", Ok (line.Inv (X (pos 1) 4 ∷ N 1 ∷ []))) ∷
    (codes "inv", Err (At fault.Fields 0)) ∷
    (codes "roots", Ok line.Roots) ∷
    (codes "roots 1", Err (At fault.Fields 1)) ∷
    (codes "weyl 1 01 1", Ok (line.Weyl (pos 1 ∷ pos 1 ∷ pos 1 ∷ []))) ∷
    (codes "weyl -", Ok (line.Weyl [])) ∷
    (codes "weyl", Err (At fault.Fields 0)) ∷
    (codes "weyl - -", Err (At fault.Number 6)) ∷
    (codes "weyl 1 -", Err (At fault.Number 8)) ∷
    (codes "weyl 1 2", Err (At fault.Simple 8)) ∷
    (codes "weyl -0", Err (At fault.Simple 6)) ∷
    (codes "weyl 1000000000000000001", Err (At fault.Range 6)) ∷
    (codes "load", Err (Bare fault.Order)) ∷
    (codes "collect 1", Err (Bare fault.Order)) ∷
    []

commands_read : IsRead wants.Command (record { d = 2; l = 1; m = 1; q = 5; dim = 0; loaded = true }) [] commands
unfolding reads fields_of spoken keyword_of own_line field_of field_line vector root_line coroot_line bare_line word_line weyl_line word two_words letters few_letters letter torus_letter root_letter weyl_letter spelled unit spelled_list units number_of integer number numbers natural
commands_read = refl

-- words and constants over the field of five, with three positive roots
abbrev root_commands : Table
root_commands =
    (codes "form x3(4) h(2,3) x1(0)", Ok (line.Form (X (pos 3) 4 ∷ H (2 ∷ 3 ∷ []) ∷ X (pos 1) 0 ∷ []))) ∷
    (codes "form x-1(1)", Ok (line.Form (X (negsuc 0) 1 ∷ []))) ∷
    (codes "form x-4(9)", Err (At fault.Root 6)) ∷
    (codes "form x-3(9)", Err (At fault.Value 6)) ∷
    (codes "form x-0(1)", Err (At fault.Root 6)) ∷
    (codes "form x0(1)", Err (At fault.Root 6)) ∷
    (codes "form 1 x4(9)", Err (At fault.Root 8)) ∷
    (codes "form x1(5)", Err (At fault.Value 6)) ∷
    (codes "form x1(-1)", Err (At fault.Letter 6)) ∷
    (codes "form x1()", Err (At fault.Letter 6)) ∷
    (codes "form x1(1", Err (At fault.Letter 6)) ∷
    (codes "form x(1)", Err (At fault.Letter 6)) ∷
    (codes "form x--1(1)", Err (At fault.Letter 6)) ∷
    (codes "form x1((1)", Err (At fault.Letter 6)) ∷
    (codes "form x0000000000000000001(1)", Err (At fault.Letter 6)) ∷
    (codes "constant 01 -2", Ok (line.Constant (pos 1) (negsuc 1))) ∷
    (codes "constant -0 1", Err (At fault.Root 10)) ∷
    (codes "constant 1 -4", Err (At fault.Root 12)) ∷
    (codes "constant 3 03", Err (Bare fault.Opposite)) ∷
    (codes "constant -3 3", Err (Bare fault.Opposite)) ∷
    (codes "constant 1", Err (At fault.Fields 1)) ∷
    (codes "constant 9 x", Err (At fault.Root 10)) ∷
    (codes "constant 1 x", Err (At fault.Number 12)) ∷
    (codes "constant 1000000000000000000 1", Err (At fault.Range 10)) ∷
    []

root_commands_read : IsRead wants.Command (record { d = 2; l = 2; m = 3; q = 5; dim = 0; loaded = true }) [] root_commands
unfolding reads fields_of spoken keyword_of own_line word_line word letters few_letters letter torus_letter root_letter weyl_letter module_line kind_line new_name matrix_line spelled unit spelled_list units number_of integer number numbers
root_commands_read = refl

-- commands where a module of dimension 2 has a name
abbrev reductions : Table
reductions =
    (codes "reduce nat", Ok (line.Reduce (codes "nat"))) ∷
    (codes "reduce adj", Err (At fault.Unknown 8)) ∷
    (codes "reduce", Err (At fault.Fields 0)) ∷
    (codes "reduce adj 1", Err (At fault.Fields 2)) ∷
    (codes "row 0 1", Err (Bare fault.Order)) ∷
    []

reductions_read : IsRead wants.Command (record { d = 1; l = 1; m = 1; q = 5; dim = 0; loaded = true }) ((codes "nat", 2) ∷ []) reductions
unfolding reads fields_of spoken keyword_of own_line reduce_line known
reductions_read = refl

-- modules that are made of others, where one of dimension 2 has a name
abbrev constructions : Table
constructions =
    (codes "module two sum nat nat", Ok (line.Sum (codes "two") (codes "nat") (codes "nat"))) ∷
    (codes "module b2 tensor nat nat", Ok (line.Tensor (codes "b2") (codes "nat") (codes "nat"))) ∷
    (codes "module b_ dual nat", Ok (line.Dual (codes "b_") (codes "nat"))) ∷
    (codes "module nat sum nat adj", Err (At fault.Unknown 20)) ∷
    (codes "module nat tensor adj two", Err (At fault.Unknown 19)) ∷
    (codes "module nat dual nat", Err (At fault.Taken 8)) ∷
    (codes "module b sum nat", Err (At fault.Fields 3)) ∷
    (codes "module b dual", Err (At fault.Fields 2)) ∷
    (codes "module b dual nat nat", Err (At fault.Fields 4)) ∷
    (codes "module B dual", Err (At fault.Name 8)) ∷
    (codes "module b twist nat", Err (At fault.Kind 10)) ∷
    (codes "module b", Err (At fault.Fields 1)) ∷
    (codes "module b table 1 0", Ok (line.Table (codes "b") 1 0)) ∷
    (codes "module b table 300 20000", Ok (line.Table (codes "b") 300 20000)) ∷
    (codes "module nat table 0 0", Err (At fault.Range 18)) ∷
    (codes "module b table 301 x", Err (At fault.Range 16)) ∷
    (codes "module b table 1 20001", Err (At fault.Range 18)) ∷
    (codes "module b table x 0", Err (At fault.Number 16)) ∷
    (codes "module nat table 1 0", Err (At fault.Taken 8)) ∷
    (codes "module b table 1", Err (At fault.Fields 3)) ∷
    (codes "weight 1", Err (Bare fault.Order)) ∷
    (codes "entry 1 1 1 2 1", Err (Bare fault.Order)) ∷
    (codes "cover nat 1 1 0", Ok (line.Cover (codes "nat") 1 (pos 1 ∷ pos 0 ∷ []))) ∷
    (codes "cover nat 01 -1000000 1000000", Ok (line.Cover (codes "nat") 1 (negsuc 999999 ∷ pos 1000000 ∷ []))) ∷
    (codes "cover nat", Err (At fault.Fields 1)) ∷
    (codes "cover adj 2", Err (At fault.Unknown 7)) ∷
    (codes "cover nat 2", Err (At fault.Range 11)) ∷
    (codes "cover nat 0 x", Err (At fault.Range 11)) ∷
    (codes "cover nat x", Err (At fault.Number 11)) ∷
    (codes "cover nat 1 1", Err (At fault.Fields 3)) ∷
    (codes "cover nat 1 1000001 x", Err (At fault.Range 13)) ∷
    (codes "cover nat 1 1 x", Err (At fault.Number 15)) ∷
    []

constructions_read : IsRead wants.Command (record { d = 1; l = 1; m = 1; q = 5; dim = 0; loaded = true }) ((codes "nat", 2) ∷ []) constructions
unfolding reads fields_of spoken keyword_of own_line module_line kind_line known two_modules new_name cover_line integer number numbers natural
constructions_read = refl

-- where a weight of a table is awaited, with two coordinates
abbrev weights : Table
weights =
    (codes "weight 1000 -1000", Ok (line.Weight (pos 1000 ∷ negsuc 999 ∷ []))) ∷
    (codes "weight 1001 x", Err (At fault.Range 8)) ∷
    (codes "weight 0 -1001", Err (At fault.Range 10)) ∷
    (codes "weight x 1001", Err (At fault.Number 8)) ∷
    (codes "weight 0", Err (At fault.Fields 1)) ∷
    (codes "entry 1 1 1 2 1", Err (Bare fault.Order)) ∷
    (codes "roots", Err (Bare fault.Order)) ∷
    (codes "# weight", Ok line.Silent) ∷
    []

weights_read : IsRead wants.Weight (record { d = 2; l = 2; m = 3; q = 5; dim = 3; loaded = true }) [] weights
unfolding reads fields_of spoken keyword_of own_line vector weight_line integer number numbers
weights_read = refl

-- where an entry of a table of three weights is awaited
abbrev entries : Table
entries =
    (codes "entry -2 16 1 3 -100", Ok (line.Entry (negsuc 1) 16 1 3 (negsuc 99))) ∷
    (codes "entry 2 1 3 1 100", Ok (line.Entry (pos 2) 1 3 1 (pos 100))) ∷
    (codes "entry 0 1 1 1 1", Err (At fault.Simple 7)) ∷
    (codes "entry 3 17 1 1 1", Err (At fault.Simple 7)) ∷
    (codes "entry -3 1 1 1 1", Err (At fault.Simple 7)) ∷
    (codes "entry 1000000000000000000 1 1 1 1", Err (At fault.Range 7)) ∷
    (codes "entry 1 17 4 1 1", Err (At fault.Range 9)) ∷
    (codes "entry 1 0 1 1 1", Err (At fault.Range 9)) ∷
    (codes "entry 1 1 4 0 1", Err (At fault.Range 11)) ∷
    (codes "entry 1 1 3 0 x", Err (At fault.Range 13)) ∷
    (codes "entry 1 1 1 1 0", Err (At fault.Range 15)) ∷
    (codes "entry 1 1 1 1 -0", Err (At fault.Range 15)) ∷
    (codes "entry 1 1 1 1 101", Err (At fault.Range 15)) ∷
    (codes "entry 1 1 1 1 x", Err (At fault.Number 15)) ∷
    (codes "entry 1 1 1 1", Err (At fault.Fields 4)) ∷
    (codes "weight 0 0", Err (Bare fault.Order)) ∷
    []

entries_read : IsRead wants.Entry (record { d = 2; l = 2; m = 3; q = 5; dim = 3; loaded = true }) [] entries
unfolding reads fields_of spoken keyword_of own_line integer number natural
entries_read = refl

-- where a row of the matrix is awaited
abbrev rows : Table
rows =
    (codes "row 4 -0", Ok (line.Row (pos 4 ∷ pos 0 ∷ []))) ∷
    (codes "row 4 5", Err (At fault.Value 7)) ∷
    (codes "row -1 x", Err (At fault.Value 5)) ∷
    (codes "row x 5", Err (At fault.Number 5)) ∷
    (codes "row 1 1000000000000000000", Err (At fault.Range 7)) ∷
    (codes "row x", Err (At fault.Fields 1)) ∷
    (codes "row 0 1 0", Err (At fault.Fields 3)) ∷
    (codes "# row 0", Ok line.Silent) ∷
    (codes "rows 0 1", Err (At fault.Command 1)) ∷
    (codes "reduce nat", Err (Bare fault.Order)) ∷
    (codes "roots", Err (Bare fault.Order)) ∷
    []

rows_read : IsRead wants.Row (record { d = 1; l = 1; m = 1; q = 5; dim = 2; loaded = true }) ((codes "nat", 2) ∷ []) rows
unfolding reads fields_of spoken keyword_of own_line vector row_line integer number numbers
rows_read = refl
