-- The texts of refusals.
-- Own.
use Rattle.std.specs.Prelude.{ℕ, ℤ, pos, List, [], ◌∷◌, ◌++◌, flat_map, codes, decimal}
use Rattle.std.specs.Fmt.{signed_decimal}
use Rattle.lie_script.specs.declared.faults.FaultName.{FaultName}
use Rattle.lie_script.specs.declared.faults.FaultName.TheVariants as fault
use Rattle.lie_script.specs.declared.faults.LineFault.{LineFault}
use Rattle.lie_script.specs.declared.faults.Fault.{Fault}
use Rattle.lie_script.specs.declared.faults.Fault.TheVariants.{Bare, At}

-- the fault as callers see it
abbrev pub line_fault : Fault → LineFault
line_fault (Bare name) = record { name = name; numbers = [] }
line_fault (At name n) = record { name = name; numbers = pos n ∷ [] }

-- the name of a fault
abbrev pub name_of : FaultName → List ℕ
name_of fault.Long = codes "long"
name_of fault.Byte = codes "byte"
name_of fault.Command = codes "command"
name_of fault.Unloaded = codes "unloaded"
name_of fault.Order = codes "order"
name_of fault.Fields = codes "fields"
name_of fault.Number = codes "number"
name_of fault.Range = codes "range"
name_of fault.Root = codes "root"
name_of fault.Simple = codes "simple"
name_of fault.Letters = codes "letters"
name_of fault.Letter = codes "letter"
name_of fault.Torus = codes "torus"
name_of fault.Value = codes "value"
name_of fault.Opposite = codes "opposite"
name_of fault.Name = codes "name"
name_of fault.Kind = codes "kind"
name_of fault.Unknown = codes "unknown"
name_of fault.Taken = codes "taken"
name_of fault.Full = codes "full"
name_of fault.Sum = codes "sum"
name_of fault.Outside = codes "outside"
name_of fault.Size = codes "size"
name_of fault.End = codes "end"

-- numbers, each after a space
abbrev pub spaced : List ℤ → List ℕ
spaced numbers = flat_map (λ n. 32 ∷ signed_decimal n) numbers

-- `refused <line> <name>`, then the numbers, each after a space
abbrev pub refusal : ℕ → List ℕ → List ℤ → List ℕ
refusal n name numbers = codes "refused " ++ decimal n ++ codes " " ++ name ++ spaced numbers ++ codes "\n"
