use Rattle.std.proofs.Common.{◌≡◌, ◌+◌, drop}
use Rattle.lie_script.specs.Fields.{foreign_from}
use Rattle.lie_script.proofs.fields.foreign_column.Given as goal

abbrev pub invariant-loop-i : goal.invariant-loop-i
invariant-loop-i l = foreign_from 1 l.line ≡ foreign_from (l.i + 1) (drop l.i l.line)
