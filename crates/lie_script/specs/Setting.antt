-- The field and the datum that sizes belong to, and the fault as callers see it.
-- Own.
use Rattle.std.specs.Prelude.{◌≡◌, ◌||◌, Bool, true, false, length, Option, IfSome, IsSome, Result, Ok, Err}
use Rattle.lie_field.specs.FiniteField.{FiniteField}
use Rattle.lie_field.specs.Quotient.{order}
use Rattle.lie_datum.specs.RootDatum.{rank}
use Rattle.lie_datum.specs.RootList.{RootDatum}
use Rattle.lie_script.specs.Texts.{line_fault}
use Rattle.lie_script.specs.declared.faults.Fault.{Fault}
use Rattle.lie_script.specs.declared.faults.LineFault.{LineFault}
use Rattle.lie_script.specs.declared.line.Line.{Line}
use Rattle.lie_script.specs.declared.sizes.Sizes.{Sizes}
use Rattle.lie_script.specs.declared.sizes.Wants.{Wants}
use Rattle.lie_script.specs.declared.sizes.Wants.TheVariants as wants

-- q is the number of elements of the field
abbrev pub HasField : Sizes → FiniteField → Type 0
HasField sizes F = order F.given ≡ sizes.q

-- d, l and m are the dimension, the rank and the number of positive roots of the datum
pub record HasDatum (sizes : Sizes) (D : RootDatum) : Type 0 where
  pub d_is : D.base.dim ≡ sizes.d
  pub l_is : rank D.base ≡ sizes.l
  pub m_is : length D.positive ≡ sizes.m

-- both are handed in where these lines are awaited
abbrev pub awaits_both : Wants → Bool
awaits_both wants.Load = true
awaits_both wants.Entry = true
awaits_both _ = false

-- the field and the datum that are handed in belong to the sizes, and both are there where letters may have to be made
pub record IsSetting (awaited : Wants) (sizes : Sizes) (field : Option FiniteField) (datum : Option RootDatum) : Type 0 where
  pub field_is : IfSome field (HasField sizes)
  pub datum_is : IfSome datum (HasDatum sizes)
  pub both : (sizes.loaded || awaits_both awaited) ≡ true → IsSome field × IsSome datum

-- the answer of reading, with the fault as callers see it
abbrev pub answer_of : Result Line Fault → Result Line LineFault
answer_of (Ok said) = Ok said
answer_of (Err fault) = Err (line_fault fault)
