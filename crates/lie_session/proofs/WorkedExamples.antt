-- The definitions at work: lines, the lines of a datum, what is awaited, and what the command line asks for.
use Rattle.std.specs.Prelude.{◌≡◌, refl, true, false, pos, [], ◌∷◌, codes, Some, None}
use Rattle.lie_field.specs.FiniteField.{FiniteField}
use Rattle.lie_script.specs.declared.sizes.Wants.TheVariants as wants
use Rattle.lie_session.specs.DatumLines.{DatumLines, opened, with_root, with_coroot, is_whole}
use Rattle.lie_session.specs.Lines.{lines_of}
use Rattle.lie_session.specs.State.{fresh, wants_of}
use Rattle.lie_session.specs.Tasks.{task_of}
use Rattle.lie_session.specs.declared.stage.Stage.TheVariants as stage
use Rattle.lie_session.specs.declared.mode.Mode.TheVariants.{Check}
use Rattle.lie_session.specs.declared.task.Task.TheVariants.{Lines}

-- one CR is dropped, an empty line counts, and an LF at the end starts no line
three_lines : lines_of (codes "load\r\n\nform 1\r\r\n") ≡ codes "load" ∷ [] ∷ codes "form 1\r" ∷ []
three_lines = refl

-- the field comes first
field_first : wants_of fresh.stage ≡ wants.Field
field_first = refl

-- the lines of SL2
abbrev rooted : DatumLines
rooted = with_root (opened 1 1) (pos 2 ∷ [])

root_awaited : (F : FiniteField) → wants_of (stage.Lines F (opened 1 1)) ≡ wants.Root
root_awaited F = refl

coroot_awaited : (F : FiniteField) → wants_of (stage.Lines F rooted) ≡ wants.Coroot
coroot_awaited F = refl

coroot_last : is_whole (with_coroot rooted (pos 1 ∷ [])) ≡ true
coroot_last = refl

-- without simple roots the first line is the last
torus_whole : is_whole (opened 8 0) ≡ true
torus_whole = refl

-- the words of the command line
asks_check : task_of (codes "check" ∷ []) ≡ Some (Lines Check)
asks_check = refl

leads_with_zero : task_of (codes "demo" ∷ codes "01" ∷ []) ≡ None
leads_with_zero = refl

asks_nothing : task_of (codes "run" ∷ codes "run" ∷ []) ≡ None
asks_nothing = refl
