-- What the words of the command line ask for.
-- Own.
--
--   run         replies to the lines of the source
--   check       the same, up to and with the reply to `load`
--   demo n      a summary of the replies to the demonstration of n
use Rattle.std.specs.Prelude.{ℕ, ◌≤◌, nat_le, ◌&&◌, if◌then◌else◌, List, [], ◌∷◌, Option, Some, None, ⊤, codes, bytes_eq}
use Rattle.std.specs.Option.{option_map}
use Rattle.lie_script.specs.Fields.{begins_with}
use Rattle.lie_script.specs.Numbers.{number_of}
use Rattle.lie_session.specs.declared.mode.Mode.{Mode}
use Rattle.lie_session.specs.declared.mode.Mode.TheVariants.{Run, Check}
use Rattle.lie_session.specs.declared.task.Task.{Task}
use Rattle.lie_session.specs.declared.task.Task.TheVariants.{Lines, Demo}

-- a number from 1 to 999,999
abbrev pub within_demos : Option ℕ → Option ℕ
within_demos None = None
within_demos (Some n) = if nat_le 1 n && nat_le n 999999 then Some n else None

-- the number from 1 to 999,999 that a word spells without a leading zero
abbrev pub demo_number : List ℕ → Option ℕ
demo_number word = if begins_with 48 word then None else within_demos (number_of word)

-- what the words of the command line ask for
abbrev pub task_of : List (List ℕ) → Option Task
task_of (word ∷ []) =
    if bytes_eq word (codes "run") then Some (Lines Run)
    else if bytes_eq word (codes "check") then Some (Lines Check)
    else None
task_of (word ∷ number ∷ []) = if bytes_eq word (codes "demo") then option_map Demo (demo_number number) else None
task_of _ = None

-- the numbers of demonstrations
abbrev pub IsDemoNumber : ℕ → Type 0
IsDemoNumber n = (1 ≤ n) × (n ≤ 999999)

-- the number of a demonstration that is asked for is one
abbrev pub IsAsked : Task → Type 0
IsAsked (Lines mode) = ⊤
IsAsked (Demo n) = IsDemoNumber n
