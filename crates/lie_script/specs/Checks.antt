-- How the checks of a line are said: a reader answers a value or the first fault, and `do` goes on only where none came.
-- Own.
use Rattle.std.specs.Prelude.{◌≡◌, ℕ, Bool, if◌then◌else◌, List, [], ◌∷◌, Option, Some, None, Result, Ok, Err}
use Rattle.lie_script.specs.declared.faults.FaultName.{FaultName}
use Rattle.lie_script.specs.declared.faults.FaultName.TheVariants.{Fields}
use Rattle.lie_script.specs.declared.faults.Fault.{Fault}
use Rattle.lie_script.specs.declared.faults.Fault.TheVariants.{At}
use Rattle.lie_script.specs.declared.faults.Stop.{Stop}
use Rattle.lie_script.specs.declared.faults.Stop.TheVariants.{NoMemory, Faulty}

infixl 10 ◌>>=◌
-- the first failing check decides
abbrev pub ◌>>=◌ : {A B : Type 0} → Result A Fault → (A → Result B Fault) → Result B Fault
(Ok x) >>= f = f x
(Err e) >>= f = Err e

-- the fault, unless the check passes
abbrev pub unless : Bool → Fault → Result (Unit {0}) Fault
unless passes fault = if passes then Ok tt else Err fault

-- the value, or the fault where there is none
abbrev pub found : {A : Type 0} → Option A → Fault → Result A Fault
found None fault = Err fault
found (Some x) fault = Ok x

-- the fault at a column, where there is one
abbrev pub none_at : Option ℕ → FaultName → Result (Unit {0}) Fault
none_at None which = Ok tt
none_at (Some column) which = Err (At which column)

-- the values of items, read from left to right
abbrev pub each : {A B : Type 0} → (B → Result A Fault) → List B → Result (List A) Fault
each reader [] = Ok []
each reader (item ∷ items) = do
  first ← reader item
  others ← each reader items
  Ok (first ∷ others)

-- the line has another number of fields than its kind asks for
abbrev pub miscounted : {A : Type 0} → ℕ → Result A Fault
miscounted count = Err (At Fields count)

-- a reader that stopped has met the fault that reading gives, unless memory ran out
abbrev pub Fails : {Y : Type 0} → Stop → Result Y Fault → Type 0
Fails NoMemory read = Unit {0}
Fails (Faulty fault) read = read ≡ Err fault

-- what a reader returned, seen by view, is what reading gives, unless memory ran out
abbrev pub Gives : {X Y : Type 0} → (X → Y) → Result X Stop → Result Y Fault → Type 0
Gives view (Ok x) read = read ≡ Ok (view x)
Gives view (Err stop) read = Fails stop read
