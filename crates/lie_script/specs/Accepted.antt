-- What holds of every line that passes its checks.
-- Own.
use Rattle.std.specs.Prelude.{◌≡◌, ◌≢◌, ℕ, ◌<◌, ◌≤◌, ℤ, nat_abs, pos, negsuc, List, true, length, Some, None, IfOk, IsSome}
use Rattle.std.specs.List.{All}
use Rattle.lie_datum.specs.RootList.{IsLoaded}
use Rattle.lie_letters.specs.Frames.{FrameData}
use Rattle.lie_letters.specs.Spelled.{IsWordOver}
use Rattle.lie_letters.specs.declared.letter.Letter.{Letter}
use Rattle.lie_script.specs.Numbers.{is_within, is_element, allows}
use Rattle.lie_script.specs.Modules.{is_name}
use Rattle.lie_script.specs.Names.{Listed, dimension_of}
use Rattle.lie_script.specs.Reading.{reads}
use Rattle.lie_script.specs.Setting.{HasField, HasDatum}
use Rattle.lie_script.specs.declared.allowed.Allowed.TheVariants.{RootOf}
use Rattle.lie_script.specs.declared.line.Line.{Line}
use Rattle.lie_script.specs.declared.line.Line.TheVariants as line
use Rattle.lie_script.specs.declared.sizes.Sizes.{Sizes}
use Rattle.lie_script.specs.declared.sizes.Wants.{Wants}
use Rattle.lie_script.specs.declared.sizes.Wants.TheVariants as wants

-- a word of each frame with these sizes
abbrev pub IsWordWithin : Sizes → List Letter → Type 0
IsWordWithin sizes w = (f : FrameData) → HasField sizes f.field → HasDatum sizes f.datum → IsLoaded f.datum → IsWordOver f w

-- a name that no module has, where one more may be there
pub record IsNewName (listed : Listed) (name : List ℕ) : Type 0 where
  pub spelled : is_name name ≡ true
  pub free : dimension_of listed name ≡ None
  pub few : length listed < 16

-- an entry of a divided power of E_i or E_-i, of a table with as many weights as the dimension of the block says
pub record IsEntry (sizes : Sizes) (simple : ℤ) (power row col : ℕ) (value : ℤ) : Type 0 where
  pub simple_is : (1 ≤ nat_abs simple) × (nat_abs simple ≤ sizes.l)
  pub power_is : (1 ≤ power) × (power ≤ 16)
  pub row_is : (1 ≤ row) × (row ≤ sizes.dim)
  pub col_is : (1 ≤ col) × (col ≤ sizes.dim)
  pub value_is : (1 ≤ nat_abs value) × (nat_abs value ≤ 100)

-- a coordinate, and a number for each weight of the module with the name
pub record IsCover (sizes : Sizes) (listed : Listed) (name : List ℕ) (axis : ℕ) (c : List ℤ) : Type 0 where
  pub known : dimension_of listed name ≡ Some (length c)
  pub axis_is : (1 ≤ axis) × (axis ≤ sizes.d)
  pub small : All (λ k. is_within (negsuc 999999) (pos 1000000) k ≡ true) c

-- the line was awaited, its values fit the sizes, and words are words of each frame with these sizes
abbrev pub Fits : Wants → Sizes → Listed → Line → Type 0
Fits awaited sizes listed line.Silent = Unit {0}
Fits awaited sizes listed (line.Field p k coeffs g) =
    (awaited ≡ wants.Field) × (length coeffs ≡ k) × All (λ c. is_within (pos 0) (pos 1000000) c ≡ true) coeffs
Fits awaited sizes listed (line.Datum d l) = (awaited ≡ wants.Datum) × (1 ≤ d) × (d ≤ 8) × (l ≤ d)
Fits awaited sizes listed (line.Root v) = (awaited ≡ wants.Root) × (length v ≡ sizes.d)
Fits awaited sizes listed (line.Coroot v) = (awaited ≡ wants.Coroot) × (length v ≡ sizes.d)
Fits awaited sizes listed (line.Collect w) = (awaited ≡ wants.Load) × IsWordWithin sizes w
Fits awaited sizes listed line.Load = awaited ≡ wants.Load
Fits awaited sizes listed (line.Form w) = (awaited ≡ wants.Command) × IsWordWithin sizes w
Fits awaited sizes listed (line.Same w v) = (awaited ≡ wants.Command) × IsWordWithin sizes w × IsWordWithin sizes v
Fits awaited sizes listed (line.Mul w v) = (awaited ≡ wants.Command) × IsWordWithin sizes w × IsWordWithin sizes v
Fits awaited sizes listed (line.Inv w) = (awaited ≡ wants.Command) × IsWordWithin sizes w
Fits awaited sizes listed line.Roots = awaited ≡ wants.Command
Fits awaited sizes listed (line.Constant r s) =
    (awaited ≡ wants.Command) × (allows (RootOf sizes.m) r ≡ true) × (allows (RootOf sizes.m) s ≡ true) × (nat_abs r ≢ nat_abs s)
Fits awaited sizes listed (line.Weyl indices) = (awaited ≡ wants.Command) × All (λ i. is_within (pos 1) (pos sizes.l) i ≡ true) indices
Fits awaited sizes listed (line.Adjoint name) = (awaited ≡ wants.Command) × IsNewName listed name
Fits awaited sizes listed (line.Orbit name v) =
    (awaited ≡ wants.Command) × IsNewName listed name × (length v ≡ sizes.d) × All (λ c. is_within (negsuc 99) (pos 100) c ≡ true) v
Fits awaited sizes listed (line.Sum name a b) =
    (awaited ≡ wants.Command) × IsNewName listed name × IsSome (dimension_of listed a) × IsSome (dimension_of listed b)
Fits awaited sizes listed (line.Tensor name a b) =
    (awaited ≡ wants.Command) × IsNewName listed name × IsSome (dimension_of listed a) × IsSome (dimension_of listed b)
Fits awaited sizes listed (line.Dual name a) = (awaited ≡ wants.Command) × IsNewName listed name × IsSome (dimension_of listed a)
Fits awaited sizes listed (line.Table name n e) =
    (awaited ≡ wants.Command) × IsNewName listed name × (1 ≤ n) × (n ≤ 300) × (e ≤ 20000)
Fits awaited sizes listed (line.Weight v) =
    (awaited ≡ wants.Weight) × (length v ≡ sizes.d) × All (λ c. is_within (negsuc 999) (pos 1000) c ≡ true) v
Fits awaited sizes listed (line.Entry simple power row col value) = (awaited ≡ wants.Entry) × IsEntry sizes simple power row col value
Fits awaited sizes listed (line.Cover name axis c) = (awaited ≡ wants.Command) × IsCover sizes listed name axis c
Fits awaited sizes listed (line.Matrix name w) = (awaited ≡ wants.Command) × IsSome (dimension_of listed name) × IsWordWithin sizes w
Fits awaited sizes listed (line.Reduce name) = (awaited ≡ wants.Command) × IsSome (dimension_of listed name)
Fits awaited sizes listed (line.Row row) = (awaited ≡ wants.Row) × (length row ≡ sizes.dim) × All (λ a. is_element sizes.q a ≡ true) row

-- every line that passes its checks fits
abbrev pub AcceptedLinesFit : Type 0
AcceptedLinesFit =
    (awaited : Wants) (sizes : Sizes) (listed : Listed) (bytes : List ℕ) → IfOk (reads awaited sizes listed bytes) (Fits awaited sizes listed)
