-- A script has one output, but for the forms that `collect` prints.
-- Own. `collect` comes before the group is loaded: where no covering module is known, its reply may be the text of any form that is joined to the word.
use Rattle.std.specs.Prelude.{◌≡◌, ◌⊎◌, ℕ, ◌+◌, List, [], ◌∷◌, ◌++◌, Some}
use Rattle.std.specs.Bool.{MatchBool}
use Rattle.std.specs.List.{AllByRecursion}
use Rattle.lie_group.specs.Loading.{IsSameFrame}
use Rattle.lie_letters.specs.SignedFrames.{SignedFrame}
use Rattle.lie_letters.specs.declared.letter.Letter.{Letter}
use Rattle.lie_reply.specs.Commands.{FormTextOf}
use Rattle.lie_script.specs.declared.line.Line.TheVariants as line
use Rattle.lie_session.specs.Lines.{lines_of}
use Rattle.lie_session.specs.Output.{rests, bytes_of, IsOutput}
use Rattle.lie_session.specs.Replies.{Replies, SaysLine}
use Rattle.lie_session.specs.State.{State, fresh, field_of, datum_of}
use Rattle.lie_session.specs.declared.mode.Mode.{Mode}
use Rattle.lie_session.specs.declared.reply.Kind.TheVariants as kind
use Rattle.lie_session.specs.declared.reply.Reply.{Reply}
use Rattle.lie_session.specs.declared.status.Status.{Status}

-- In the state, a and b are answers to one line `collect`: texts of forms of its word, for frames of the field and the datum of the
-- session, whose constants say the same and whose signs are the same.
pub record AreForms (s : State) (bytes : List ℕ) (a b : Reply) : Type 0 where
  pub word : List Letter
  pub says : SaysLine s bytes (line.Collect word)
  pub frame : SignedFrame
  pub other : SignedFrame
  pub field_is : field_of s.stage ≡ Some frame.field
  pub datum_is : datum_of s.stage ≡ Some frame.datum
  pub same : IsSameFrame frame other
  pub kinds : (a.kind ≡ kind.Answer) × (b.kind ≡ kind.Answer)
  pub left : FormTextOf frame word a.bytes
  pub right : FormTextOf other word b.bytes

-- From a state in which n lines were read, a are replies to the lines in order, and b are those but for forms. A session that rests replies to
-- no more.
abbrev pub AreAlike : Mode → State → ℕ → List (List ℕ) → List Reply → List Reply → Type 0
AreAlike mode s n [] a b = (a ≡ []) × (b ≡ [])
AreAlike mode s n (bytes ∷ lines) a b =
    MatchBool (rests mode s) ((a ≡ []) × (b ≡ []))
    ((x : Reply) × (y : Reply) × (next : State) × (xs : List Reply) × (ys : List Reply) × Replies s (n + 1) bytes x next × ((x ≡ y) ⊎ AreForms s bytes x y)
    × (a ≡ x ∷ xs) × (b ≡ y ∷ ys) × AreAlike mode next (n + 1) lines xs ys)

-- two outputs of the script are written by replies that are alike, one by one, and by the same reply of the end
abbrev pub AreAlikeOutputs : Mode → List ℕ → List ℕ → List ℕ → Type 0
AreAlikeOutputs mode input out other =
    (a : List Reply) × (b : List Reply) × (tail : List Reply) × AreAlike mode fresh 0 (lines_of input) a b × (out ≡ bytes_of (a ++ tail)) × (other ≡ bytes_of (b ++ tail))

-- two outputs of a script are the same but for forms that `collect` prints, and have one status
abbrev pub OneOutputUpToCollect : Type 0
OneOutputUpToCollect =
    (mode : Mode) (input out other : List ℕ) (status status' : Status) → IsOutput mode input out status → IsOutput mode input other status'
    → AreAlikeOutputs mode input out other × (status ≡ status')

-- in no state does the line say `collect`
abbrev pub CollectsNothing : List ℕ → Type 0
CollectsNothing bytes = (s : State) (w : List Letter) → ¬ SaysLine s bytes (line.Collect w)

-- a script without lines `collect` has one output, with one status
abbrev pub OneOutput : Type 0
OneOutput =
    (mode : Mode) (input out other : List ℕ) (status status' : Status) → AllByRecursion CollectsNothing (lines_of input) → IsOutput mode input out status
    → IsOutput mode input other status' → (out ≡ other) × (status ≡ status')
