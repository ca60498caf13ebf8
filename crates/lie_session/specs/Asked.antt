-- The words whose forms the commands ask for, and whether two words are joined.
-- Own.
use Rattle.std.specs.Prelude.{◌≡◌, ◌⊎◌, ◌++◌, true, false, ℕ, List, Option, Some, None}
use Rattle.lie_field.specs.FiniteField.{FiniteField}
use Rattle.lie_letters.specs.GroupSpelled.{JoinedInGroup}
use Rattle.lie_letters.specs.SignedFrames.{SignedFrame}
use Rattle.lie_letters.specs.Spelled.{reversed}
use Rattle.lie_letters.specs.declared.letter.Letter.{Letter}
use Rattle.lie_reply.specs.Texts.{same_text}
use Rattle.lie_script.specs.declared.line.Line.{Line}
use Rattle.lie_script.specs.declared.line.Line.TheVariants as line

-- the word whose form a command asks for, over the field: that of `form`, the product of `mul`, the reversed word of `inv`
abbrev pub asked_word : FiniteField → Line → Option (List Letter)
asked_word F (line.Form w) = Some w
asked_word F (line.Mul w v) = Some (w ++ v)
asked_word F (line.Inv w) = Some (reversed F w)
asked_word F _ = None

-- the text says whether the words are joined
abbrev pub TellsSame : SignedFrame → List Letter → List Letter → List ℕ → Type 0
TellsSame f w v text = (JoinedInGroup f w v × (text ≡ same_text true)) ⊎ ((¬ JoinedInGroup f w v) × (text ≡ same_text false))
