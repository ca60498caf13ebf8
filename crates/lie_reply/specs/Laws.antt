-- What equal replies to `form` mean.
use Rattle.std.specs.Prelude.{◌≡◌, ℕ, List}
use Rattle.lie_field.specs.Faults.{IsWithinLimit}
use Rattle.lie_letters.specs.GroupSpelled.{JoinedInGroup}
use Rattle.lie_letters.specs.SignedFrames.{SignedFrame, IsLawfulSigned}
use Rattle.lie_letters.specs.declared.letter.Letter.{Letter}
use Rattle.lie_unip.specs.Forms.{FormData, IsForm}
use Rattle.lie_reply.specs.Commands.{TellsForm, FormTextOf}

-- in a field within the limits, two forms with one text are equal
abbrev pub EqualTextsEqualForms : Type 0
EqualTextsEqualForms =
    (g : SignedFrame) (x y : FormData) (text : List ℕ) → IsLawfulSigned g → IsWithinLimit g.field.given → IsForm g x → IsForm g y → TellsForm g.datum x text → TellsForm g.datum y text → x ≡ y

-- in a field within the limits, two words with one reply are joined
abbrev pub RepliesTellWords : Type 0
RepliesTellWords =
    (g : SignedFrame) (w v : List Letter) (text : List ℕ) → IsLawfulSigned g → IsWithinLimit g.field.given → FormTextOf g w text → FormTextOf g v text → JoinedInGroup g w v
