-- Words that are joined by the relations have equal matrices on an audited module.
-- Source: Steinberg, Lectures on Chevalley Groups, 6 (a group in which the relations hold is an image of the presented one).
-- Own: the step from the Laurent polynomials, over which a module is audited, to the elements of a finite field.
use Rattle.std.specs.Prelude.{◌≡◌, List}
use Rattle.lie_const.specs.Modules.{Module}
use Rattle.lie_const.specs.Signs.{eta_of}
use Rattle.lie_letters.specs.declared.letter.Letter.{Letter as CodeLetter}
use Rattle.lie_letters.specs.SignedFrames.{SignedFrame, IsLawfulSigned}
use Rattle.lie_letters.specs.GroupSpelled.{JoinedInGroup}
use Rattle.lie_identities.specs.Audit.{MeetsIdentities}
use Rattle.lie_audit.specs.WordMatrix.{word_matrix}

-- on a module that is audited for a lawful frame, words that are joined in its group have one matrix over its field
abbrev pub EqualMatrices : Type 0
EqualMatrices = (f : SignedFrame) (v : Module) → IsLawfulSigned f → MeetsIdentities f.datum f.constants (eta_of f.signs) v
    → (w u : List CodeLetter) → JoinedInGroup f w u → word_matrix f.field v w ≡ word_matrix f.field v u
