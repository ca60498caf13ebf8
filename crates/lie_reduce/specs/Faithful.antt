-- A covering module that is audited for a lawful frame is faithful.
-- Source: Steinberg, Lectures on Chevalley Groups, 3 (the group acts faithfully on a module whose weights span the lattice).
use Rattle.std.specs.Prelude.{◌≡◌, ◌↔◌, List}
use Rattle.lie_audit.specs.WordMatrix.{word_matrix}
use Rattle.lie_const.specs.Modules.{Module}
use Rattle.lie_letters.specs.GroupSpelled.{JoinedInGroup}
use Rattle.lie_letters.specs.SignedFrames.{SignedFrame, unsigned}
use Rattle.lie_letters.specs.Spelled.{IsWordOver}
use Rattle.lie_letters.specs.declared.letter.Letter.{Letter}
use Rattle.lie_reduce.specs.UniqueForms.{IsCoveringFor}

-- words of the frame are joined exactly if they have one matrix
abbrev pub CoveringModulesAreFaithful : Type 0
CoveringModulesAreFaithful =
    (f : SignedFrame) (v : Module) → IsCoveringFor f v → (w u : List Letter) → IsWordOver (unsigned f) w → IsWordOver (unsigned f) u
    → JoinedInGroup f w u ↔ (word_matrix f.field v w ≡ word_matrix f.field v u)
