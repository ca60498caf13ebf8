use Rattle.std.proofs.Common.{◌≡◌, ◌∷◌, length, map, reverse, take}
use Rattle.lie_letters.specs.Entries.{AreUnits}
use Rattle.lie_letters.specs.Frames.{dim}
use Rattle.lie_letters.specs.GroupSpelled.{JoinedInGroup}
use Rattle.lie_letters.specs.SignedFrames.{unsigned}
use Rattle.lie_letters.specs.Spelled.{reversed}
use Rattle.lie_letters.specs.declared.letter.Letter.TheVariants.{H, N}
use Rattle.lie_bruhat.proofs.bruhat.inverse_torus.Given as goal

abbrev pub invariant-loop-k : goal.invariant-loop-k
invariant-loop-k l =
    AreUnits l.frame.field l.t × (dim (unsigned l.frame) ≡ length l.t)
    × JoinedInGroup l.frame (reversed l.frame.field (H l.h ∷ map N (take l.k l.word))) (H l.t ∷ map N (reverse (take l.k l.word)))
