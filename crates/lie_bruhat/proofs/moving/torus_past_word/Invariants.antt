use Rattle.std.proofs.Common.{◌≡◌, ◌-◌, ◌∷◌, [], length, map, drop}
use Rattle.lie_letters.specs.Entries.{AreUnits}
use Rattle.lie_letters.specs.Frames.{dim}
use Rattle.lie_letters.specs.SignedFrames.{unsigned}
use Rattle.lie_letters.specs.declared.letter.Letter.TheVariants.{H, N}
use Rattle.lie_bruhat.proofs.PassLemmas.{Passes}
use Rattle.lie_bruhat.proofs.moving.torus_past_word.Given as goal

abbrev pub invariant-loop-k : goal.invariant-loop-k
invariant-loop-k l =
    AreUnits l.frame.field l.moved × (dim (unsigned l.frame) ≡ length l.moved)
    × Passes l.frame (map N (drop (length l.word - l.k) l.word)) (H l.t ∷ []) (H l.moved ∷ [])
