-- Words of the program that are joined by all relations, S0 to S7.
-- Own: as for S0 to S4, chains lead through words of the setting, so a word with a letter that is out of range is joined to none.
--
--   u and v are joined in the group      JoinedInGroup f u v
use Rattle.std.specs.Prelude.{◌≡◌, List, map}
use Rattle.lie_letters.specs.declared.letter.Letter.{Letter as CodeLetter}
use Rattle.lie_letters.specs.Frames.{setting}
use Rattle.lie_letters.specs.Letters.{Word}
use Rattle.lie_letters.specs.SignedFrames.{SignedFrame, unsigned, sign_at}
use Rattle.lie_letters.specs.GroupRelations.{GroupJoined}
use Rattle.lie_letters.specs.Spelled.{spelled}

-- words that are spelled so are joined in the group
pub record JoinedInGroup (f : SignedFrame) (u v : List CodeLetter) : Type 0 where
  pub left : Word (setting (unsigned f))
  pub right : Word (setting (unsigned f))
  pub left_spelled : map (spelled (unsigned f)) left ≡ u
  pub right_spelled : map (spelled (unsigned f)) right ≡ v
  pub joined : GroupJoined (setting (unsigned f)) (sign_at f) left right
