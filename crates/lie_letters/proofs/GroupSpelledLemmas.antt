-- Words of the program that are joined in the group: an equivalence, kept under appending on both sides.
use Rattle.std.proofs.Common.{◌≡◌, List, [], ◌∷◌, ◌++◌, map, sym, ◌∙◌, ap₂, subst}
use Rattle.std.proofs.lemmas.List.{map-append}
use Rattle.lie_letters.specs.declared.letter.Letter.{Letter as CodeLetter}
use Rattle.lie_letters.specs.Chains.{StepBy, forward, backward, same, next}
use Rattle.lie_letters.specs.Setting.{Setting}
use Rattle.lie_letters.specs.Frames.{setting}
use Rattle.lie_letters.specs.Letters.{Word}
use Rattle.lie_letters.specs.Relations.{Relation, Joined}
use Rattle.lie_letters.specs.SignedFrames.{Sign, SignedFrame, unsigned, sign_at}
use Rattle.lie_letters.specs.GroupRelations.{GroupRelation, GroupJoined, plain}
use Rattle.lie_letters.specs.GroupSpelled.{JoinedInGroup}
use Rattle.lie_letters.specs.Spelled.{spelled, JoinedSpelled, IsWordOver}
use Rattle.lie_letters.proofs.ChainLemmas.{trans, flip, both}
use Rattle.lie_letters.proofs.SpelledLemmas.{words_same, word_of, IsWordOver-spelled}

-- an exchange by S0 to S4 is one by all relations
grouped-step : {S : Setting} (sign : Sign S) {u v : Word S} → StepBy (Relation S) u v → StepBy (GroupRelation S sign) u v
grouped-step sign (forward p q e) = forward p q (plain e)
grouped-step sign (backward p q e) = backward p q (plain e)

-- a chain by S0 to S4 is one by all relations
pub grouped : {S : Setting} (sign : Sign S) {u v : Word S} → Joined S u v → GroupJoined S sign u v
grouped sign same = same
grouped sign (next s d) = next (grouped-step sign s) (grouped sign d)

module _ (f : SignedFrame) where
  -- a word of the frame is joined to itself
  pub JoinedInGroup-refl : (u : List CodeLetter) → IsWordOver (unsigned f) u → JoinedInGroup f u u
  JoinedInGroup-refl u h =
      let w = word_of (unsigned f) u h in
      record { left = w.0; right = w.0; left_spelled = w.1; right_spelled = w.1; joined = same }

  -- what is joined to a joined word is joined
  pub JoinedInGroup-trans : (u v w : List CodeLetter) → JoinedInGroup f u v → JoinedInGroup f v w → JoinedInGroup f u w
  JoinedInGroup-trans u v w d e = record {
    left = d.left;
    right = e.right;
    left_spelled = d.left_spelled;
    right_spelled = e.right_spelled;
    joined = trans d.joined (subst (λ z. GroupJoined (setting (unsigned f)) (sign_at f) z e.right) (words_same (unsigned f) e.left d.right (e.left_spelled ∙ sym d.right_spelled)) e.joined);
  }

  -- joined the other way round
  pub JoinedInGroup-flip : (u v : List CodeLetter) → JoinedInGroup f u v → JoinedInGroup f v u
  JoinedInGroup-flip u v d = record {
    left = d.right;
    right = d.left;
    left_spelled = d.right_spelled;
    right_spelled = d.left_spelled;
    joined = flip d.joined;
  }

  -- joined part by part
  pub JoinedInGroup-append : (u v u' v' : List CodeLetter) → JoinedInGroup f u v → JoinedInGroup f u' v' → JoinedInGroup f (u ++ u') (v ++ v')
  JoinedInGroup-append u v u' v' d e = record {
    left = d.left ++ e.left;
    right = d.right ++ e.right;
    left_spelled = map-append (spelled (unsigned f)) d.left e.left ∙ ap₂ ◌++◌ d.left_spelled e.left_spelled;
    right_spelled = map-append (spelled (unsigned f)) d.right e.right ∙ ap₂ ◌++◌ d.right_spelled e.right_spelled;
    joined = both d.joined e.joined;
  }

  -- the second of two joined words is a word of the frame
  pub JoinedInGroup-over : (u v : List CodeLetter) → JoinedInGroup f u v → IsWordOver (unsigned f) v
  JoinedInGroup-over u v d = subst (IsWordOver (unsigned f)) d.right_spelled (IsWordOver-spelled (unsigned f) d.right)

  -- words that are joined by S0 to S4 are joined
  pub JoinedInGroup-plain : (u v : List CodeLetter) → JoinedSpelled (unsigned f) u v → JoinedInGroup f u v
  JoinedInGroup-plain u v d = record {
    left = d.left;
    right = d.right;
    left_spelled = d.left_spelled;
    right_spelled = d.right_spelled;
    joined = grouped (sign_at f) d.joined;
  }
